-- What couriers note, write and read.
use Rattle.std.specs.Prelude.{◌≡◌, ℕ, ◌+◌, ◌*◌, ◌≤◌, Bool, true, false, List, [], ◌∷◌, ◌++◌, length, Option, IfSome}
use Rattle.std.specs.Io.KnownBytes.{Appends}
use Rattle.gw_ack.specs.declared.receipt.Ack.{Ack}
use Rattle.gw_ack.specs.declared.receipt.Ack.TheVariants.{AA, AE, AR}
use Rattle.gw_ack.specs.Acknowledged.{Acknowledges}
use Rattle.gw_ack.specs.Headers.{control_of}
use Rattle.gw_er7.specs.Message.{SegmentValue}
use Rattle.gw_er7.specs.Written.{written}
use Rattle.gw_gate.specs.Journal.{WasOut}
use Rattle.gw_gate.specs.Parts.{TranslatedSeen}
use Rattle.gw_gate.specs.Seen.{message_seen}
use Rattle.gw_mllp.specs.Stream.{Has, Held, Tail, block}
use Rattle.gw_stream.specs.declared.counts.Counts.{Counts}
use Rattle.gw_stream.specs.declared.fault.RunFault.{RunFault}
use Rattle.gw_stream.specs.declared.fault.RunFault.TheVariants.{Memory, Line, Turns}
use Rattle.gw_stream.specs.declared.sink.Sink as sink
use Rattle.gw_stream.specs.declared.source.Source as source
use Rattle.gw_stream.specs.Counted.{nothing}
use Rattle.gw_stream.specs.Reading.{ReadTimes}
use Rattle.gw_stream.specs.Sent.{BeginsWith}
use Rattle.gw_stream.specs.Streams.{HasFirst}
use Rattle.gw_crew.specs.declared.door.Door as door
use Rattle.gw_crew.specs.Notes.{NoteSeen, WasFull, WasNothing, Added}
use Rattle.gw_crew.specs.Streams.{Reading, Spot, spot}

-- one block more was sent, and acknowledged with this code
abbrev pub with_sent : Ack → Counts → Counts
with_sent AA counts = record counts { sent = counts.sent + 1; aa = counts.aa + 1 }
with_sent AE counts = record counts { sent = counts.sent + 1; ae = counts.ae + 1 }
with_sent AR counts = record counts { sent = counts.sent + 1; ar = counts.ar + 1 }

-- The notes of a courier's rounds for a receiver, with the bytes that it wrote, the blocks that came back, and its counts:
-- a translation is given out, its block written, and acknowledged by the next block; or there was none, and the courier waited.
pub data Rounds (r : ℕ) : List NoteSeen → List ℕ → List (List ℕ) → Counts → Type 0 where
  no_round : Rounds r [] [] [] nothing
  sent_one : (notes : List NoteSeen) (sent : List ℕ) (blocks : List (List ℕ)) (counts : Counts) (at n : ℕ) (t : TranslatedSeen) (message : List SegmentValue)
      (content : List ℕ) (ack : Ack)
      → Rounds r notes sent blocks counts → t.message ≡ message_seen message → Acknowledges content (control_of message) ack
      → Rounds r (notes ++ Added at (WasOut n r t) ∷ []) (sent ++ block (written message)) (blocks ++ content ∷ []) (with_sent ack counts)
  waited : (notes : List NoteSeen) (sent : List ℕ) (blocks : List (List ℕ)) (counts : Counts) → Rounds r notes sent blocks counts
      → Rounds r (notes ++ WasNothing r ∷ []) sent blocks counts

-- the last note of a courier that ends without a fault
pub data Ends (r : ℕ) : NoteSeen → Type 0 where
  none_left : Ends r (WasNothing r)
  full : Ends r WasFull

-- only rounds were noted
pub record Carried (r : ℕ) (before after : Option (List ℕ)) (old new : List NoteSeen) (blocks : List (List ℕ)) (counts : Counts) : Type 0 where
  pub notes : List NoteSeen
  pub sent : List ℕ
  pub rounds : Rounds r notes sent blocks counts
  pub noted : new ≡ old ++ notes
  pub wrote : Appends before after sent

-- A courier's rounds and its end were noted: it wrote the blocks of what it was given out, and the first blocks of the stream acknowledge them.
pub record Carries (r : ℕ) (stream before after : Option (List ℕ)) (old new : List NoteSeen) (counts : Counts) : Type 0 where
  pub mid : List NoteSeen
  pub blocks : List (List ℕ)
  pub carried : Carried r before after old mid blocks counts
  pub last : NoteSeen
  pub ends : Ends r last
  pub noted : new ≡ mid ++ last ∷ []
  pub first : IfSome stream (λ bytes. HasFirst bytes blocks)

-- ---- faults

-- How the line fails behind these blocks: the writer or the reader failed, or the stream has no block more, or it isn't the acknowledgment of this control id.
pub data Fails (writer reader : Bool) (stream : Option (List ℕ)) (blocks : List (List ℕ)) (control : List ℕ) : Type 0 where
  write : writer ≡ true → Fails writer reader stream blocks control
  read : reader ≡ true → Fails writer reader stream blocks control
  ended : (tail : Tail) → IfSome stream (λ bytes. Has bytes blocks tail) → Fails writer reader stream blocks control
  denied : (content : List ℕ) → IfSome stream (λ bytes. HasFirst bytes (blocks ++ content ∷ [])) → ((ack : Ack) → Acknowledges content control ack → ⊥)
      → Fails writer reader stream blocks control

-- Between two counts a source was read `earlier` times for these blocks, at most 1,000,000 times for each.
-- Then it was read 1,000,000 times for the next one in vain. Each read gave a byte, and 4,096 bytes at most.
pub record ReadInVain (first reads : ℕ) (stream : Option (List ℕ)) (blocks : List (List ℕ)) : Type 0 where
  pub earlier : ℕ
  pub least : length blocks ≤ earlier * 4096
  pub most : earlier ≤ length blocks * 1000000
  pub counted : ReadTimes (earlier + 1000000) first reads
  pub many : IfSome stream (λ bytes. earlier + 1000000 ≤ length bytes)

-- Why there is no acknowledgment of the message of this number: allocation failure, too many reads, or a fault of its line.
-- The reader's reads are counted from `first` to `reads`.
pub data LineFails (n : ℕ) (writer reader : Bool) (first reads : ℕ) (stream : Option (List ℕ)) (blocks : List (List ℕ)) (control : List ℕ)
    : RunFault → Type 0 where
  memory : writer ≡ false → reader ≡ false → LineFails n writer reader first reads stream blocks control Memory
  turns : writer ≡ false → reader ≡ false → ReadInVain first reads stream blocks → LineFails n writer reader first reads stream blocks control Turns
  line : Fails writer reader stream blocks control → LineFails n writer reader first reads stream blocks control (Line n)

-- What a courier had in hand behind these blocks: the message of this number was given out, and a beginning of its block written.
pub record Hand (r n : ℕ) (control : List ℕ) (blocks : List (List ℕ)) (before after : Option (List ℕ)) (old new : List NoteSeen) : Type 0 where
  pub mid : List NoteSeen
  pub between : Option (List ℕ)
  pub counts : Counts
  pub carried : Carried r before between old mid blocks counts
  pub at : ℕ
  pub t : TranslatedSeen
  pub message : List SegmentValue
  pub message_is : t.message ≡ message_seen message
  pub control_is : control ≡ control_of message
  pub noted : new ≡ mid ++ Added at (WasOut n r t) ∷ []
  pub part : List ℕ
  pub begins : BeginsWith (block (written message)) part
  pub wrote : Appends between after part

-- A courier's rounds were noted, and what it had in hand when the fault came; or an allocation failed and no message was given out.
pub data Breaks (r : ℕ) (writer reader : Bool) (first reads : ℕ) (stream before after : Option (List ℕ)) (old new : List NoteSeen) : RunFault → Type 0 where
  empty_handed : (blocks : List (List ℕ)) (counts : Counts) → writer ≡ false → reader ≡ false → Carried r before after old new blocks counts
      → Breaks r writer reader first reads stream before after old new Memory
  in_hand : (n : ℕ) (control : List ℕ) (blocks : List (List ℕ)) (fault : RunFault) → Hand r n control blocks before after old new
      → LineFails n writer reader first reads stream blocks control fault
      → Breaks r writer reader first reads stream before after old new fault

-- ---- how a courier comes there

-- the next block of a source that a decoder gave
abbrev pub GivesNext : Spot → Spot → Held → Held → List ℕ → Type 0
GivesNext unread left old new content =
    (from : Spot) (blocks : List (List ℕ)) → Reading 0 from unread blocks old → Reading 0 from left (blocks ++ content ∷ []) new

-- it acknowledges the message of this control id
pub record Acked (unread left : Spot) (old new : Held) (control : List ℕ) (ack : Ack) : Type 0 where
  pub content : List ℕ
  pub next : GivesNext unread left old new content
  pub says : Acknowledges content control ack

-- why it gave none
abbrev pub GivesNone : ℕ → Bool → Bool → ℕ → Spot → Held → List ℕ → RunFault → Type 0
GivesNone n writer reader reads unread old control fault =
    (from : Spot) (blocks : List (List ℕ)) → Reading 0 from unread blocks old → LineFails n writer reader from.reads reads from.left blocks control fault

-- the same whatever is to be acknowledged, where nothing was written
abbrev pub GivesNoBlock : ℕ → Bool → ℕ → Spot → Held → RunFault → Type 0
GivesNoBlock n reader reads unread old fault = (control : List ℕ) → GivesNone n false reader reads unread old control fault

-- a block was written, and acknowledged for this control id
pub record Sent (bytes control : List ℕ) (before after : Option (List ℕ)) (unread left : Spot) (old new : Held) (ack : Ack) : Type 0 where
  pub wrote : Appends before after bytes
  pub acked : Acked unread left old new control ack

-- a block was written in part or whole, and not acknowledged for this control id
pub record Unsent (n : ℕ) (writer reader : Bool) (reads : ℕ) (bytes control : List ℕ) (before after : Option (List ℕ))
    (unread : Spot) (old : Held) (fault : RunFault) : Type 0 where
  pub part : List ℕ
  pub begins : BeginsWith bytes part
  pub wrote : Appends before after part
  pub fails : GivesNone n writer reader reads unread old control fault

-- ---- the same of a door, a source and a sink, by what they say of themselves

abbrev pub SentBy : {R W : Type 0} → source.Ghosts R → sink.Ghosts W → List ℕ → List ℕ → R → R → W → W → Held → Held → Ack → Type 0
SentBy by to bytes control reader reader' writer writer' old new =
    Sent bytes control (to.contents writer) (to.contents writer') (spot by reader) (spot by reader') old new

abbrev pub UnsentBy : {R W : Type 0} → source.Ghosts R → sink.Ghosts W → ℕ → List ℕ → List ℕ → R → R → W → W → Held → RunFault → Type 0
UnsentBy by to n bytes control reader reader' writer writer' old =
    Unsent n (to.has_failed writer') (by.has_failed reader') (by.reads reader') bytes control (to.contents writer) (to.contents writer') (spot by reader) old

abbrev pub CarriesBy : {D R W : Type 0} → door.Ghosts D → source.Ghosts R → sink.Ghosts W → ℕ → D → D → R → W → W → Counts → Type 0
CarriesBy at by to r door door' reader writer writer' =
    Carries r (by.remaining reader) (to.contents writer) (to.contents writer') (at.noted door) (at.noted door')

abbrev pub BreaksBy : {D R W : Type 0} → door.Ghosts D → source.Ghosts R → sink.Ghosts W → ℕ → D → D → R → R → W → W → RunFault → Type 0
BreaksBy at by to r door door' reader reader' writer writer' =
    Breaks r (to.has_failed writer') (by.has_failed reader') (by.reads reader) (by.reads reader') (by.remaining reader)
    (to.contents writer) (to.contents writer') (at.noted door) (at.noted door')

-- ---- how it goes on

-- so far only rounds were noted, and the decoder has given the blocks that acknowledge them
pub record Progress (r : ℕ) (from left : Spot) (before after : Option (List ℕ)) (held : Held) (old new : List NoteSeen) (counts : Counts) : Type 0 where
  pub blocks : List (List ℕ)
  pub carried : Carried r before after old new blocks counts
  pub reading : Reading 0 from left blocks held

-- why a content isn't taken as the acknowledgment of the message of this number and control id
pub data Denies (n : ℕ) (content control : List ℕ) : RunFault → Type 0 where
  no_memory : Denies n content control Memory
  not_acknowledged : ((ack : Ack) → Acknowledges content control ack → ⊥) → Denies n content control (Line n)
