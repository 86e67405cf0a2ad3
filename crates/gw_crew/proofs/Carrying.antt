-- A courier's rounds.
use Rattle.std.proofs.Common.{◌≡◌, ◌≤◌, ◌<◌, ◌+◌, ℕ, Bool, true, false, List, [], ◌∷◌, ◌++◌, Option, IfSome, Result, Ok, Err, IfErr, length, refl}
use Rattle.std.proofs.Common.{sym, ap, subst, ◌∙◌, arith, append_assoc, append-nil, length-append}
use Rattle.std.proofs.KnownBytes.{Appends-nil, Appends-trans, Consumes-nil, Consumes-trans, Consumes-whole}
use Rattle.std.specs.Io.KnownBytes.{Appends, Consumes, IsAtEnd}
use Rattle.gw_ack.specs.declared.receipt.Ack.{Ack}
use Rattle.gw_ack.specs.declared.receipt.Ack.TheVariants.{AA}
use Rattle.gw_ack.specs.Acknowledged.{Acknowledges}
use Rattle.gw_ack.specs.Headers.{control_of}
use Rattle.gw_er7.specs.Message.{SegmentValue}
use Rattle.gw_er7.specs.Written.{written}
use Rattle.gw_gate.specs.Journal.{WasOut}
use Rattle.gw_gate.specs.Parts.{TranslatedSeen}
use Rattle.gw_gate.specs.Seen.{message_seen}
use Rattle.gw_mllp.specs.Stream.{Has, HasGiven, Held, IsFed, Stands, Tail, Overlong, block}
use Rattle.gw_stream.specs.declared.counts.Counts.{Counts}
use Rattle.gw_stream.specs.declared.fault.RunFault.{RunFault}
use Rattle.gw_stream.specs.declared.fault.RunFault.TheVariants.{Memory, Line}
use Rattle.gw_stream.specs.Counted.{nothing}
use Rattle.gw_stream.specs.Reading.{ReadTimes}
use Rattle.gw_stream.specs.Sent.{SendsPart}
use Rattle.gw_stream.specs.Streams.{HasFirst}
use Rattle.gw_crew.specs.Notes.{NoteSeen, WasFull, WasNothing, Added}
use Rattle.gw_stream.proofs.Walking.{first_whole, has_few, long_enough, long_whole, stands_all}
use Rattle.gw_crew.specs.Streams.{Reading, Spot}
use Rattle.gw_crew.specs.own.Turns.{Adds, Waits, never, again, ComesOut, ComesNone}
use Rattle.gw_crew.specs.Carries.{Rounds, no_round, sent_one, waited, none_left, full, Carried, Carries, write, denied, LineFails, ReadInVain}
use Rattle.gw_crew.specs.Carries.{memory, line, Breaks, empty_handed, in_hand, GivesNext, GivesNone, Sent, Unsent}
use Rattle.gw_crew.specs.Carries.{Denies, no_memory, not_acknowledged, Progress, with_sent}

-- ---- numbers

total_one : (ack : Ack) (c : Counts) → c.aa + c.ae + c.ar ≡ c.sent → (with_sent ack c).aa + (with_sent ack c).ae + (with_sent ack c).ar ≡ (with_sent ack c).sent
total_one AA c is = omega arith
total_one ack c is = omega arith

sent_once : (ack : Ack) (c : Counts) → (with_sent ack c).sent ≡ c.sent + 1
sent_once AA c = refl
sent_once ack c = refl

pub record IsCount (notes : List NoteSeen) (c : Counts) : Type 0 where
  pub total : c.aa + c.ae + c.ar ≡ c.sent
  pub few : c.sent ≤ length notes

pub counted : (r : ℕ) (notes : List NoteSeen) (sent : List ℕ) (blocks : List (List ℕ)) (c : Counts) → Rounds r notes sent blocks c → IsCount notes c
counted r notes sent blocks c no_round = record { total = omega arith; few = omega arith }
counted r notes sent blocks c (sent_one before bytes contents was at n t message content ack rounds is says) =
    let had = counted r before bytes contents was rounds in
    let one = sent_once ack was in
    let few = had.few in
    let long = length-append before (Added at (WasOut n r t) ∷ []) in
    record { total = total_one ack was had.total; few = omega (arith, one, few, long) }
counted r notes sent blocks c (waited before bytes contents was rounds) =
    let had = counted r before bytes contents was rounds in
    let few = had.few in
    let long = length-append before (WasNothing r ∷ []) in
    record { total = had.total; few = omega (arith, few, long) }

-- ---- notes

waits_on : (r : ℕ) (notes more : List NoteSeen) (sent : List ℕ) (blocks : List (List ℕ)) (c : Counts) → Rounds r notes sent blocks c → Waits r more
    → Rounds r (notes ++ more) sent blocks c
waits_on r notes more sent blocks c rounds never = subst (λ l. Rounds r l sent blocks c) (sym (append-nil notes)) rounds
waits_on r notes more sent blocks c rounds (again before was) =
    subst (λ l. Rounds r l sent blocks c) (append_assoc notes before (WasNothing r ∷ []))
    (waited (notes ++ before) sent blocks c (waits_on r notes before sent blocks c rounds was))

pub waits_none : (r : ℕ) (old : List NoteSeen) → Adds (Waits r) old old
waits_none r old = record { more = []; holds = never; noted = sym (append-nil old) }

pub carried_none : (r : ℕ) (w : Option (List ℕ)) (old : List NoteSeen) → Carried r w w old old [] nothing
carried_none r w old = record { notes = []; sent = []; rounds = no_round; noted = sym (append-nil old); wrote = Appends-nil w }

pub carried_waits : (r : ℕ) (w w' : Option (List ℕ)) (old mid new : List NoteSeen) (blocks : List (List ℕ)) (c : Counts) → Carried r w w' old mid blocks c
    → Adds (Waits r) mid new → Carried r w w' old new blocks c
carried_waits r w w' old mid new blocks c was waits = record {
  notes = was.notes ++ waits.more;
  sent = was.sent;
  rounds = waits_on r was.notes waits.more was.sent blocks c was.rounds waits.holds;
  noted = waits.noted ∙ ap (λ l. l ++ waits.more) was.noted ∙ append_assoc old was.notes waits.more;
  wrote = was.wrote;
}

pub carried_one : (r n : ℕ) (w w1 w2 : Option (List ℕ)) (old mid new : List NoteSeen) (blocks : List (List ℕ)) (c : Counts) (at : ℕ) (t : TranslatedSeen)
    (message : List SegmentValue) (content : List ℕ) (ack : Ack)
    → Carried r w w1 old mid blocks c → new ≡ mid ++ Added at (WasOut n r t) ∷ [] → t.message ≡ message_seen message → Appends w1 w2 (block (written message)) →
    Acknowledges content (control_of message) ack
    → Carried r w w2 old new (blocks ++ content ∷ []) (with_sent ack c)
carried_one r n w w1 w2 old mid new blocks c at t message content ack was is seen wrote says = record {
  notes = was.notes ++ Added at (WasOut n r t) ∷ [];
  sent = was.sent ++ block (written message);
  rounds = sent_one was.notes was.sent blocks c at n t message content ack was.rounds seen says;
  noted = is ∙ ap (λ l. l ++ Added at (WasOut n r t) ∷ []) was.noted ∙ append_assoc old was.notes (Added at (WasOut n r t) ∷ []);
  wrote = Appends-trans w w1 w2 was.sent (block (written message)) was.wrote wrote;
}

-- ---- the stream

pub reading_begins : (s : Spot) (h : Held) → Stands [] [] h → Reading 0 s s [] h
reading_begins s h stands = record {
  taken = [];
  takes = Consumes-nil s.left;
  stands = stands;
  earlier = 0;
  least = omega arith;
  most = omega arith;
  many = omega arith;
  few = omega arith;
  counted = λ small. omega arith;
}

-- what a decoder gave are the first blocks of the stream
pub first_blocks : (s left : Spot) (blocks : List (List ℕ)) (h : Held) → Reading 0 s left blocks h → IfSome s.left (λ bytes. HasFirst bytes blocks)
first_blocks s left blocks h was = first_whole s.left left.left was.taken blocks h.waiting h.tail was.takes was.stands

-- a piece was read and fed
pub reading_more : (k : ℕ) (s left left' : Spot) (blocks : List (List ℕ)) (h h' : Held) (piece : List ℕ) → Reading k s left blocks h
    → Consumes left.left left'.left piece → 0 < length piece → length piece ≤ 4096 → ReadTimes 1 left.reads left'.reads → IsFed piece h h'
    → Reading (k + 1) s left' blocks h'
reading_more k s left left' blocks h h' piece was takes some short once feeds =
    let long : length (was.taken ++ piece) ≡ length was.taken + length piece = length-append was.taken piece in
    let many = was.many in
    let few = was.few in
    record {
      taken = was.taken ++ piece;
      takes = Consumes-trans s.left left.left left'.left was.taken piece was.takes takes;
      stands = feeds was.taken blocks was.stands;
      earlier = was.earlier;
      least = was.least;
      most = was.most;
      many = omega arith;
      few = omega arith;
      counted = λ small. let there = was.counted (omega arith) in let more = once (omega arith) in omega arith;
    }

-- the decoder gave a block
pub reading_gives : (k : ℕ) (s left : Spot) (blocks : List (List ℕ)) (h h' : Held) (content : List ℕ) → k ≤ 1000000 → Reading k s left blocks h
    → HasGiven content h h' → Reading 0 s left (blocks ++ content ∷ []) h'
reading_gives k s left blocks h h' content limit was gives =
    let stands = gives was.taken blocks was.stands in
    let one : length (blocks ++ content ∷ []) ≡ length blocks + 1 = length-append blocks (content ∷ []) in
    let both : length ((blocks ++ content ∷ []) ++ h'.waiting) ≡ length (blocks ++ content ∷ []) + length h'.waiting =
    length-append (blocks ++ content ∷ []) h'.waiting in
    let held = has_few was.taken ((blocks ++ content ∷ []) ++ h'.waiting) h'.tail stands in
    let most = was.most in
    let many = was.many in
    let few = was.few in
    record {
      taken = was.taken;
      takes = was.takes;
      stands = stands;
      earlier = was.earlier + k;
      least = omega arith;
      most = omega arith;
      many = omega arith;
      few = omega arith;
      counted = λ small. let there = was.counted (omega arith) in omega arith;
    }

-- the source is at its end, and no block waits
pub reading_ends : (k : ℕ) (s left : Spot) (left' : Option (List ℕ)) (blocks : List (List ℕ)) (h : Held) → Reading k s left blocks h
    → Consumes left.left left' [] → IsAtEnd left' → h.waiting ≡ []
    → (tail : Tail) × IfSome s.left (λ bytes. Has bytes blocks tail)
reading_ends k s left left' blocks h was none end empty = (
  h.tail,
  Consumes-whole s.left left' was.taken (λ bytes. Has bytes blocks h.tail)
      (subst (Consumes s.left left') (append-nil was.taken) (Consumes-trans s.left left.left left' was.taken [] was.takes none)) end
      (stands_all was.taken blocks h was.stands empty),
)

-- a block is too long, and none waits
pub reading_long : (k : ℕ) (s left : Spot) (blocks : List (List ℕ)) (h : Held) → Reading k s left blocks h → h.waiting ≡ [] → h.tail ≡ Overlong
    → IfSome s.left (λ bytes. Has bytes blocks Overlong)
reading_long k s left blocks h was empty long =
    long_whole s.left left.left was.taken blocks was.takes (subst (Has was.taken blocks) long (stands_all was.taken blocks h was.stands empty))

-- after 1,000,000 reads for one block
pub in_vain : (k : ℕ) (s left : Spot) (blocks : List (List ℕ)) (h : Held) → Reading k s left blocks h → 1000000 ≤ k → k ≤ 1000000
    → ReadInVain s.reads left.reads s.left blocks
in_vain k s left blocks h was least greatest =
    let many = was.many in
    record {
      earlier = was.earlier;
      least = was.least;
      most = was.most;
      counted = λ small. let there = was.counted (omega arith) in omega arith;
      many = long_enough s.left left.left was.taken (was.earlier + 1000000) was.takes (omega arith);
    }

-- ---- waits

pub full_so : (r : ℕ) (old mid new : List NoteSeen) → Adds (Waits r) old mid → new ≡ mid ++ WasFull ∷ [] → ComesNone r old new
full_so r old mid new was is = record { mid = mid; waits = was; last = WasFull; ends = full; noted = is }

pub none_so : (r : ℕ) (old mid asked new : List NoteSeen) → Adds (Waits r) old mid → asked ≡ mid ++ WasNothing r ∷ [] → new ≡ asked → ComesNone r old new
none_so r old mid asked new was is same = record { mid = mid; waits = was; last = WasNothing r; ends = none_left; noted = same ∙ is }

-- ---- rounds

pub progress_none : (r : ℕ) (s : Spot) (w : Option (List ℕ)) (h : Held) (old : List NoteSeen) (c : Counts) → Stands [] [] h → c ≡ nothing
    → Progress r s s w w h old old c
progress_none r s w h old c stands is = record {
  blocks = [];
  carried = subst (Carried r w w old old []) (sym is) (carried_none r w old);
  reading = reading_begins s h stands;
}

pub carries_so : (r : ℕ) (s left : Spot) (w w' : Option (List ℕ)) (h : Held) (old mid new : List NoteSeen) (c : Counts) → Progress r s left w w' h old mid c
    → ComesNone r mid new → Carries r s.left w w' old new c
carries_so r s left w w' h old mid new c was comes = record {
  mid = comes.mid;
  blocks = was.blocks;
  carried = carried_waits r w w' old mid comes.mid was.blocks c was.carried comes.waits;
  last = comes.last;
  ends = comes.ends;
  noted = comes.noted;
  first = first_blocks s left was.blocks h was.reading;
}

pub empty_so : (r : ℕ) (writer reader : Bool) (reads : ℕ) (s left : Spot) (w w' : Option (List ℕ)) (h : Held) (old mid new : List NoteSeen) (c : Counts)
    (fault : RunFault)
    → fault ≡ Memory → writer ≡ false → reader ≡ false
    → Progress r s left w w' h old mid c → Adds (Waits r) mid new → Breaks r writer reader s.reads reads s.left w w' old new fault
empty_so r writer reader reads s left w w' h old mid new c fault is writes works was waits =
    subst (Breaks r writer reader s.reads reads s.left w w' old new) (sym is)
    (empty_handed was.blocks c writes works (carried_waits r w w' old mid new was.blocks c was.carried waits))

pub hand_so : (r n : ℕ) (writer reader : Bool) (reads : ℕ) (s left : Spot) (w w1 w2 : Option (List ℕ)) (h : Held) (old mid new : List NoteSeen) (c : Counts)
    (t : TranslatedSeen) (message : List SegmentValue) (fault : RunFault)
    → t.message ≡ message_seen message → Progress r s left w w1 h old mid c → ComesOut r n t mid new
    → Unsent n writer reader reads (block (written message)) (control_of message) w1 w2 left h fault →
    Breaks r writer reader s.reads reads s.left w w2 old new fault
hand_so r n writer reader reads s left w w1 w2 h old mid new c t message fault seen was comes unsent =
    in_hand n (control_of message) was.blocks fault
    (record {
      mid = comes.mid;
      between = w1;
      counts = c;
      carried = carried_waits r w w1 old mid comes.mid was.blocks c was.carried comes.waits;
      at = comes.at;
      t = t;
      message = message;
      message_is = seen;
      control_is = refl;
      noted = comes.noted;
      part = unsent.part;
      begins = unsent.begins;
      wrote = unsent.wrote;
    })
    (unsent.fails s was.blocks was.reading)

pub progress_more : (r n : ℕ) (s left left' : Spot) (w w1 w2 : Option (List ℕ)) (h h' : Held) (old mid new : List NoteSeen) (c c' : Counts) (t : TranslatedSeen)
    (message : List SegmentValue) (ack : Ack)
    → t.message ≡ message_seen message → Progress r s left w w1 h old mid c → ComesOut r n t mid new
    → Sent (block (written message)) (control_of message) w1 w2 left left' h h' ack → c' ≡ with_sent ack c → Progress r s left' w w2 h' old new c'
progress_more r n s left left' w w1 w2 h h' old mid new c c' t message ack seen was comes sent is = record {
  blocks = was.blocks ++ sent.acked.content ∷ [];
  carried = subst (Carried r w w2 old new (was.blocks ++ sent.acked.content ∷ [])) (sym is)
      (carried_one r n w w1 w2 old comes.mid new was.blocks c comes.at t message sent.acked.content ack
      (carried_waits r w w1 old mid comes.mid was.blocks c was.carried comes.waits) comes.noted seen sent.wrote sent.acked.says);
  reading = sent.acked.next s was.blocks was.reading;
}

pub progress_few : (r : ℕ) (s left : Spot) (w w' : Option (List ℕ)) (h : Held) (old mid : List NoteSeen) (c : Counts) → Progress r s left w w' h old mid c
    → c.sent ≤ length mid
progress_few r s left w w' h old mid c was =
    let few = (counted r was.carried.notes was.carried.sent was.blocks c was.carried.rounds).few in
    let both = ap length was.carried.noted ∙ length-append old was.carried.notes in
    omega (arith, few, both)

waits_long : (r : ℕ) (old mid : List NoteSeen) → Adds (Waits r) old mid → length old ≤ length mid
waits_long r old mid was = let both = ap length was.noted ∙ length-append old was.more in omega (arith, both)

-- each round leaves a note
pub comes_longer : (r n : ℕ) (t : TranslatedSeen) (old new : List NoteSeen) → ComesOut r n t old new → length old < length new
comes_longer r n t old new comes =
    let waits = waits_long r old comes.mid comes.waits in
    let both = ap length comes.noted ∙ length-append comes.mid (Added comes.at (WasOut n r t) ∷ []) in
    omega (arith, waits, both)

-- ---- one block

pub memory_unsent : (n : ℕ) (writer reader : Bool) (reads : ℕ) (bytes control : List ℕ) (w : Option (List ℕ)) (unread : Spot) (h : Held)
    → writer ≡ false → reader ≡ false → Unsent n writer reader reads bytes control w w unread h Memory
memory_unsent n writer reader reads bytes control w unread h writes works = record {
  part = [];
  begins = (bytes, refl);
  wrote = Appends-nil w;
  fails = λ s blocks was. memory writes works;
}

pub line_unsent : (n : ℕ) (writer reader : Bool) (reads : ℕ) (bytes control : List ℕ) (w w' : Option (List ℕ)) (unread : Spot) (h : Held)
    → writer ≡ true → SendsPart w w' bytes → Unsent n writer reader reads bytes control w w' unread h (Line n)
line_unsent n writer reader reads bytes control w w' unread h fails part = record {
  part = part.0;
  begins = part.2;
  wrote = part.1;
  fails = λ s blocks was. line (write fails);
}

pub answer_unsent : (n : ℕ) (writer reader : Bool) (reads : ℕ) (bytes control : List ℕ) (w w' : Option (List ℕ)) (unread : Spot) (h : Held)
    (r : Result Ack RunFault)
    → writer ≡ false → Appends w w' bytes → IfErr r (GivesNone n false reader reads unread h control)
    → IfErr r (Unsent n writer reader reads bytes control w w' unread h)
answer_unsent n writer reader reads bytes control w w' unread h (Ok ack) writes wrote none = tt
answer_unsent n writer reader reads bytes control w w' unread h (Err fault) writes wrote none = record {
  part = bytes;
  begins = ([], sym (append-nil bytes));
  wrote = wrote;
  fails = subst (λ b. GivesNone n b reader reads unread h control fault) (sym writes) none;
}

-- ---- the next block

pub denied_none : (n : ℕ) (reader : Bool) (reads : ℕ) (unread left : Spot) (h h' : Held) (content control : List ℕ) (r : Result Ack RunFault)
    → reader ≡ false → GivesNext unread left h h' content
    → IfErr r (Denies n content control) → IfErr r (GivesNone n false reader reads unread h control)
denied_none n reader reads unread left h h' content control (Ok ack) works next says = tt
denied_none n reader reads unread left h h' content control (Err fault) works next says = λ s blocks was. by s blocks was fault says
  where
    by : (s : Spot) (blocks : List (List ℕ)) → Reading 0 s unread blocks h → (fault : RunFault) → Denies n content control fault
        → LineFails n false reader s.reads reads s.left blocks control fault
    by s blocks was fault no_memory = memory refl works
    by s blocks was fault (not_acknowledged others) = line (denied content (first_blocks s left (blocks ++ content ∷ []) h' (next s blocks was)) others)

-- so many reads from here to there
abbrev pub Reads : ℕ → Spot → Held → Spot → Held → Type 0
Reads k unread h left h' = (s : Spot) (blocks : List (List ℕ)) → Reading 0 s unread blocks h → Reading k s left blocks h'

pub reads_more : (k : ℕ) (unread left left' : Spot) (h h1 h2 h3 : Held) (piece : List ℕ) → Reads k unread h left h1 → Consumes left.left left'.left piece
    → 0 < length piece → length piece ≤ 4096 → ReadTimes 1 left.reads left'.reads → IsFed piece h1 h2 → h3 ≡ h2 → Reads (k + 1) unread h left' h3
reads_more k unread left left' h h1 h2 h3 piece run takes some short once feeds same =
    λ s blocks was. subst (Reading (k + 1) s left' blocks) (sym same)
    (reading_more k s left left' blocks h1 h2 piece (run s blocks was) takes some short once feeds)

-- a block was at hand
pub first_so : (unread : Spot) (h h' : Held) (content : List ℕ) → HasGiven content h h' → GivesNext unread unread h h' content
first_so unread h h' content gives = λ s blocks was. reading_gives 0 s unread blocks h h' content (omega arith) was gives

pub next_so : (k : ℕ) (unread left left' : Spot) (h h1 h2 h3 : Held) (piece content : List ℕ) → Reads k unread h left h1 → Consumes left.left left'.left piece
    → 0 < length piece → length piece ≤ 4096 → ReadTimes 1 left.reads left'.reads → k < 1000000 → IsFed piece h1 h2 → HasGiven content h2 h3
    → GivesNext unread left' h h3 content
next_so k unread left left' h h1 h2 h3 piece content run takes some short once limit feeds gives =
    λ s blocks was. reading_gives (k + 1) s left' blocks h2 h3 content (omega arith)
    (reading_more k s left left' blocks h1 h2 piece (run s blocks was) takes some short once feeds) gives

pub waits_again : (r : ℕ) (old mid asked new : List NoteSeen) → Adds (Waits r) old mid → asked ≡ mid ++ WasNothing r ∷ [] → new ≡ asked → Adds (Waits r) old new
waits_again r old mid asked new was is same = record {
  more = was.more ++ WasNothing r ∷ [];
  holds = again was.more was.holds;
  noted = same ∙ is ∙ ap (λ l. l ++ WasNothing r ∷ []) was.noted ∙ append_assoc old was.more (WasNothing r ∷ []);
}
