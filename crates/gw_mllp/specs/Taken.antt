-- Pieces of a stream: how the open block and the blocks so far go on with a run of bytes.
use Rattle.std.specs.Prelude.{◌≡◌, ◌≢◌, ℕ, ◌+◌, ◌-◌, ◌<◌, ◌≤◌, slice_index, List, [], ◌∷◌, ◌++◌, length, map, None, Some}
use Rattle.std.specs.declared.vec.Vec.{Vec}
use Rattle.gw_mllp.specs.Stream.{IsGap, HasNoEnd, Blocks, LongAfter, Tail, Between, Within, Overlong, content_len}
use Rattle.gw_mllp.specs.declared.tail.Tail as rust
use Rattle.gw_mllp.specs.declared.tail.Tail.TheVariants as variants
use Rattle.gw_mllp.specs.declared.reach.Reach.{Reach}
use Rattle.gw_mllp.specs.declared.reach.Reach.TheVariants as reach

-- a tail, wherever it is in memory
abbrev pub tail_view : rust.Tail → Tail
tail_view variants.Between = Between
tail_view (variants.Within content) = Within content.items
tail_view variants.Overlong = Overlong

abbrev pub contents : {Z : Type 0} → List (Vec ℕ Z) → List (List ℕ)
contents = map (λ v. v.items)

-- the bytes are a gap, VT and these
abbrev pub Begins : List ℕ → List ℕ → Type 0
Begins bytes inner = (gap : List ℕ) × IsGap gap × (bytes ≡ gap ++ 11 ∷ inner)

-- FS is the last byte of the content, and CR the first of these
pub record Straddles (content bytes : List ℕ) : Type 0 where
  pub last : slice_index content (length content - 1) ≡ 28
  pub after : List ℕ
  pub first : bytes ≡ 13 ∷ after

-- the run ends the block of which the content has come so far
pub record EndsAt (content run : List ℕ) : Type 0 where
  pub kept : List ℕ
  pub whole : content ++ run ≡ kept ++ 28 ∷ 13 ∷ []
  pub some : 0 < length run
  pub first : HasNoEnd content → HasNoEnd kept

-- the same within the limit, with what follows the run
pub record EndsWithin (content bytes run after : List ℕ) : Type 0 where
  pub whole : bytes ≡ run ++ after
  pub ends : EndsAt content run
  pub short : length content + length run ≤ 1048578

-- a run from the front of the bytes makes the open block longer than allowed
pub record Overruns (content bytes : List ℕ) : Type 0 where
  pub run : List ℕ
  pub more : List ℕ
  pub whole : bytes ≡ run ++ more
  pub unended : HasNoEnd content → HasNoEnd (content ++ run)
  pub long : 1048576 < content_len (content ++ run)

-- all the bytes leave the block open and no longer than allowed
pub record StaysOpen (content bytes : List ℕ) : Type 0 where
  pub unended : HasNoEnd content → HasNoEnd (content ++ bytes)
  pub short : content_len (content ++ bytes) ≤ 1048576

-- the piece is one byte, no CR, and the content has room for it
pub record IsLone (content piece : List ℕ) (byte : ℕ) : Type 0 where
  pub whole : piece ≡ byte ∷ []
  pub not_return : byte ≢ 13
  pub room : length content < 1048576

-- how far the block that begins with the content reaches into the bytes
abbrev pub Reaches : List ℕ → List ℕ → Reach → Type 0
Reaches content bytes reach.Open = StaysOpen content bytes
Reaches content bytes reach.TooLong = Overruns content bytes
Reaches content bytes (reach.Ends run after) = EndsWithin content bytes run.now after.now

-- the same as Has, by the open block alone
abbrev pub Taken : List ℕ → List (List ℕ) → Tail → Type 0
Taken stream blocks Between = Blocks stream blocks None
Taken stream blocks (Within t) = Blocks stream blocks (Some t) × (content_len t ≤ 1048576)
Taken stream blocks Overlong = LongAfter stream blocks

-- The run takes any stream from the old place to the new one, and adds these blocks.
abbrev pub Goes : List (List ℕ) → Tail → List ℕ → List (List ℕ) → Tail → Type 0
Goes made tail run made' tail' = (stream : List ℕ) (given : List (List ℕ)) → Taken stream (given ++ made) tail → Taken (stream ++ run) (given ++ made') tail'

-- A step took a run from the front of the bytes, and left these; it leaves some only between two blocks.
pub record Steps (made : List (List ℕ)) (tail : Tail) (bytes : List ℕ) (made' : List (List ℕ)) (tail' : Tail) (after : List ℕ) : Type 0 where
  pub run : List ℕ
  pub whole : bytes ≡ run ++ after
  pub goes : Goes made tail run made' tail'
  pub between : 0 < length after → tail' ≡ Between
  pub shorter : 0 < length after → 0 < length run

-- The run takes the decoder from the old tail to the new one, and adds the blocks that end in it to those that wait.
pub record Adds (waiting : List (List ℕ)) (tail : Tail) (run : List ℕ) (waiting' : List (List ℕ)) (tail' : Tail) : Type 0 where
  pub made : List (List ℕ)
  pub waits : waiting' ≡ waiting ++ made
  pub goes : Goes [] tail run made tail'

-- the same of blocks and a tail as they are in memory
abbrev pub TakesOn : {Z : Type 0} → List (Vec ℕ Z) → Tail → List ℕ → List (Vec ℕ Z) → rust.Tail → Type 0
TakesOn waiting tail run waiting' tail' = Adds (contents waiting) tail run (contents waiting') (tail_view tail')
