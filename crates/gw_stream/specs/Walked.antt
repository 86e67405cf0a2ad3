-- How far a run over a stream has come.
use Rattle.std.specs.Prelude.{ℕ, ◌*◌, ◌≤◌, List, [], ◌∷◌, ◌++◌, length, Option}
use Rattle.std.specs.Io.KnownBytes.{Consumes}
use Rattle.std.specs.Option.{IfSome}
use Rattle.gw_mllp.specs.Stream.{Has, Overlong, Stands, Tail, Within}
use Rattle.gw_stream.specs.declared.block_reader.BlockReader.{BlockReader}
use Rattle.gw_stream.specs.declared.source.Source as source
use Rattle.gw_stream.specs.declared.fault.RunFault.{RunFault}
use Rattle.gw_stream.specs.declared.fault.RunFault.TheVariants.{Memory, Read, Frame, Turns}
use Rattle.gw_stream.specs.Reading.{ReadTimes, ReadUpTo}

-- what a source has left, where that is known, how often it was read, and what reads its blocks
pub record Place : Type 0 where
  pub left : Option (List ℕ)
  pub reads : ℕ
  pub blocks : BlockReader

abbrev pub at : Option (List ℕ) → ℕ → BlockReader → Place
at left reads blocks = record { left = left; reads = reads; blocks = blocks }

-- a source and what reads its blocks, by what the source says of itself
abbrev pub place : {S : Type 0} → source.Ghosts S → S → BlockReader → Place
place by reader blocks = at (by.remaining reader) (by.reads reader) blocks

-- From a source that had this left and was read this often, a run has come here, and these blocks were given on the way.
pub record Walks (left : Option (List ℕ)) (reads : ℕ) (here : Place) (given : List (List ℕ)) : Type 0 where
  pub taken : List ℕ
  pub takes : Consumes left here.left taken
  pub many : here.blocks.turns ≤ length taken
  pub few : length taken ≤ here.blocks.turns * 16384
  pub most : here.blocks.turns ≤ 1000000
  pub stands : Stands taken given here.blocks.decoder
  pub counted : ReadTimes here.blocks.turns reads here.reads

-- a run that had come here has come there, and these blocks were given on the way
abbrev pub Goes : Place → Place → List (List ℕ) → Type 0
Goes here there more = (left : Option (List ℕ)) (reads : ℕ) (given : List (List ℕ)) → Walks left reads here given → Walks left reads there (given ++ more)

-- wherever its source is, what reads the blocks gave this one
abbrev pub Gives : BlockReader → BlockReader → List ℕ → Type 0
Gives old new content = (left : Option (List ℕ)) (reads : ℕ) → Goes (at left reads old) (at left reads new) (content ∷ [])

-- a run that had come here has all blocks of its stream, and the stream ends so
abbrev pub EndsAt : Place → Tail → Type 0
EndsAt here tail = (left : Option (List ℕ)) (reads : ℕ) (given : List (List ℕ)) → Walks left reads here given → IfSome left (λ stream. Has stream given tail)

-- why a run that had come here, and has come there, has no block more
pub data Stops (here there : Place) : RunFault → Type 0 where
  memory : Stops here there Memory
  read : Stops here there Read
  too_long : EndsAt here Overlong → Stops here there (Frame 2)
  truncated : (t : List ℕ) → EndsAt here (Within t) → Stops here there (Frame 3)
  turns : Goes here there [] → 1000000 ≤ there.blocks.turns → Stops here there Turns

-- a run that had come here has read no more than a run may, once its source was read this often
abbrev pub WithinReads : Place → ℕ → Type 0
WithinReads here after = (left : Option (List ℕ)) (reads : ℕ) (given : List (List ℕ)) → Walks left reads here given → ReadUpTo 1000000 reads after
