-- How a run over a stream ends.
use Rattle.std.specs.Prelude.{◌≡◌, ℕ, List, ◌++◌, Option, Result, Ok, Err}
use Rattle.gw_mllp.specs.Stream.{Blocks, Tail, Between, Within, Overlong}
use Rattle.gw_stream.specs.declared.counts.Counts.{Counts}
use Rattle.gw_stream.specs.declared.fault.RunFault.{RunFault}
use Rattle.gw_stream.specs.declared.fault.RunFault.TheVariants.{Memory, Read, Write, Frame, Turns, Withheld}

-- these are the first blocks of the stream
pub record HasFirst (stream : List ℕ) (contents : List (List ℕ)) : Type 0 where
  pub front : List ℕ
  pub more : List ℕ
  pub whole : stream ≡ front ++ more
  pub others : List (List ℕ)
  pub left : Option (List ℕ)
  pub cut : Blocks front (contents ++ others) left

-- What a run did, by its result. At the end of the stream, within a block or not, and at a block that is too long, it dealt with all blocks before;
-- where memory, a device or the number of reads ended it, with a part of them. There is no other fault.
pub data Ends (All : Tail → Counts → Type 0) (Part : RunFault → Type 0) : Result Counts RunFault → Type 0 where
  at_end : (counts : Counts) → All Between counts → Ends All Part (Ok counts)
  truncated : (t : List ℕ) (counts : Counts) → All (Within t) counts → Ends All Part (Err (Frame 3))
  too_long : (counts : Counts) → All Overlong counts → Ends All Part (Err (Frame 2))
  memory : Part Memory → Ends All Part (Err Memory)
  read : Part Read → Ends All Part (Err Read)
  write : Part Write → Ends All Part (Err Write)
  turns : Part Turns → Ends All Part (Err Turns)
  withheld : Part Withheld → Ends All Part (Err Withheld)
