-- The blocks that come back on a line.
use Rattle.std.specs.Prelude.{ℕ, ◌+◌, ◌*◌, ◌≤◌, List, length, Option}
use Rattle.std.specs.Io.KnownBytes.{Consumes}
use Rattle.gw_mllp.specs.Stream.{Held, Stands}
use Rattle.gw_stream.specs.declared.source.Source as source
use Rattle.gw_stream.specs.Reading.{ReadTimes}

-- what a source has left, where that is known, and how often it was read
pub record Spot : Type 0 where
  pub left : Option (List ℕ)
  pub reads : ℕ

-- a source, by what it says of itself
abbrev pub spot : {S : Type 0} → source.Ghosts S → S → Spot
spot by reader = record { left = by.remaining reader; reads = by.reads reader }

-- Between two spots a decoder was fed what a source gave, and has given these blocks; `more` further reads were made for the next one.
-- Each read gave a byte, and 4,096 bytes at most.
pub record Reading (more : ℕ) (from here : Spot) (given : List (List ℕ)) (held : Held) : Type 0 where
  pub taken : List ℕ
  pub takes : Consumes from.left here.left taken
  pub stands : Stands taken given held
  pub earlier : ℕ
  pub least : length given ≤ earlier * 4096
  pub most : earlier ≤ length given * 1000000
  pub many : earlier + more ≤ length taken
  pub few : length taken ≤ (earlier + more) * 4096
  pub counted : ReadTimes (earlier + more) from.reads here.reads
