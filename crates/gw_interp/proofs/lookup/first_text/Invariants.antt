use Rattle.std.proofs.Common.{ℕ, List, Option, drop, map}
use Rattle.gw_er7.specs.Message.{SegmentValue}
use Rattle.gw_resolve.specs.Seen.{alternative}
use Rattle.gw_interp.specs.own.Borrowed.{AreOf}
use Rattle.gw_interp.specs.own.Sourced.{walks, FirstGives}
use Rattle.gw_interp.proofs.lookup.first_text.Given as goal

-- what those behind give, all give
abbrev pub invariant-loop-other : goal.invariant-loop-other
invariant-loop-other l =
    (m : List SegmentValue) → AreOf m l.reading.scope.now → (found : Option (List ℕ)) → FirstGives (walks m l.reading) (map (alternative l.rows.tables) (drop l.other-index l.others)) found → FirstGives (walks m l.reading) (map (alternative l.rows.tables) l.others) found
