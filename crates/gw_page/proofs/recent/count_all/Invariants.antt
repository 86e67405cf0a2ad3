use Rattle.std.proofs.Common.{◌≡◌, ◌++◌, map, take, drop}
use Rattle.gw_page.specs.Recent.{counted}
use Rattle.gw_page.proofs.recent.count_all.Given as goal

abbrev pub invariant-loop-refused : goal.invariant-loop-refused
invariant-loop-refused l = l.codes ≡ map (counted l.code) (take l.refused-index l.initial.codes) ++ drop l.refused-index l.initial.codes
