use Rattle.std.proofs.Common.{◌≡◌, take}
use Rattle.gw_page.specs.Recent.{answered}
use Rattle.gw_page.proofs.recent.sum_of.Given as goal

abbrev pub invariant-loop-refused : goal.invariant-loop-refused
invariant-loop-refused l = l.sum ≡ answered (take l.refused-index l.codes)
