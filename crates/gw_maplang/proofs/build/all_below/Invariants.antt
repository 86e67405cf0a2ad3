use Rattle.std.proofs.Common.{◌≡◌, ◌++◌, drop, map, length}
use Rattle.gw_maplang.specs.Seen.{line}
use Rattle.gw_maplang.specs.own.Building.{Stands}
use Rattle.gw_maplang.proofs.build.all_below.Given as goal

abbrev pub invariant-loop-whole : goal.invariant-loop-whole
invariant-loop-whole l = record {
  all : l.initial.left.items ≡ l.left.items ++ drop (length l.left.items) l.initial.left.items;
  stands : Stands l.below (map line (drop (length l.left.items) l.initial.left.items));
}

abbrev pub decreases-loop-whole : goal.decreases-loop-whole
decreases-loop-whole l = length l.left.items
