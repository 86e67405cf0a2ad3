use Rattle.std.proofs.Common.{◌≡◌, ◌++◌, drop, map}
use Rattle.gw_er7.proofs.spans.widen_into.Given as goal

abbrev pub invariant-loop-span : goal.invariant-loop-span
invariant-loop-span g l = g.L.Store.spans l.others ++ map g.N.Width.said (drop l.span-index l.narrow) ≡ g.L.Store.spans l.fn.others ++ map g.N.Width.said l.narrow
