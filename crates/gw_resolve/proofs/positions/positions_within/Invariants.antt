use Rattle.std.proofs.Common.{◌≡◌, take, map}
use Rattle.gw_resolve.proofs.positions.positions_within.Given as goal

abbrev pub invariant-loop-outer : goal.invariant-loop-outer
invariant-loop-outer l = map (λ v. v.items) l.inner.items ≡ map (λ v. v.items) (take l.outer-index l.scope)
