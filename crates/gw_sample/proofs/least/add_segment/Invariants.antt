use Rattle.std.proofs.Common.{◌≡◌, ◌++◌, ◌∷◌, [], take}
use Rattle.gw_sample.specs.own.Least.{keys}
use Rattle.gw_sample.proofs.Added.{made}
use Rattle.gw_sample.proofs.least.add_segment.Given as goal

abbrev pub invariant-loop-place : goal.invariant-loop-place
invariant-loop-place l = l.builder ≡ l.fn.builder ++ made l.fn.name (take l.place-index (keys l.places)) ∷ []
