use Rattle.std.proofs.Common.{◌≡◌, drop, map}
use Rattle.std.specs.Prelude.{◌==◌, find}
use Rattle.gw_profile.specs.Seen.{comp}
use Rattle.gw_profile.proofs.numbered.comp_among.Given as goal

abbrev pub invariant-loop-comp : goal.invariant-loop-comp
invariant-loop-comp l = find (λ x. x.number == l.number) (map comp l.comps) ≡ find (λ x. x.number == l.number) (map comp (drop l.comp-index l.comps))
