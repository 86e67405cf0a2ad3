use Rattle.std.proofs.Common.{◌≡◌, drop, map}
use Rattle.std.specs.Prelude.{◌==◌, find}
use Rattle.gw_profile.specs.Seen.{sub}
use Rattle.gw_profile.proofs.numbered.sub_among.Given as goal

abbrev pub invariant-loop-sub : goal.invariant-loop-sub
invariant-loop-sub l = find (λ x. x.number == l.number) (map sub l.subs) ≡ find (λ x. x.number == l.number) (map sub (drop l.sub-index l.subs))
