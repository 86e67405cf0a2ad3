-- What maps between the same two profiles share.
use Rattle.std.proofs.Common.{◌≡◌, subst}
use Rattle.gw_profile.specs.Seen.{Contents}
use Rattle.gw_leaves.specs.own.Comparisons.{AreCompared}
use Rattle.gw_leaves.specs.declared.compared.Compared.{Compared}

-- what is found of the tables of two profiles is found of equal ones
pub as_given : {source target from to : Contents} (compared : Compared) → source ≡ from → target ≡ to → AreCompared source target compared → AreCompared from to compared
as_given {source} {target} {from} {to} compared s t h = subst (λ x. AreCompared x to compared) s (subst (λ x. AreCompared source x compared) t h)
