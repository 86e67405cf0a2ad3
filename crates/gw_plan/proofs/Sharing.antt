-- What maps between the same two profiles share, by the names of these.
use Rattle.std.proofs.Common.{◌≡◌, ℕ, List, map, Option, Some, None, Bool, true, false, refl, sym, ◌∙◌, subst, cond}
use Rattle.std.specs.Map.{lookup}
use Rattle.std.specs.Option.{IfSome}
use Rattle.std.proofs.lemmas.Slice.Eq.{bytes_eq-Decides}
use Rattle.gw_profile.proofs.Facts.{both}
use Rattle.gw_profile.specs.Seen.{profile_value}
use Rattle.gw_profile.specs.Shapes.{ProfileValue}
use Rattle.gw_profile.specs.Seen as profiles
use Rattle.gw_check.specs.Kept.{BetweenValue, CheckedValue}
use Rattle.gw_plan.specs.Declarations.{AreBetween, AreDeclared, IsBetween, Names, names_eq, named_profile}
use Rattle.gw_plan.proofs.Keys.{some_same}

renamed : (ps : List ProfileValue) {source target other further : List ℕ} (b : BetweenValue) → source ≡ other → target ≡ further → IsBetween ps source target b → IsBetween ps other further b
renamed ps b s t is = record {
  source_is = subst (λ name. named_profile name ps ≡ Some (profile_value b.source)) s is.source_is;
  target_is = subst (λ name. named_profile name ps ≡ Some (profile_value b.target)) t is.target_is;
}

-- what is kept by the names of two profiles
pub found_between : (ps : List ProfileValue) (names : Names) {source target : List ℕ} (kept : List (Names × BetweenValue)) (found : Option BetweenValue) → names.0.items ≡ source → names.1.items ≡ target
    → found ≡ lookup (names_eq names) kept → AreBetween ps kept → IfSome found (IsBetween ps source target)
found_between ps names kept None s t e all = tt
found_between ps names kept (Some b) s t e all = renamed ps b s t (all names b e)

-- one more, and one less
pub one_kept : (ps : List ProfileValue) (names : Names) {source target : List ℕ} (b : BetweenValue) (old new : List (Names × BetweenValue)) → names.0.items ≡ source → names.1.items ≡ target
    → ((k : Names) → lookup (names_eq k) new ≡ cond (names_eq names k) (Some b) (lookup (names_eq k) old)) → IsBetween ps source target b → AreBetween ps old → AreBetween ps new
one_kept ps names b old new s t updates is all k x e = by (names_eq names k) refl (e ∙ updates k)
  where
    by : (same : Bool) → names_eq names k ≡ same → Some x ≡ cond same (Some b) (lookup (names_eq k) old) → IsBetween ps k.0.items k.1.items x
    by true same e =
        let parts = both _ _ same in
        let named = renamed ps b (sym s ∙ (bytes_eq-Decides names.0.items k.0.items).0 parts.0) (sym t ∙ (bytes_eq-Decides names.1.items k.1.items).0 parts.1) is in
        subst (IsBetween ps k.0.items k.1.items) (sym (some_same e)) named
    by false other e = all k x e

pub one_taken : (ps : List ProfileValue) (names : Names) (old new : List (Names × BetweenValue)) → ((k : Names) → lookup (names_eq k) new ≡ cond (names_eq names k) None (lookup (names_eq k) old))
    → AreBetween ps old → AreBetween ps new
one_taken ps names old new updates all k x e = by (names_eq names k) (e ∙ updates k)
  where
    by : (same : Bool) → Some x ≡ cond same None (lookup (names_eq k) old) → IsBetween ps k.0.items k.1.items x
    by true e = absurd (cc)
    by false e = all k x e

-- the same profiles and maps, with what else is kept
pub with_kept : {ps : List (List ℕ × profiles.Contents)} {ms : List (List ℕ × CheckedValue)} {old : List (Names × BetweenValue)} (new : List (Names × BetweenValue)) → AreDeclared ps ms old
    → AreBetween (map (λ p. profile_value p.1) ps) new → AreDeclared ps ms new
with_kept new is kept = record { profile_names = is.profile_names; map_names = is.map_names; sources = is.sources; between = kept }
