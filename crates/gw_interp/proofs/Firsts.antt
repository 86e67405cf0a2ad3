-- The text of a place is as the shapes of its leaves say.
use Rattle.std.proofs.Common.{◌≡◌, ℕ, ◌⊎◌, inl, inr, Bool, true, false, List, [], ◌∷◌, refl, sym, ap, ◌∙◌, subst}
use Rattle.std.specs.Prelude.{◌&&◌, not, flat_map}
use Rattle.std.specs.List.{AllByRecursion}
use Rattle.gw_profile.specs.Among.{Among}
use Rattle.gw_profile.specs.Shapes.{SubValue, ProfileValue}
use Rattle.gw_profile.specs.Lengths.{len_count}
use Rattle.gw_profile.proofs.Facts.{neither}
use Rattle.gw_validate.specs.Breaches.{is_null}
use Rattle.gw_leaves.specs.declared.shape.Presence.{Presence}
use Rattle.gw_leaves.specs.declared.shape.Presence.TheVariants.{Always, Maybe, Never}
use Rattle.gw_leaves.specs.Leaves.{Sources, leaf_shape, either, first_presence, is_always, is_absent, may_be_unlisted, may_be_long}
use Rattle.gw_leaves.specs.Components.{line_in, table_values, leaf_failures, other_failures}
use Rattle.gw_resolve.specs.Failures.{Mark}
use Rattle.gw_resolve.specs.Resolved.{Leaf, const, copied, looked_up, dated, Alternative}
use Rattle.gw_resolve.specs.Lawful.{LawfulLeaf}
use Rattle.gw_interp.specs.Meaning.{Walked, FirstText}
use Rattle.gw_interp.proofs.Walks.{IsWalked}
use Rattle.gw_interp.proofs.Lists.{none_fails, both_empty}
use Rattle.gw_interp.proofs.Shaped.{IsShaped, IsFit, fit_of, fit_values, text_there}
use Rattle.gw_interp.proofs.Held.{HasTables}
use Rattle.gw_interp.proofs.Leaves.{leaf_shaped}

-- ---- presence

either_always : (a b : Presence) → is_always (either a b) ≡ true → (is_always a ≡ true) ⊎ (is_always b ≡ true)
either_always Always b e = inl refl
either_always Maybe Always e = inr refl
either_always Maybe Maybe e = absurd (cc)
either_always Maybe Never e = absurd (cc)
either_always Never b e = inr e

-- the first of two gives no text, so the text is that of the second
either_there : (a b : Presence) (text : List ℕ) → is_always (either a b) ≡ true → (is_always a ≡ true → ⊥) → (is_always b ≡ true → text ≡ [] → ⊥) → text ≡ [] → ⊥
either_there a b text e gone later = elim (either_always a b e) [ inl x ↦ absurd (gone x) | inr x ↦ later x ]

either_absent : (a b : Presence) → is_absent (either a b) ≡ true → (is_absent a ≡ true) × (is_absent b ≡ true)
either_absent Always b e = absurd (cc)
either_absent Maybe Always e = absurd (cc)
either_absent Maybe Maybe e = absurd (cc)
either_absent Maybe Never e = absurd (cc)
either_absent Never b e = (refl, e)

-- ---- the first text

-- the text is as one of these leaves says
abbrev pub IsShapedByOne : Sources → List Alternative → List ℕ → Type 0
IsShapedByOne s [] text = ⊥
IsShapedByOne s (o ∷ os) text = IsShaped (leaf_shape s o.leaf) text ⊎ IsShapedByOne s os text

pub record IsFirstShaped (s : Sources) (all : List Alternative) (text : List ℕ) : Type 0 where
  pub always : is_always (first_presence s all) ≡ true → text ≡ [] → ⊥
  pub absent : is_absent (first_presence s all) ≡ true → text ≡ []
  pub by_one : (text ≡ [] → ⊥) → IsShapedByOne s all text

module _ (names : List (List ℕ)) (s : Sources) (w : Walked) (has : HasTables names s.profile.tables) (is : IsWalked names s w) (repeated : Bool) where
  pub first_shaped : (all : List Alternative) (text : List ℕ) → AllByRecursion (λ (o : Alternative). LawfulLeaf repeated o.leaf) all → FirstText w all text → IsFirstShaped s all text
  first_shaped [] text lawful means = record { always = λ a. absurd (cc); absent = λ a. means; by_one = λ some. some means }
  first_shaped (o ∷ os) text lawful (inl h) =
      let shaped = leaf_shaped names s w has is repeated o.leaf text lawful.0 h.0 in
      record {
        always = λ a none. text_there text h.1 none;
        absent = λ a. shaped.absent (either_absent (leaf_shape s o.leaf).presence (first_presence s os) a).0;
        by_one = λ some. inl shaped;
      }
  first_shaped (o ∷ os) text lawful (inr h) =
      let none = leaf_shaped names s w has is repeated o.leaf [] lawful.0 h.0 in
      let rest = first_shaped os text lawful.1 h.1 in
      record {
        always = λ a. either_there (leaf_shape s o.leaf).presence (first_presence s os) text a (λ b. none.always b refl) rest.always;
        absent = λ a. rest.absent (either_absent (leaf_shape s o.leaf).presence (first_presence s os) a).1;
        by_one = λ some. inr (rest.by_one some);
      }

-- ---- a subcomponent for which no leaf fails

leaf_fit : (s : Sources) (profile : ProfileValue) (mark : Mark) (leaf : Leaf) (sub : SubValue) (text : List ℕ) → leaf_failures s profile mark leaf sub ≡ [] → IsShaped (leaf_shape s leaf) text → (text ≡ [] → ⊥) → is_null text ≡ false → IsFit profile sub text
leaf_fit s profile mark (copied source) sub text none shaped some other = fit_values profile mark (leaf_shape s (copied source)) sub text none shaped some other
leaf_fit s profile mark (looked_up table source) sub text none shaped some other = fit_values profile mark (leaf_shape s (looked_up table source)) sub text none shaped some other
leaf_fit s profile mark (dated digits source) sub text none shaped some other = fit_values profile mark (leaf_shape s (dated digits source)) sub text none shaped some other
leaf_fit s profile mark (const value) sub text none shaped some other = by (shaped.values some other)
  where
    allowed : (b : Bool) → is_null value ≡ false → not (is_null value) && b ≡ false → b ≡ false
    allowed b e f = subst (λ n. not n && b ≡ false) e f

    by : Among text (value ∷ []) → IsFit profile sub text
    by (inr h) = absurd h
    by (inl same) =
        let values = (leaf_shape s (const value)).values in
        let p = neither (may_be_unlisted values (table_values profile.tables sub)) (may_be_long (len_count profile) values sub.len) (allowed _ (sym (ap is_null same) ∙ other) (none_fails 12 _ _ none)) in
        fit_of profile values sub text p.0 p.1 (shaped.values some other)

pub first_fit : (s : Sources) (profile : ProfileValue) (mark : Mark) (sub : SubValue) (text : List ℕ) → (text ≡ [] → ⊥) → is_null text ≡ false → (all : List Alternative) → flat_map (other_failures s profile mark sub) all ≡ [] → IsShapedByOne s all text → IsFit profile sub text
first_fit s profile mark sub text some other [] none shaped = absurd shaped
first_fit s profile mark sub text some other (o ∷ os) none (inl shaped) =
    leaf_fit s profile (line_in mark o.line) o.leaf sub text (both_empty (other_failures s profile mark sub o) (flat_map (other_failures s profile mark sub) os) none).0 shaped some other
first_fit s profile mark sub text some other (o ∷ os) none (inr later) =
    first_fit s profile mark sub text some other os (both_empty (other_failures s profile mark sub o) (flat_map (other_failures s profile mark sub) os) none).1 later
