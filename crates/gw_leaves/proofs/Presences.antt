-- Which leaves are always there, and which never.
use Rattle.std.proofs.Common.{◌≡◌, ℕ, ◌≤◌, ◌⊎◌, true, false, Option, ◌↔◌, arith}
use Rattle.std.specs.Prelude.{option_map, IsSomeAnd}
use Rattle.std.proofs.lemmas.Bool.Decides.{nat_tests}
use Rattle.gw_profile.specs.declared.shape.Usage.{Usage}
use Rattle.gw_profile.specs.declared.shape.Usage.TheVariants.{R, X}
use Rattle.gw_profile.specs.Numbered.{comp_of, sub_of}
use Rattle.gw_profile.specs.Shapes.{SubValue, CompValue, FieldValue}
use Rattle.gw_resolve.specs.Intervals.{is_never}
use Rattle.gw_resolve.specs.Places.{Known, known}
use Rattle.gw_resolve.specs.Resolved.{Reference, of_field}
use Rattle.gw_leaves.specs.declared.shape.Presence.{Presence}
use Rattle.gw_leaves.specs.declared.shape.Presence.TheVariants.{Always, Never}
use Rattle.gw_leaves.specs.Leaves.{Sources, at_field, by_usage, both, comp_presence, sub_usage, rep_presence, field_presence, source_shape}

-- of something that may not be there
module _ {A : Type 0} (usage : A → Usage) where
  some_always : (o : Option A) → (by_usage (option_map usage o) ≡ Always) ↔ IsSomeAnd o (λ a. usage a ≡ R)
  some_always o = grind arith

  some_never : (o : Option A) → (by_usage (option_map usage o) ≡ Never) ↔ IsSomeAnd o (λ a. usage a ≡ X)
  some_never o = grind arith

both_always : (a b : Presence) → (both a b ≡ Always) ↔ ((a ≡ Always) × (b ≡ Always))
both_always a b = grind arith

both_never : (a b : Presence) → (both a b ≡ Never) ↔ ((a ≡ Never) ⊎ (b ≡ Never))
both_never a b = grind arith

module _ (k : Known) where
  field_always : (f : Option FieldValue) → (field_presence k f ≡ Always) ↔ ((is_never k.count.greatest ≡ false) × (1 ≤ k.count.least) × IsSomeAnd f (λ g. (g.usage ≡ R) × (1 ≤ g.card.min)))
  field_always f = grind (arith, nat_tests)

  field_never : (f : Option FieldValue) → (field_presence k f ≡ Never) ↔ ((is_never k.count.greatest ≡ true) ⊎ IsSomeAnd f (λ g. g.usage ≡ X))
  field_never f = grind arith

-- a leaf that is taken from a field
module _ (s : Sources) (from : Reference) (comp sub : ℕ) where
  abbrev f : Option FieldValue
  f = at_field s from

  abbrev c : Option CompValue
  c = comp_of f comp

  abbrev t : Option SubValue
  t = sub_of c sub

  abbrev k : Known
  k = known s.scope from.place

  pub always_there : ((source_shape s (of_field from comp sub)).presence ≡ Always) ↔ ((is_never k.count.greatest ≡ false) × (1 ≤ k.count.least) × IsSomeAnd f (λ g. (g.usage ≡ R) × (1 ≤ g.card.min)) × IsSomeAnd c (λ d. d.usage ≡ R) × IsSomeAnd t (λ u. u.usage ≡ R))
  always_there =
      let all = both_always (field_presence k f) (rep_presence f comp sub) in
      let inner = both_always (comp_presence c) (sub_usage t) in
      let in_field = field_always k f in
      let in_comp = some_always (λ (d : CompValue). d.usage) c in
      let in_sub = some_always (λ (u : SubValue). u.usage) t in
      grind arith

  pub never_there : ((source_shape s (of_field from comp sub)).presence ≡ Never)
      ↔ ((is_never k.count.greatest ≡ true) ⊎ IsSomeAnd f (λ g. g.usage ≡ X) ⊎ IsSomeAnd c (λ d. d.usage ≡ X) ⊎ IsSomeAnd t (λ u. u.usage ≡ X))
  never_there =
      let all = both_never (field_presence k f) (rep_presence f comp sub) in
      let inner = both_never (comp_presence c) (sub_usage t) in
      let in_field = field_never k f in
      let in_comp = some_never (λ (d : CompValue). d.usage) c in
      let in_sub = some_never (λ (u : SubValue). u.usage) t in
      grind arith
