-- A text that is as a shape says, and what that means for a target subcomponent for which no rule fails.
use Rattle.std.proofs.Common.{◌≡◌, ℕ, ◌<◌, ◌⊎◌, inl, inr, Bool, true, false, List, [], ◌∷◌, Option, Some, None, refl, ◌∙◌, arith, length}
use Rattle.std.specs.Prelude.{◌&&◌, not, option_and_then}
use Rattle.std.proofs.lemmas.Bool.{le-ltb}
use Rattle.gw_profile.specs.declared.shape.Usage.{Usage}
use Rattle.gw_profile.specs.declared.shape.Usage.TheVariants.{R, RE, O, X}
use Rattle.gw_profile.specs.declared.shape.Count.{Count}
use Rattle.gw_profile.specs.Lengths.{measure, len_count}
use Rattle.gw_profile.specs.Fault.{is_among}
use Rattle.gw_profile.specs.Shapes.{SubValue, TableValue, ProfileValue}
use Rattle.gw_profile.specs.Value.{table_of}
use Rattle.gw_profile.proofs.Among.{among_is}
use Rattle.gw_profile.proofs.Facts.{not_of}
use Rattle.gw_validate.specs.Breaches.{is_required, is_forbidden, is_long, lacks, is_unlisted, is_null}
use Rattle.gw_leaves.specs.declared.shape.Presence.{Presence}
use Rattle.gw_leaves.specs.declared.shape.Presence.TheVariants.{Always, Maybe, Never}
use Rattle.gw_resolve.specs.Failures.{Mark, fails}
use Rattle.gw_leaves.specs.Leaves as leaves
use Rattle.gw_leaves.specs.Leaves.{Values, IsOf, Shape, is_always, is_absent, by_usage, may_be_unlisted, may_be_long}
use Rattle.gw_leaves.specs.Components.{table_values, value_failures}
use Rattle.gw_leaves.proofs.Fitting.{all_tabled, all_short}
use Rattle.gw_interp.proofs.Lists.{none_fails, both_empty}

-- ---- presence

pub always_required : (u : Usage) → is_always (by_usage (Some u)) ≡ true → is_required u ≡ true
always_required R e = refl
always_required RE e = absurd (cc)
always_required O e = absurd (cc)
always_required X e = absurd (cc)

pub absent_forbidden : (u : Usage) → is_absent (by_usage (Some u)) ≡ true → is_forbidden u ≡ true
absent_forbidden R e = absurd (cc)
absent_forbidden RE e = absurd (cc)
absent_forbidden O e = absurd (cc)
absent_forbidden X e = refl

-- of something that is there only where two things are
pub both_always : (a b : Presence) → is_always (leaves.both a b) ≡ true → (is_always a ≡ true) × (is_always b ≡ true)
both_always Always b e = (refl, e)
both_always Maybe Always e = absurd (cc)
both_always Maybe Maybe e = absurd (cc)
both_always Maybe Never e = absurd (cc)
both_always Never b e = absurd (cc)

pub both_absent : (a b : Presence) → is_absent (leaves.both a b) ≡ true → (is_absent a ≡ true) ⊎ (is_absent b ≡ true)
both_absent Always b e = inr e
both_absent Maybe Always e = absurd (cc)
both_absent Maybe Maybe e = absurd (cc)
both_absent Maybe Never e = inr refl
both_absent Never b e = inl refl

-- ---- texts

pub some_text : (text : List ℕ) → (text ≡ [] → ⊥) → 0 < length text
some_text [] n = absurd (n refl)
some_text (b ∷ text) n = omega arith

pub no_text : (text : List ℕ) → (0 < length text → ⊥) → text ≡ []
no_text [] n = refl
no_text (b ∷ text) n = absurd (n (omega arith))

pub text_there : (text : List ℕ) → 0 < length text → text ≡ [] → ⊥
text_there [] lt e = omega arith
text_there (b ∷ text) lt e = cc

-- always and never are kept; a text that is there, and isn't "", is one of the values
pub record IsShaped (shape : Shape) (text : List ℕ) : Type 0 where
  pub always : is_always shape.presence ≡ true → text ≡ [] → ⊥
  pub absent : is_absent shape.presence ≡ true → text ≡ []
  pub values : (text ≡ [] → ⊥) → is_null text ≡ false → IsOf shape.values text

-- ---- values

pub in_table : (v : Values) (table : Option (List (List ℕ))) (text : List ℕ) → may_be_unlisted v table ≡ false → IsOf v text → lacks table text ≡ false
in_table v None text e is = refl
in_table v (Some table) text e is = not_of (is_among text table) ((among_is text table).1 (all_tabled v table e text is))

pub not_long : (to : Count) (v : Values) (len : Option ℕ) (text : List ℕ) → may_be_long to v len ≡ false → IsOf v text → is_long to len text ≡ false
not_long to v None text e is = refl
not_long to v (Some most) text e is = le-ltb most (measure to text) ((all_short to v most).0 e text is)

pub unlisted_is : (tables : List TableValue) (s : SubValue) (text : List ℕ) → is_unlisted tables s.table text ≡ lacks (table_values tables s) text
unlisted_is tables s text = by s.table
  where
    by : (t : Option (List ℕ)) → is_unlisted tables t text ≡ lacks (option_and_then (λ name. table_of name tables) t) text
    by None = refl
    by (Some name) = refl

-- a text that is there, and isn't "", is no longer than it may be, and in its table
pub record IsFit (profile : ProfileValue) (s : SubValue) (text : List ℕ) : Type 0 where
  pub short : is_long (len_count profile) s.len text ≡ false
  pub in_its_table : is_unlisted profile.tables s.table text ≡ false

pub fit_of : (profile : ProfileValue) (v : Values) (s : SubValue) (text : List ℕ) → may_be_unlisted v (table_values profile.tables s) ≡ false → may_be_long (len_count profile) v s.len ≡ false → IsOf v text → IsFit profile s text
fit_of profile v s text u l is =
    record { short = not_long (len_count profile) v s.len text l is; in_its_table = unlisted_is profile.tables s text ∙ in_table v (table_values profile.tables s) text u is }

-- what may be there is kept to its table and length
pub fit_values : (profile : ProfileValue) (mark : Mark) (shape : Shape) (s : SubValue) (text : List ℕ) → value_failures profile mark shape s ≡ [] → IsShaped shape text → (text ≡ [] → ⊥) → is_null text ≡ false → IsFit profile s text
fit_values profile mark shape s text none is some other =
    let parts = both_empty (fails 6 mark (not (is_absent shape.presence) && may_be_unlisted shape.values (table_values profile.tables s))) (fails 7 mark (not (is_absent shape.presence) && may_be_long (len_count profile) shape.values s.len)) none in
    fit_of profile shape.values s text (allowed _ (none_fails 6 mark _ parts.0)) (allowed _ (none_fails 7 mark _ parts.1)) (is.values some other)
  where
    by : (a b : Bool) → is_absent shape.presence ≡ a → not a && b ≡ false → b ≡ false
    by true b f g = absurd (some (is.absent f))
    by false b f g = g

    allowed : (b : Bool) → not (is_absent shape.presence) && b ≡ false → b ≡ false
    allowed b e = by (is_absent shape.presence) b refl e
