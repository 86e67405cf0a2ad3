-- The fields of a segment are copied as its own profile asks for them.
use Rattle.std.proofs.Common.{◌≡◌, ℕ, suc, ◌<◌, ◌≤◌, inl, inr, Bool, true, false, List, [], ◌∷◌, ◌++◌, map, Option, Some, None, refl, sym, ap, ap₂, ◌∙◌, subst, arith}
use Rattle.std.specs.Prelude.{if◌then◌else◌, cond, ◌==◌, ◌&&◌, not, nat_lt, find, filter, flat_map, unwrap_or}
use Rattle.std.specs.List.{AllByRecursion}
use Rattle.std.proofs.lemmas.Bool.{le-ltb, eq-eqb, eqb-true, ne_eqb}
use Rattle.gw_profile.specs.declared.shape.Usage.{Usage}
use Rattle.gw_profile.specs.declared.shape.Usage.TheVariants.{R, X}
use Rattle.gw_profile.specs.declared.shape.Card.{Card}
use Rattle.gw_profile.specs.Fault.{least_field}
use Rattle.gw_profile.specs.Line as line
use Rattle.gw_profile.specs.Shapes.{SubValue, CompValue, FieldValue, SegmentValue, ProfileValue}
use Rattle.gw_profile.specs.Lengths.{measure, len_count}
use Rattle.gw_profile.specs.Value.{table_of}
use Rattle.gw_profile.specs.WellFormed.{Agrees, Rising, field_numbers, LawfulSub, LawfulComp, LawfulField, LawfulSegment}
use Rattle.gw_profile.specs.Among as lists
use Rattle.gw_leaves.proofs.Fitting.{all_listed, all_short}
use Rattle.gw_profile.proofs.Facts.{tells, le_is, le_test}
use Rattle.gw_validate.specs.Breaches.{is_required, is_forbidden}
use Rattle.gw_leaves.specs.declared.shape.Presence.{Presence}
use Rattle.gw_leaves.specs.declared.shape.Presence.TheVariants.{Never}
use Rattle.gw_resolve.specs.Failures.{Mark, Failure}
use Rattle.gw_resolve.specs.Intervals.{never, once, of_card, is_never, is_within}
use Rattle.gw_resolve.specs.Places.{Element, a_segment}
use Rattle.gw_resolve.specs.Resolved.{Rule, rule_of}
use Rattle.gw_resolve.specs.Naming.{itself}
use Rattle.gw_leaves.specs.Leaves.{Sources, any, listed, by_usage, comp_presence, sub_usage, sub_presence, is_always, is_absent, is_short, sub_values, may_be_unlisted, may_be_long}
use Rattle.gw_profile.specs.Numbered.{field_of, comp_of, sub_of}
use Rattle.gw_leaves.specs.Counts.{rule_count, reference_count}
use Rattle.gw_leaves.specs.Components.{field_mark, comp_in, sub_in, table_values, value_failures, copied_sub, copied_comp, copied_field, rule_lookups}
use Rattle.gw_check.specs.Fields.{is_expected, often_failures, content_failures, count_failures, field_failures, segment_failures}
use Rattle.gw_check.specs.Levels.{sources}
use Rattle.gw_check.proofs.IdentityNamed.{same_rule, same_rules, no_more, holds}

-- ---- numbers that rise

-- where none fails that is lawful and is found by its number, none does
module _ {A B : Type 0} (number : A → ℕ) (Lawful : A → Type 0) (fails : A → List B) (whole : List A) (so : (x : A) → Lawful x → find (λ y. number y == number x) whole ≡ Some x → fails x ≡ []) where
  none_fails : (low high : ℕ) (xs : List A) → ((n : ℕ) → low ≤ n → find (λ y. number y == n) whole ≡ find (λ y. number y == n) xs) → Rising low high (map number xs) → AllByRecursion Lawful xs → flat_map fails xs ≡ []
  none_fails low high [] same r l = refl
  none_fails low high (x ∷ xs) same r l =
      let first : (n : ℕ) (b : Bool) → (number x == n) ≡ b → find (λ y. number y == n) (x ∷ xs) ≡ cond b (Some x) (find (λ y. number y == n) xs) = λ n b e. ap (λ t. cond t (Some x) (find (λ y. number y == n) xs)) e in
      no_more (fails x) (flat_map fails xs) (so x l.0 (same (number x) r.0 ∙ first (number x) true (eq-eqb (number x) (number x) refl)))
      (none_fails (suc (number x)) high xs (λ n less. same n (omega (arith, less, r.0)) ∙ first n false (ne_eqb (number x) n (λ e. omega (arith, less, e)))) r.2 l.1)

-- ---- rules

pub forbidden_is : (u : Usage) → line.is_forbidden (Some u) ≡ is_forbidden u
forbidden_is X = refl
forbidden_is u = refl

abbrev rule_or : Bool → ℕ → Option Rule
rule_or forbidden number = if forbidden then None else Some (same_rule number)

-- none below the least number
none_below : (n low high : ℕ) (fields : List FieldValue) → n < low → Rising low high (field_numbers fields) → rule_of (same_rules fields) n ≡ None
none_below n low high [] less r = refl
none_below n low high (f ∷ fields) less r =
    let other : (f.number == n) ≡ false = ne_eqb f.number n (λ e. omega (arith, less, r.0, e)) in
    let later : rule_of (same_rules fields) n ≡ None = none_below n (suc f.number) high fields (omega (arith, less, r.0)) r.2 in
    elim (line.is_forbidden (Some f.usage)) as (λ b. rule_of (if b then same_rules fields else same_rule f.number ∷ same_rules fields) n ≡ None)
    [ true ↦ later | false ↦ ap (λ b. cond b (Some (same_rule f.number)) (rule_of (same_rules fields) n)) other ∙ later ]

abbrev copy_of : Option FieldValue → Option Rule
copy_of None = None
copy_of (Some f) = rule_or (line.is_forbidden (Some f.usage)) f.number

-- a field that isn't X has a copy of it, no other has a rule
ruled : (n low high : ℕ) (fields : List FieldValue) → Rising low high (field_numbers fields) → rule_of (same_rules fields) n ≡ copy_of (field_of fields n)
ruled n low high [] r = refl
ruled n low high (f ∷ fields) r =
    let later = ruled n (suc f.number) high fields r.2 in
    let none : f.number ≡ n → rule_of (same_rules fields) n ≡ None = λ e. none_below n (suc f.number) high fields (omega (arith, e)) r.2 in
    elim (tells (f.number == n)) [
      | inl e ↦ rw e (elim (line.is_forbidden (Some f.usage)) as (λ b. rule_of (if b then same_rules fields else same_rule f.number ∷ same_rules fields) n ≡ rule_or b f.number)
          [ true ↦ none (eqb-true f.number n e) | false ↦ rw e refl ])
      | inr e ↦ rw e (elim (line.is_forbidden (Some f.usage)) as (λ b. rule_of (if b then same_rules fields else same_rule f.number ∷ same_rules fields) n ≡ copy_of (field_of fields n)) [ true ↦ later | false ↦ rw e later ])
    ]

-- ---- values

pub not_and : (a b : Bool) → b ≡ false → a && b ≡ false
not_and true b e = e
not_and false b e = refl

-- a text that a test leaves passes it, and stood there before
kept : (test : List ℕ → Bool) (x : List ℕ) (texts : List (List ℕ)) → lists.Among x (filter test texts) → (test x ≡ true) × lists.Among x texts
kept test x [] a = absurd a
kept test x (y ∷ texts) a = by (test y) refl a (kept test x texts)
  where
    by : (b : Bool) → test y ≡ b → lists.Among x (cond b (y ∷ filter test texts) (filter test texts)) → (lists.Among x (filter test texts) → (test x ≡ true) × lists.Among x texts) → (test x ≡ true) × lists.Among x (y ∷ texts)
    by true e (inl same) later = (ap test same ∙ e, inl same)
    by true e (inr b) later = ((later b).0, inr (later b).1)
    by false e b later = ((later b).0, inr (later b).1)

module _ (profile : ProfileValue) where
  abbrev sub_with : ℕ → Usage → Option ℕ → Option (List ℕ) → SubValue
  sub_with number usage len table = record { number = number; usage = usage; len = len; table = table }

  listed_or : (len : Option ℕ) (o : Option (List (List ℕ))) → may_be_unlisted (listed (filter (is_short (len_count profile) len) (unwrap_or o []))) o ≡ false
  listed_or len None = refl
  listed_or len (Some values) = (all_listed (filter (is_short (len_count profile) len) values) values).1 (λ x a. (kept (is_short (len_count profile) len) x values a).1)

  always_listed : (number : ℕ) (usage : Usage) (len : Option ℕ) (table : Option (List ℕ)) → may_be_unlisted (sub_values profile (Some (sub_with number usage len table))) (table_values profile.tables (sub_with number usage len table)) ≡ false
  always_listed number usage len None = refl
  always_listed number usage len (Some name) = listed_or len (table_of name profile.tables)

  always_short : (number : ℕ) (usage : Usage) (len : Option ℕ) (table : Option (List ℕ)) → may_be_long (len_count profile) (sub_values profile (Some (sub_with number usage len table))) len ≡ false
  always_short number usage None table = refl
  always_short number usage (Some most) None = (all_short (len_count profile) (any (len_count profile) (Some most)) most).1 (λ x e. le_is (measure (len_count profile) x) most e)
  always_short number usage (Some most) (Some name) =
      let values = unwrap_or (table_of name profile.tables) [] in
      let short = is_short (len_count profile) (Some most) in
      (all_short (len_count profile) (listed (filter short values)) most).1 (λ x a. le_is (measure (len_count profile) x) most (kept short x values a).0)

  -- ---- components and subcomponents

  is_there : (u : Usage) → is_required u && not (is_always (by_usage (Some u))) ≡ false
  is_there R = refl
  is_there u = refl

  is_never_there : (u : Usage) → is_forbidden u && not (is_absent (by_usage (Some u))) ≡ false
  is_never_there X = refl
  is_never_there u = refl

  values_hold : (mark : Mark) (presence : Presence) (s : SubValue) → value_failures profile mark (record { presence = presence; values = sub_values profile (Some s) }) s ≡ []
  values_hold mark presence s =
      no_more _ _ (holds 6 _ _ (not_and (not (is_absent presence)) _ (always_listed s.number s.usage s.len s.table)))
      (holds 7 _ _ (not_and (not (is_absent presence)) _ (always_short s.number s.usage s.len s.table)))

  -- below a component that may be there a subcomponent is there as its usage says
  sub_holds : (mark : Mark) (c : CompValue) (s : SubValue) → is_absent (comp_presence (Some c)) ≡ false → sub_of (Some c) s.number ≡ Some s → copied_sub profile profile mark (Some c) s ≡ []
  sub_holds mark c s there found =
      let presence : sub_presence (Some c) (sub_of (Some c) s.number) ≡ by_usage (Some s.usage) = ap₂ (λ b o. if b then Never else sub_usage o) there found in
      no_more _ _
      (no_more _ _ (holds 5 _ _ (ap (λ p. is_required s.usage && not (is_always p)) presence ∙ is_there s.usage))
      (holds 11 _ _ (ap (λ p. is_forbidden s.usage && not (is_absent p)) presence ∙ is_never_there s.usage)))
      (ap (λ o. value_failures profile (sub_in mark s.number) (record { presence = sub_presence (Some c) (sub_of (Some c) s.number); values = sub_values profile o }) s) found
      ∙ values_hold (sub_in mark s.number) (sub_presence (Some c) (sub_of (Some c) s.number)) s)

  x_is_absent : (u : Usage) → is_absent (by_usage (Some u)) ≡ true → u ≡ X
  x_is_absent X e = refl
  x_is_absent u e = absurd (cc)

  subs_hold : (names : List (List ℕ)) (mark : Mark) (c : CompValue) → LawfulComp names c → flat_map (copied_sub profile profile mark (Some c)) c.subs ≡ []
  subs_hold names mark c l = elim (tells (is_absent (comp_presence (Some c)))) [
    | inl h ↦ ap (flat_map (copied_sub profile profile mark (Some c))) (l.bare (x_is_absent c.usage h))
    | inr h ↦ none_fails (λ (s : SubValue). s.number) (LawfulSub names) (copied_sub profile profile mark (Some c)) c.subs (λ s lawful found. sub_holds mark c s h found) 1 99 c.subs (λ n less. refl) l.rising l.each
  ]

  comp_holds : (names : List (List ℕ)) (mark : Mark) (f : FieldValue) (c : CompValue) → LawfulComp names c → comp_of (Some f) c.number ≡ Some c → copied_comp profile profile mark (Some f) c ≡ []
  comp_holds names mark f c l found =
      no_more _ _
      (no_more _ _ (holds 5 _ _ (ap (λ o. is_required c.usage && not (is_always (comp_presence o))) found ∙ is_there c.usage))
      (holds 11 _ _ (ap (λ o. is_forbidden c.usage && not (is_absent (comp_presence o))) found ∙ is_never_there c.usage)))
      (ap (λ o. flat_map (copied_sub profile profile (comp_in mark c.number) o) c.subs) found ∙ subs_hold names (comp_in mark c.number) c l)

  comps_hold : (names : List (List ℕ)) (mark : Mark) (f : FieldValue) → LawfulField names f → flat_map (copied_comp profile profile mark (Some f)) f.comps ≡ []
  comps_hold names mark f l =
      none_fails (λ (c : CompValue). c.number) (LawfulComp names) (copied_comp profile profile mark (Some f)) f.comps (λ c lawful found. comp_holds names mark f c lawful found) 1 99 f.comps (λ n less. refl) l.rising l.each

-- ---- a field

within_itself : (most : Option ℕ) → is_within most most ≡ true
within_itself None = refl
within_itself (Some most) = le_test most most (omega arith)

-- what comes as often as it may
pub given_holds : (mark : Mark) (u : Usage) (card : Card) → line.is_forbidden (Some u) ≡ false → often_failures mark (of_card card) u card false ≡ []
given_holds mark u card other =
    let allowed : is_forbidden u ≡ false = sym (forbidden_is u) ∙ other in
    no_more _ _ (no_more _ _ (no_more _ _
    (holds 4 _ _ (not_and (not (is_forbidden u)) _ (ap not (within_itself card.max))))
    (holds 5 _ _ (le-ltb card.min card.min (omega arith))))
    (holds 8 _ _ (not_and _ false refl)))
    (holds 11 _ _ (ap (λ b. b && not (is_never card.max)) allowed))

-- X, where nothing gives it
pub absent_holds : (mark : Mark) (u : Usage) (card : Card) → u ≡ X → card.min ≡ 0 → often_failures mark never u card true ≡ []
absent_holds mark u card is low =
    no_more _ _ (no_more _ _ (no_more _ _
    (holds 4 _ _ (ap (λ v. not (is_forbidden v) && not (is_within (Some 0) card.max)) is))
    (holds 5 _ _ (ap (nat_lt 0) low)))
    (holds 8 _ _ (ap (λ v. is_expected v && true) is)))
    (holds 11 _ _ (not_and (is_forbidden u) false refl))

pub x_is : (u : Usage) → line.is_forbidden (Some u) ≡ true → u ≡ X
x_is X e = refl
x_is u e = absurd (cc)

-- ---- a segment that is walked

module _ (profile : ProfileValue) (names : List (List ℕ)) (s : SegmentValue) (scope : List Element) where
  abbrev walked : Sources
  walked = sources profile (a_segment s ∷ scope)

  abbrev failures_of : FieldValue → Option Rule → List Failure
  failures_of f o = count_failures 0 (rule_count walked o) f o ++ content_failures walked profile f o

  contents_hold : (f : FieldValue) → LawfulField names f → field_of s.fields f.number ≡ Some f → content_failures walked profile f (Some (same_rule f.number)) ≡ []
  contents_hold f l found =
      elim (is_never (rule_count walked (Some (same_rule f.number))).greatest) as (λ b. (if b then [] else copied_field walked profile (field_mark f.number 0) (record { place = itself; field = f.number }) f) ≡ [])
      [ true ↦ refl | false ↦ ap (λ o. flat_map (copied_comp profile profile (field_mark f.number 0) o) f.comps) found ∙ comps_hold profile names (field_mark f.number 0) f l ]

  field_holds : (f : FieldValue) → LawfulField names f → rule_of (same_rules s.fields) f.number ≡ copy_of (field_of s.fields f.number) → field_of s.fields f.number ≡ Some f → field_failures walked profile 0 (same_rules s.fields) f ≡ []
  field_holds f l copied found =
      let own = copied ∙ ap copy_of found in
      elim (tells (line.is_forbidden (Some f.usage))) [
        | inl h ↦
            let is = x_is f.usage h in
            let none : rule_of (same_rules s.fields) f.number ≡ None = own ∙ ap (λ b. rule_or b f.number) h in
            ap (failures_of f) none ∙ no_more _ _ (absent_holds (field_mark f.number 0) f.usage f.card is (subst (λ u. Agrees u f.card) is l.agrees).0) refl
        | inr h ↦
            -- (it comes as often as the field)
            let some : rule_of (same_rules s.fields) f.number ≡ Some (same_rule f.number) = own ∙ ap (λ b. rule_or b f.number) h in
            ap (failures_of f) some
            ∙ no_more _ _ (ap (λ o. count_failures 0 (reference_count (record { count = once; fields = s.fields }) o) f (Some (same_rule f.number))) found ∙ given_holds (field_mark f.number 0) f.usage f.card h) (contents_hold f l found)
      ]

  no_lookups : (fields : List FieldValue) → flat_map (rule_lookups walked) (same_rules fields) ≡ []
  no_lookups [] = refl
  no_lookups (f ∷ fields) =
      elim (line.is_forbidden (Some f.usage)) as (λ b. flat_map (rule_lookups walked) (if b then same_rules fields else same_rule f.number ∷ same_rules fields) ≡ []) [ true ↦ no_lookups fields | false ↦ no_lookups fields ]

  pub segment_holds : LawfulSegment names s → segment_failures walked profile 0 (same_rules s.fields) s.fields ≡ []
  segment_holds l =
      no_more _ _
      (none_fails (λ (f : FieldValue). f.number) (LawfulField names) (field_failures walked profile 0 (same_rules s.fields)) s.fields
      (λ f lawful found. field_holds f lawful (ruled f.number (least_field s.name) 999 s.fields l.rising) found) (least_field s.name) 999 s.fields (λ n less. refl) l.rising l.each)
      (no_lookups s.fields)
