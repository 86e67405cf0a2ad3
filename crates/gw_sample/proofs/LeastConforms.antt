-- The least message of a well formed profile conforms to it.
use Rattle.std.proofs.Common.{◌≡◌, ℕ, zero, suc, ◌-◌, ◌<◌, ◌≤◌, ◌⊎◌, inl, inr, Bool, true, false, List, [], ◌∷◌, ◌++◌, Option, Some, None, refl, sym, ap, ◌∙◌, subst, arith, length, get_or, unwrap_or, bytes_eq}
use Rattle.std.specs.Prelude.{◌||◌, if◌then◌else◌, cond, filter}
use Rattle.std.specs.List.{AllByRecursion, flat_map}
use Rattle.std.specs.FinMap as texts
use Rattle.std.specs.Ordering.{nat_cmp}
use Rattle.std.specs.Cmp.Lexicographic.{slice_cmp, nat_list_cmp_total}
use Rattle.std.proofs.lemmas.Bool.{cases_lt}
use Rattle.std.proofs.lemmas.Map.Text.{is_eq-slice_cmp}
use Rattle.gw_er7.specs.Message.{SegmentValue, Texts, text_of}
use Rattle.gw_er7.specs.Presence.{RepAt}
use Rattle.gw_profile.specs.declared.shape.Usage.{Usage}
use Rattle.gw_profile.specs.declared.shape.Usage.TheVariants.{R, RE, O, X}
use Rattle.gw_profile.specs.declared.shape.Card.{Card}
use Rattle.gw_profile.specs.Among.{Among}
use Rattle.gw_profile.specs.Deterministic.{Name, AtMost}
use Rattle.gw_profile.specs.Names.{stands}
use Rattle.gw_profile.specs.Shapes.{SubValue, CompValue, FieldValue, Forest, nothing, segment, group, ProfileValue}
use Rattle.gw_profile.specs.WellFormed.{Agrees, Rising, sub_numbers, comp_numbers, field_numbers, LawfulComp, LawfulField, LawfulSegment, LawfulGroup, EachSegment, EachGroup, WellFormed, table_names}
use Rattle.gw_profile.proofs.Among.{among_append, among_if, among_one}
use Rattle.gw_validate.specs.Breaches.{is_required, is_forbidden, is_null, Counted, SubBreach, sub_absent, sub_forbidden, too_long, not_listed, InAny, in_first, in_later, CompBreach, comp_absent, comp_forbidden, in_sub, RepBreach, one_too_many, in_comp, in_rep, FieldBreach, too_few, field_forbidden, in_reps, Meets}
use Rattle.gw_validate.specs.Conforming.{listed, Seq, Conforms}
use Rattle.gw_validate.specs.Cuts.{Many}
use Rattle.gw_validate.proofs.Names.{name_tells, equal_names}
use Rattle.gw_sample.specs.own.Least.{Key, null, or_else, sub_keys, comp_keys, rep_keys, reps_keys, keys_of, entries_of, one_of, several_of, least}

-- ---- the places of the texts

abbrev subs_keys : ℕ → ℕ → ℕ → List SubValue → List Key
subs_keys f r c ss = flat_map (sub_keys f r c) ss

abbrev comps_keys : ℕ → ℕ → List CompValue → List Key
comps_keys f r ks = flat_map (comp_keys f r) ks

-- the same as relations
abbrev InSubs : List SubValue → ℕ → Type 0
InSubs [] n = ⊥
InSubs (s ∷ ss) n = ((is_required s.usage ≡ true) × (n ≡ s.number)) ⊎ InSubs ss n

abbrev NoSubs : List SubValue → Type 0
NoSubs ss = (n : ℕ) → InSubs ss n → ⊥

abbrev InComp : CompValue → ℕ → Type 0
InComp k n = ((n ≡ 100) × NoSubs k.subs) ⊎ InSubs k.subs n

abbrev InComps : List CompValue → ℕ → ℕ → Type 0
InComps [] c n = ⊥
InComps (k ∷ ks) c n = ((is_required k.usage ≡ true) × (c ≡ k.number) × InComp k n) ⊎ InComps ks c n

abbrev NoComps : List CompValue → Type 0
NoComps ks = (c n : ℕ) → InComps ks c n → ⊥

abbrev InRep : FieldValue → ℕ → ℕ → Type 0
InRep v c n = ((c ≡ 100) × (n ≡ 1) × NoComps v.comps) ⊎ InComps v.comps c n

abbrev InFields : List FieldValue → ℕ → ℕ → ℕ → ℕ → Type 0
InFields [] f r c n = ⊥
InFields (v ∷ vs) f r c n = ((f ≡ v.number) × (0 < r) × (r ≤ v.card.min) × InRep v c n) ⊎ InFields vs f r c n

-- where there is none, the other one
or_in : (key x : Key) (ks : List Key) → Among x (or_else key ks) → ((x ≡ key) × (ks ≡ [])) ⊎ Among x ks
or_in key x [] (inl e) = inl (e, refl)
or_in key x [] (inr a) = absurd a
or_in key x (k ∷ ks) a = inr a

or_out : (key x : Key) (ks : List Key) → Among x ks → Among x (or_else key ks)
or_out key x [] a = absurd a
or_out key x (k ∷ ks) a = a

or_alone : (key : Key) (ks : List Key) → ks ≡ [] → Among key (or_else key ks)
or_alone key ks e = subst (λ (l : List Key). Among key (or_else key l)) (sym e) (inl refl)

none_among : (ks : List Key) (x : Key) → ks ≡ [] → Among x ks → ⊥
none_among ks x e a = absurd (subst (Among x) e a)

no_keys : (b : Bool) (ks : List Key) → (b ≡ true → ks ≡ []) → (if b then ks else []) ≡ []
no_keys true ks h = h refl
no_keys false ks h = refl

both_empty : (ks ls : List Key) → ks ≡ [] → ls ≡ [] → ks ++ ls ≡ []
both_empty ks ls e f = ap (λ (l : List Key). l ++ ls) e ∙ f

is_or_not : (b : Bool) → (b ≡ true) ⊎ (b ≡ false)
is_or_not true = inl refl
is_or_not false = inr refl

module _ (f r c n f' r' c' n' : ℕ) (e : f' ∷ r' ∷ c' ∷ n' ∷ [] ≡ f ∷ r ∷ c ∷ n ∷ []) where
  field_is : f' ≡ f
  field_is = ap (λ (l : List ℕ). get_or l 0 0) e

  rep_is : r' ≡ r
  rep_is = ap (λ (l : List ℕ). get_or l 1 0) e

  comp_is : c' ≡ c
  comp_is = ap (λ (l : List ℕ). get_or l 2 0) e

  sub_is : n' ≡ n
  sub_is = ap (λ (l : List ℕ). get_or l 3 0) e

subs_in : (f r c : ℕ) (ss : List SubValue) (f' r' c' n' : ℕ) → Among (f' ∷ r' ∷ c' ∷ n' ∷ []) (subs_keys f r c ss) → (f' ≡ f) × (r' ≡ r) × (c' ≡ c) × InSubs ss n'
subs_in f r c [] f' r' c' n' h = absurd h
subs_in f r c (s ∷ ss) f' r' c' n' h = elim ((among_append (if is_required s.usage then (f ∷ r ∷ c ∷ s.number ∷ []) ∷ [] else []) (subs_keys f r c ss) (f' ∷ r' ∷ c' ∷ n' ∷ [])).0 h) [
  | inl a ↦ (let p = (among_if (is_required s.usage) ((f ∷ r ∷ c ∷ s.number ∷ []) ∷ []) (f' ∷ r' ∷ c' ∷ n' ∷ [])).0 a in
      let e = (among_one (f ∷ r ∷ c ∷ s.number ∷ []) (f' ∷ r' ∷ c' ∷ n' ∷ [])).0 p.1 in
      (field_is f r c s.number f' r' c' n' e, rep_is f r c s.number f' r' c' n' e, comp_is f r c s.number f' r' c' n' e, inl (p.0, sub_is f r c s.number f' r' c' n' e)))
  | inr b ↦ (let p = subs_in f r c ss f' r' c' n' b in (p.0, p.1, p.2, inr p.3))
]

subs_out : (f r c : ℕ) (ss : List SubValue) (n : ℕ) → InSubs ss n → Among (f ∷ r ∷ c ∷ n ∷ []) (subs_keys f r c ss)
subs_out f r c [] n h = absurd h
subs_out f r c (s ∷ ss) n (inl h) =
    (among_append (if is_required s.usage then (f ∷ r ∷ c ∷ s.number ∷ []) ∷ [] else []) (subs_keys f r c ss) (f ∷ r ∷ c ∷ n ∷ [])).1
    (inl ((among_if (is_required s.usage) ((f ∷ r ∷ c ∷ s.number ∷ []) ∷ []) (f ∷ r ∷ c ∷ n ∷ [])).1 (h.0, inl (ap (λ (i : ℕ). f ∷ r ∷ c ∷ i ∷ []) h.1))))
subs_out f r c (s ∷ ss) n (inr h) =
    (among_append (if is_required s.usage then (f ∷ r ∷ c ∷ s.number ∷ []) ∷ [] else []) (subs_keys f r c ss) (f ∷ r ∷ c ∷ n ∷ [])).1 (inr (subs_out f r c ss n h))

-- no key where none has to come, and the other way round
no_subs : (f r c : ℕ) (ss : List SubValue) → NoSubs ss → subs_keys f r c ss ≡ []
no_subs f r c [] h = refl
no_subs f r c (s ∷ ss) h =
    both_empty (sub_keys f r c s) (subs_keys f r c ss) (no_keys (is_required s.usage) ((f ∷ r ∷ c ∷ s.number ∷ []) ∷ []) (λ req. absurd (h s.number (inl (req, refl)))))
    (no_subs f r c ss (λ n i. h n (inr i)))

none_in : (f r c : ℕ) (ss : List SubValue) → subs_keys f r c ss ≡ [] → NoSubs ss
none_in f r c ss e n i = none_among (subs_keys f r c ss) (f ∷ r ∷ c ∷ n ∷ []) e (subs_out f r c ss n i)

comps_in : (f r : ℕ) (ks : List CompValue) (f' r' c' n' : ℕ) → Among (f' ∷ r' ∷ c' ∷ n' ∷ []) (comps_keys f r ks) → (f' ≡ f) × (r' ≡ r) × InComps ks c' n'
comps_in f r [] f' r' c' n' h = absurd h
comps_in f r (k ∷ ks) f' r' c' n' h = elim ((among_append (comp_keys f r k) (comps_keys f r ks) (f' ∷ r' ∷ c' ∷ n' ∷ [])).0 h) [
  | inl a ↦ (let key = f ∷ r ∷ k.number ∷ 100 ∷ [] in
      let p = (among_if (is_required k.usage) (or_else key (subs_keys f r k.number k.subs)) (f' ∷ r' ∷ c' ∷ n' ∷ [])).0 a in
      elim (or_in key (f' ∷ r' ∷ c' ∷ n' ∷ []) (subs_keys f r k.number k.subs) p.1) [
        | inl e ↦ (let is = e.0 in
            (field_is f r k.number 100 f' r' c' n' is, rep_is f r k.number 100 f' r' c' n' is, inl (p.0, comp_is f r k.number 100 f' r' c' n' is, inl (sub_is f r k.number 100 f' r' c' n' is, none_in f r k.number k.subs e.1))))
        | inr b ↦ (let q = subs_in f r k.number k.subs f' r' c' n' b in (q.0, q.1, inl (p.0, q.2, inr q.3)))
      ])
  | inr b ↦ (let p = comps_in f r ks f' r' c' n' b in (p.0, p.1, inr p.2))
]

comp_out : (f r c : ℕ) (k : CompValue) (n : ℕ) → c ≡ k.number → InComp k n → Among (f ∷ r ∷ c ∷ n ∷ []) (or_else (f ∷ r ∷ k.number ∷ 100 ∷ []) (subs_keys f r k.number k.subs))
comp_out f r c k n is (inl e) =
    let key : Key = f ∷ r ∷ k.number ∷ 100 ∷ [] in
    let subs : List Key = subs_keys f r k.number k.subs in
    let same : f ∷ r ∷ c ∷ n ∷ [] ≡ key = ap (λ (i : ℕ). f ∷ r ∷ i ∷ n ∷ []) is ∙ ap (λ (i : ℕ). f ∷ r ∷ k.number ∷ i ∷ []) e.0 in
    subst (λ (x : Key). Among x (or_else key subs)) (sym same) (or_alone key subs (no_subs f r k.number k.subs e.1))
comp_out f r c k n is (inr b) =
    let subs : List Key = subs_keys f r k.number k.subs in
    or_out (f ∷ r ∷ k.number ∷ 100 ∷ []) (f ∷ r ∷ c ∷ n ∷ []) subs (subst (λ (i : ℕ). Among (f ∷ r ∷ i ∷ n ∷ []) subs) (sym is) (subs_out f r k.number k.subs n b))

comps_out : (f r : ℕ) (ks : List CompValue) (c n : ℕ) → InComps ks c n → Among (f ∷ r ∷ c ∷ n ∷ []) (comps_keys f r ks)
comps_out f r [] c n h = absurd h
comps_out f r (k ∷ ks) c n (inl h) =
    (among_append (comp_keys f r k) (comps_keys f r ks) (f ∷ r ∷ c ∷ n ∷ [])).1
    (inl ((among_if (is_required k.usage) (or_else (f ∷ r ∷ k.number ∷ 100 ∷ []) (subs_keys f r k.number k.subs)) (f ∷ r ∷ c ∷ n ∷ [])).1 (h.0, comp_out f r c k n h.1 h.2)))
comps_out f r (k ∷ ks) c n (inr h) =
    (among_append (comp_keys f r k) (comps_keys f r ks) (f ∷ r ∷ c ∷ n ∷ [])).1 (inr (comps_out f r ks c n h))

-- a component that has to come has a text, and so has a repetition
first_sub : (ss : List SubValue) → ((n : ℕ) × InSubs ss n) ⊎ NoSubs ss
first_sub [] = inr (λ n h. h)
first_sub (s ∷ ss) = by (is_or_not (is_required s.usage)) (first_sub ss)
  where
    by : (is_required s.usage ≡ true) ⊎ (is_required s.usage ≡ false) → ((n : ℕ) × InSubs ss n) ⊎ NoSubs ss → ((n : ℕ) × InSubs (s ∷ ss) n) ⊎ NoSubs (s ∷ ss)
    by (inl req) rest = inl (s.number, inl (req, refl))
    by (inr not) (inl p) = inl (p.0, inr p.1)
    by (inr not) (inr none) = inr (λ n h. elim h [ inl i ↦ (let req = i.0 in absurd (cc)) | inr i ↦ none n i ])

first_text : (k : CompValue) → (n : ℕ) × InComp k n
first_text k = by (first_sub k.subs)
  where
    by : ((n : ℕ) × InSubs k.subs n) ⊎ NoSubs k.subs → (n : ℕ) × InComp k n
    by (inl p) = (p.0, inr p.1)
    by (inr none) = (100, inl (refl, none))

first_comp : (ks : List CompValue) → ((c : ℕ) × (n : ℕ) × InComps ks c n) ⊎ NoComps ks
first_comp [] = inr (λ c n h. h)
first_comp (k ∷ ks) = by (is_or_not (is_required k.usage)) (first_comp ks)
  where
    by : (is_required k.usage ≡ true) ⊎ (is_required k.usage ≡ false) → ((c : ℕ) × (n : ℕ) × InComps ks c n) ⊎ NoComps ks → ((c : ℕ) × (n : ℕ) × InComps (k ∷ ks) c n) ⊎ NoComps (k ∷ ks)
    by (inl req) rest = (let t = first_text k in inl (k.number, t.0, inl (req, refl, t.1)))
    by (inr not) (inl p) = inl (p.0, p.1, inr p.2)
    by (inr not) (inr none) = inr (λ c n h. elim h [ inl i ↦ (let req = i.0 in absurd (cc)) | inr i ↦ none c n i ])

first_in : (v : FieldValue) → (c : ℕ) × (n : ℕ) × InRep v c n
first_in v = by (first_comp v.comps)
  where
    by : ((c : ℕ) × (n : ℕ) × InComps v.comps c n) ⊎ NoComps v.comps → (c : ℕ) × (n : ℕ) × InRep v c n
    by (inl p) = (p.0, p.1, inr p.2)
    by (inr none) = (100, 1, inl (refl, refl, none))

-- the same of a repetition
no_comps : (f r : ℕ) (ks : List CompValue) → NoComps ks → comps_keys f r ks ≡ []
no_comps f r [] h = refl
no_comps f r (k ∷ ks) h =
    let t = first_text k in
    both_empty (comp_keys f r k) (comps_keys f r ks)
    (no_keys (is_required k.usage) (or_else (f ∷ r ∷ k.number ∷ 100 ∷ []) (subs_keys f r k.number k.subs)) (λ req. absurd (h k.number t.0 (inl (req, refl, t.1)))))
    (no_comps f r ks (λ c n i. h c n (inr i)))

none_within : (f r : ℕ) (ks : List CompValue) → comps_keys f r ks ≡ [] → NoComps ks
none_within f r ks e c n i = none_among (comps_keys f r ks) (f ∷ r ∷ c ∷ n ∷ []) e (comps_out f r ks c n i)

reps_in : (k : ℕ) (v : FieldValue) (f' r' c' n' : ℕ) → Among (f' ∷ r' ∷ c' ∷ n' ∷ []) (reps_keys v k) → (f' ≡ v.number) × (0 < r') × (r' ≤ k) × InRep v c' n'
reps_in zero v f' r' c' n' h = absurd h
reps_in (suc r) v f' r' c' n' h = elim ((among_append (reps_keys v r) (rep_keys v (suc r)) (f' ∷ r' ∷ c' ∷ n' ∷ [])).0 h) [
  | inl b ↦ (let q = reps_in r v f' r' c' n' b in (q.0, q.1, omega (arith, q.2), q.3))
  | inr a ↦ elim (or_in (v.number ∷ suc r ∷ 100 ∷ 1 ∷ []) (f' ∷ r' ∷ c' ∷ n' ∷ []) (comps_keys v.number (suc r) v.comps) a) [
    | inl p ↦ (let e = p.0 in
        let is = rep_is v.number (suc r) 100 1 f' r' c' n' e in
        (field_is v.number (suc r) 100 1 f' r' c' n' e, omega (arith, is), omega (arith, is), inl (comp_is v.number (suc r) 100 1 f' r' c' n' e, sub_is v.number (suc r) 100 1 f' r' c' n' e, none_within v.number (suc r) v.comps p.1)))
    | inr b ↦ (let q = comps_in v.number (suc r) v.comps f' r' c' n' b in (q.0, omega (arith, q.1), omega (arith, q.1), inr q.2))
  ]
]

reps_out : (k : ℕ) (v : FieldValue) (r c n : ℕ) → 0 < r → r ≤ k → InRep v c n → Among (v.number ∷ r ∷ c ∷ n ∷ []) (reps_keys v k)
reps_out zero v r c n some le h = absurd (omega (arith, some, le))
reps_out (suc k) v r c n some le h = by (λ short. reps_out k v r c n some short h) (cases_lt r (suc k))
  where
    last : r ≡ suc k → InRep v c n → Among (v.number ∷ r ∷ c ∷ n ∷ []) (rep_keys v (suc k))
    last e (inl i) =
        let key : Key = v.number ∷ suc k ∷ 100 ∷ 1 ∷ [] in
        let comps : List Key = comps_keys v.number (suc k) v.comps in
        let is : v.number ∷ r ∷ c ∷ n ∷ [] ≡ key = ap (λ (j : ℕ). v.number ∷ j ∷ c ∷ n ∷ []) e ∙ ap (λ (j : ℕ). v.number ∷ suc k ∷ j ∷ n ∷ []) i.0 ∙ ap (λ (j : ℕ). v.number ∷ suc k ∷ 100 ∷ j ∷ []) i.1 in
        subst (λ (x : Key). Among x (or_else key comps)) (sym is) (or_alone key comps (no_comps v.number (suc k) v.comps i.2))
    last e (inr i) =
        let comps : List Key = comps_keys v.number (suc k) v.comps in
        or_out (v.number ∷ suc k ∷ 100 ∷ 1 ∷ []) (v.number ∷ r ∷ c ∷ n ∷ []) comps (subst (λ (j : ℕ). Among (v.number ∷ j ∷ c ∷ n ∷ []) comps) (sym e) (comps_out v.number (suc k) v.comps c n i))

    by : (r ≤ k → Among (v.number ∷ r ∷ c ∷ n ∷ []) (reps_keys v k)) → (r < suc k) ⊎ (suc k ≤ r) → Among (v.number ∷ r ∷ c ∷ n ∷ []) (reps_keys v (suc k))
    by earlier (inl lt) = (among_append (reps_keys v k) (rep_keys v (suc k)) (v.number ∷ r ∷ c ∷ n ∷ [])).1 (inl (earlier (omega arith)))
    by earlier (inr ge) = (among_append (reps_keys v k) (rep_keys v (suc k)) (v.number ∷ r ∷ c ∷ n ∷ [])).1 (inr (last (omega (arith, le, ge)) h))

fields_in : (vs : List FieldValue) (f r c n : ℕ) → Among (f ∷ r ∷ c ∷ n ∷ []) (keys_of vs) → InFields vs f r c n
fields_in [] f r c n h = absurd h
fields_in (v ∷ vs) f r c n h = elim ((among_append (reps_keys v v.card.min) (keys_of vs) (f ∷ r ∷ c ∷ n ∷ [])).0 h) [
  | inl a ↦ inl (reps_in v.card.min v f r c n a)
  | inr b ↦ inr (fields_in vs f r c n b)
]

fields_out : (vs : List FieldValue) (f r c n : ℕ) → InFields vs f r c n → Among (f ∷ r ∷ c ∷ n ∷ []) (keys_of vs)
fields_out [] f r c n h = absurd h
fields_out (v ∷ vs) f r c n (inl h) =
    (among_append (reps_keys v v.card.min) (keys_of vs) (f ∷ r ∷ c ∷ n ∷ [])).1
    (inl (subst (λ (i : ℕ). Among (i ∷ r ∷ c ∷ n ∷ []) (reps_keys v v.card.min)) (sym h.0) (reps_out v.card.min v r c n h.1 h.2 h.3)))
fields_out (v ∷ vs) f r c n (inr h) = (among_append (reps_keys v v.card.min) (keys_of vs) (f ∷ r ∷ c ∷ n ∷ [])).1 (inr (fields_out vs f r c n h))

-- ---- the texts

found : (ks : List Key) (q : Key) → Among q ks → texts.find (slice_cmp nat_cmp) q (entries_of ks) ≡ Some null
found [] q h = absurd h
found (k ∷ ks) q h = by (found ks q) (name_tells q k) h
  where
    step : (b : Bool) → bytes_eq q k ≡ b → texts.find (slice_cmp nat_cmp) q (entries_of (k ∷ ks)) ≡ cond b (Some null) (texts.find (slice_cmp nat_cmp) q (entries_of ks))
    step b e = ap (λ (t : Bool). cond t (Some null) (texts.find (slice_cmp nat_cmp) q (entries_of ks))) (is_eq-slice_cmp q k ∙ e)

    by : (Among q ks → texts.find (slice_cmp nat_cmp) q (entries_of ks) ≡ Some null) → ((bytes_eq q k ≡ true) × (q ≡ k)) ⊎ ((bytes_eq q k ≡ false) × (q ≡ k → ⊥)) → Among q (k ∷ ks) → texts.find (slice_cmp nat_cmp) q (entries_of (k ∷ ks)) ≡ Some null
    by later (inl p) a = step true p.0
    by later (inr p) (inl e) = absurd (p.1 e)
    by later (inr p) (inr a) = step false p.0 ∙ later a

lone : (ks : List Key) (q : Key) → 0 < length (unwrap_or (texts.find (slice_cmp nat_cmp) q (entries_of ks)) []) → Among q ks
lone [] q h = absurd (omega arith)
lone (k ∷ ks) q h = by (lone ks q) (name_tells q k)
  where
    by : (0 < length (unwrap_or (texts.find (slice_cmp nat_cmp) q (entries_of ks)) []) → Among q ks) → ((bytes_eq q k ≡ true) × (q ≡ k)) ⊎ ((bytes_eq q k ≡ false) × (q ≡ k → ⊥)) → Among q (k ∷ ks)
    by later (inl p) = inl p.1
    by later (inr p) =
        let e = ap (λ (t : Bool). cond t (Some null) (texts.find (slice_cmp nat_cmp) q (entries_of ks))) (is_eq-slice_cmp q k ∙ p.0) in
        inr (later (subst (λ (o : Option (List ℕ)). 0 < length (unwrap_or o [])) e h))

abbrev texts_of : List FieldValue → Texts
texts_of vs = texts.from_entries (entries_of (keys_of vs))

has_null : (vs : List FieldValue) (f r c n : ℕ) → InFields vs f r c n → text_of (texts_of vs) f r c n ≡ null
has_null vs f r c n h =
    ap (λ (o : Option (List ℕ)). unwrap_or o []) (texts.get-from_entries nat_list_cmp_total (entries_of (keys_of vs)) (f ∷ r ∷ c ∷ n ∷ []) ∙ found (keys_of vs) (f ∷ r ∷ c ∷ n ∷ []) (fields_out vs f r c n h))

has_place : (vs : List FieldValue) (f r c n : ℕ) → 0 < length (text_of (texts_of vs) f r c n) → InFields vs f r c n
has_place vs f r c n h =
    fields_in vs f r c n (lone (keys_of vs) (f ∷ r ∷ c ∷ n ∷ [])
    (subst (λ (o : Option (List ℕ)). 0 < length (unwrap_or o [])) (texts.get-from_entries nat_list_cmp_total (entries_of (keys_of vs)) (f ∷ r ∷ c ∷ n ∷ [])) h))

-- ---- no segment breaks its shape

not_both : (u : Usage) → is_required u ≡ true → is_forbidden u ≡ true → ⊥
not_both R a b = cc
not_both RE a b = cc
not_both O a b = cc
not_both X a b = cc

subs_above : (ss : List SubValue) (low : ℕ) → Rising low 99 (sub_numbers ss) → (n : ℕ) → InSubs ss n → low ≤ n
subs_above [] low rise n h = absurd h
subs_above (s ∷ ss) low rise n (inl h) = omega (arith, rise.0, h.1)
subs_above (s ∷ ss) low rise n (inr h) = omega (arith, rise.0, subs_above ss (suc s.number) rise.2 n h)

comps_above : (ks : List CompValue) (low : ℕ) → Rising low 99 (comp_numbers ks) → (c n : ℕ) → InComps ks c n → low ≤ c
comps_above [] low rise c n h = absurd h
comps_above (k ∷ ks) low rise c n (inl h) = omega (arith, rise.0, h.1)
comps_above (k ∷ ks) low rise c n (inr h) = omega (arith, rise.0, comps_above ks (suc k.number) rise.2 c n h)

fields_above : (vs : List FieldValue) (low : ℕ) → Rising low 999 (field_numbers vs) → (f r c n : ℕ) → InFields vs f r c n → low ≤ f
fields_above [] low rise f r c n h = absurd h
fields_above (v ∷ vs) low rise f r c n (inl h) = omega (arith, rise.0, h.0)
fields_above (v ∷ vs) low rise f r c n (inr h) = omega (arith, rise.0, fields_above vs (suc v.number) rise.2 f r c n h)

not_null : (text : List ℕ) → text ≡ null → is_null text ≡ false → ⊥
not_null text e n = let z : is_null text ≡ true = ap is_null e in absurd (cc)

sub_meets : (p : ProfileValue) (s : SubValue) (text : List ℕ) → (is_required s.usage ≡ true → text ≡ null) → (0 < length text → is_required s.usage ≡ true) → (spot : List ℕ) → SubBreach p s text spot → ⊥
sub_meets p s text there only spot (sub_absent req none) = omega (arith, ap length (there req), none)
sub_meets p s text there only spot (sub_forbidden forb some) = not_both s.usage (only some) forb
sub_meets p s text there only spot (too_long some not long) = not_null text (there (only some)) not
sub_meets p s text there only spot (not_listed some not out) = not_null text (there (only some)) not

subs_meet : (p : ProfileValue) (ss : List SubValue) (low : ℕ) → Rising low 99 (sub_numbers ss) → (text : ℕ → List ℕ) → ((n : ℕ) → low ≤ n → n ≤ 99 → InSubs ss n → text n ≡ null) → ((n : ℕ) → low ≤ n → n ≤ 99 → 0 < length (text n) → InSubs ss n) → (spot : List ℕ) → InAny (λ s. s.number) (λ s. SubBreach p s (text s.number)) ss spot → ⊥
subs_meet p [] low rise text there only spot b = elim b [ ]
subs_meet p (s ∷ ss) low rise text there only _ (in_first b) =
    sub_meets p s (text s.number) (λ req. there s.number rise.0 rise.1 (inl (req, refl))) (λ some. own (only s.number rise.0 rise.1 some)) _ b
  where
    own : InSubs (s ∷ ss) s.number → is_required s.usage ≡ true
    own (inl h) = h.0
    own (inr h) = absurd (omega (arith, subs_above ss (suc s.number) rise.2 s.number h))
subs_meet p (s ∷ ss) low rise text there only _ (in_later b) =
    subs_meet p ss (suc s.number) rise.2 text (λ n le high h. there n (omega (arith, rise.0, le)) high (inr h)) (λ n le high some. later n le (only n (omega (arith, rise.0, le)) high some)) _ b
  where
    later : (n : ℕ) → suc s.number ≤ n → InSubs (s ∷ ss) n → InSubs ss n
    later n le (inl h) = absurd (omega (arith, le, h.1))
    later n le (inr h) = h

-- a component, where what is present of it is what it has to have
module _ (p : ProfileValue) (tables : List (List ℕ)) (m : Texts) (f r : ℕ) where
  comp_meets : (k : CompValue) → LawfulComp tables k → ((n : ℕ) → is_required k.usage ≡ true → InComp k n → text_of m f r k.number n ≡ null) → ((n : ℕ) → 0 < length (text_of m f r k.number n) → (is_required k.usage ≡ true) × InComp k n) → (spot : List ℕ) → CompBreach p m f r k spot → ⊥
  comp_meets k lawful there only spot (comp_absent req none) = (let t = first_text k in none (t.0, omega (arith, ap length (there t.0 req t.1))))
  comp_meets k lawful there only spot (comp_forbidden forb some) = not_both k.usage (only some.0 some.1).0 forb
  comp_meets k lawful there only spot (in_sub some b) =
      subs_meet p k.subs 1 lawful.rising (λ n. text_of m f r k.number n) (λ n le high h. there n (only some.0 some.1).0 (inr h)) (λ n le high h. sub n high (only n h).1) spot b
    where
      sub : (n : ℕ) → n ≤ 99 → InComp k n → InSubs k.subs n
      sub n high (inl e) = absurd (omega (arith, high, e.0))
      sub n high (inr h) = h

  comps_meet : (ks : List CompValue) (low : ℕ) → Rising low 99 (comp_numbers ks) → AllByRecursion (LawfulComp tables) ks → ((c n : ℕ) → low ≤ c → c ≤ 99 → InComps ks c n → text_of m f r c n ≡ null) → ((c n : ℕ) → low ≤ c → c ≤ 99 → 0 < length (text_of m f r c n) → InComps ks c n) → (spot : List ℕ) → InAny (λ c. c.number) (CompBreach p m f r) ks spot → ⊥
  comps_meet [] low rise each there only spot b = elim b [ ]
  comps_meet (k ∷ ks) low rise each there only _ (in_first b) =
      comp_meets k each.0 (λ n req h. there k.number n rise.0 rise.1 (inl (req, refl, h))) (λ n some. own n (only k.number n rise.0 rise.1 some)) _ b
    where
      own : (n : ℕ) → InComps (k ∷ ks) k.number n → (is_required k.usage ≡ true) × InComp k n
      own n (inl h) = (h.0, h.2)
      own n (inr h) = absurd (omega (arith, comps_above ks (suc k.number) rise.2 k.number n h))
  comps_meet (k ∷ ks) low rise each there only _ (in_later b) =
      comps_meet ks (suc k.number) rise.2 each.1 (λ c n le high h. there c n (omega (arith, rise.0, le)) high (inr h)) (λ c n le high some. later c n le (only c n (omega (arith, rise.0, le)) high some)) _ b
    where
      later : (c n : ℕ) → suc k.number ≤ c → InComps (k ∷ ks) c n → InComps ks c n
      later c n le (inl h) = absurd (omega (arith, le, h.1))
      later c n le (inr h) = h

-- where just the numbers from 1 to most are present, as many are counted
counted_all : (P : ℕ → Type 0) (most : ℕ) → ((r : ℕ) → 0 < r → r ≤ most → P r) → (n k : ℕ) → n ≤ most → Counted P n k → k ≡ n
counted_all P most all zero k le c = c
counted_all P most all (suc n) k le (inl c) = let e : c.1 ≡ n = counted_all P most all n c.1 (omega arith) c.3 in omega (arith, c.2, e)
counted_all P most all (suc n) k le (inr c) = absurd (c.0 (all (suc n) (omega arith) le))

agrees_most : (u : Usage) (card : Card) → Agrees u card → AtMost card.max card.min
agrees_most R card a = a.1
agrees_most RE card a = subst (AtMost card.max) (sym a.0) (none card.max)
  where
    none : (o : Option ℕ) → AtMost o 0
    none None = tt
    none (Some n) = omega arith
agrees_most O card a = subst (AtMost card.max) (sym a.0) (none card.max)
  where
    none : (o : Option ℕ) → AtMost o 0
    none None = tt
    none (Some n) = omega arith
agrees_most X card a = subst (AtMost card.max) (sym a.0) (none card.max)
  where
    none : (o : Option ℕ) → AtMost o 0
    none None = tt
    none (Some n) = omega arith

forbidden_none : (u : Usage) (card : Card) → Agrees u card → is_forbidden u ≡ true → card.min ≡ 0
forbidden_none R card a e = absurd (cc)
forbidden_none RE card a e = absurd (cc)
forbidden_none O card a e = absurd (cc)
forbidden_none X card a e = a.0

module _ (p : ProfileValue) (tables : List (List ℕ)) (m : Texts) where
  module _ (v : FieldValue) (lawful : LawfulField tables v) (there : (r c n : ℕ) → 0 < r → r ≤ v.card.min → InRep v c n → text_of m v.number r c n ≡ null) (only : (r c n : ℕ) → 0 < length (text_of m v.number r c n) → (0 < r) × (r ≤ v.card.min) × InRep v c n) where
    rep_there : (r : ℕ) → 0 < r → r ≤ v.card.min → RepAt m v.number r
    rep_there r some le = (let t = first_in v in (t.0, (t.1, omega (arith, ap length (there r t.0 t.1 some le t.2)))))

    within : (r : ℕ) → RepAt m v.number r → (0 < r) × (r ≤ v.card.min)
    within r h = let o = only r h.0 h.1.0 h.1.1 in (o.0, o.1)

    below_most : (most : ℕ) → v.card.max ≡ Some most → v.card.min ≤ most
    below_most most e = subst (λ (o : Option ℕ). AtMost o v.card.min) e (agrees_most v.usage v.card lawful.agrees)

    rep_meets : (r : ℕ) → RepAt m v.number r → (spot : List ℕ) → RepBreach p m v r spot → ⊥
    rep_meets r here spot (one_too_many {most = most} not is c) =
        let w = within r here in
        omega (arith, w.0, w.1, below_most most is, counted_all (RepAt m v.number) v.card.min rep_there (r - 1) most (omega (arith, w.1)) c)
    rep_meets r here spot (in_comp b) =
        let w = within r here in
        comps_meet p tables m v.number r v.comps 1 lawful.rising lawful.each (λ c n le high h. there r c n w.0 w.1 (inr h)) (λ c n le high h. comp c n high (only r c n h).2) spot b
      where
        comp : (c n : ℕ) → c ≤ 99 → InRep v c n → InComps v.comps c n
        comp c n high (inl e) = absurd (omega (arith, high, e.0))
        comp c n high (inr h) = h

    field_meets : (spot : List ℕ) → FieldBreach p m v spot → ⊥
    field_meets spot (too_few {last = last} {count = count} not is c less) =
        let all : v.card.min ≤ last = (is.within v.card.min (rep_there v.card.min (omega (arith, less)) (omega arith))).1 in
        let end : last ≤ v.card.min = (within last (is.there (omega (arith, all, less)))).1 in
        omega (arith, less, all, counted_all (RepAt m v.number) v.card.min rep_there last count end c)
    field_meets spot (field_forbidden forb some) =
        let w = within some.0 some.1 in omega (arith, w.0, w.1, forbidden_none v.usage v.card lawful.agrees forb)
    field_meets _ (in_reps (in_rep here b)) = rep_meets _ here _ b

  fields_meet : (vs : List FieldValue) (low : ℕ) → Rising low 999 (field_numbers vs) → AllByRecursion (LawfulField tables) vs → ((f r c n : ℕ) → low ≤ f → InFields vs f r c n → text_of m f r c n ≡ null) → ((f r c n : ℕ) → low ≤ f → 0 < length (text_of m f r c n) → InFields vs f r c n) → (spot : List ℕ) → InAny (λ f. f.number) (FieldBreach p m) vs spot → ⊥
  fields_meet [] low rise each there only spot b = elim b [ ]
  fields_meet (v ∷ vs) low rise each there only _ (in_first b) =
      field_meets v each.0 (λ r c n some le h. there v.number r c n rise.0 (inl (refl, some, le, h))) (λ r c n some. own r c n (only v.number r c n rise.0 some)) _ b
    where
      own : (r c n : ℕ) → InFields (v ∷ vs) v.number r c n → (0 < r) × (r ≤ v.card.min) × InRep v c n
      own r c n (inl h) = (h.1, h.2, h.3)
      own r c n (inr h) = absurd (omega (arith, fields_above vs (suc v.number) rise.2 v.number r c n h))
  fields_meet (v ∷ vs) low rise each there only _ (in_later b) =
      fields_meet vs (suc v.number) rise.2 each.1 (λ f r c n le h. there f r c n (omega (arith, rise.0, le)) (inr h)) (λ f r c n le some. later f r c n le (only f r c n (omega (arith, rise.0, le)) some)) _ b
    where
      later : (f r c n : ℕ) → suc v.number ≤ f → InFields (v ∷ vs) f r c n → InFields vs f r c n
      later f r c n le (inl h) = absurd (omega (arith, le, h.0))
      later f r c n le (inr h) = h

-- ---- the message

several_many : (P : List SegmentValue → Type 0) (l : List SegmentValue) → P l → (k : ℕ) → Many P k (several_of k l)
several_many P l h zero = refl
several_many P l h (suc k) = record { front = l; back = several_of k l; joined = refl; here = h; there = several_many P l h k }

module _ (p : ProfileValue) (tables : List (List ℕ)) where
  abbrev Fit : Forest → List SegmentValue → Type 0
  Fit f l = Seq (λ (s : SegmentValue). s.name) (λ shape s. Meets p shape s.at) f l

  least_fits : (f : Forest) → EachSegment (LawfulSegment tables) f → EachGroup LawfulGroup f → Fit f (least f)
  least_fits nothing e g = refl
  least_fits (segment s rest) e g =
      record {
        front = several_of s.card.min (one_of s ∷ []);
        back = least rest;
        joined = refl;
        here = (s.card.min, omega arith, agrees_most s.usage s.card e.0.agrees, several_many _ (one_of s ∷ []) (refl, meets) s.card.min);
        there = least_fits rest e.1 g;
      }
    where
      meets : Meets p s.fields (texts_of s.fields)
      meets spot b =
          fields_meet p tables (texts_of s.fields) s.fields _ e.0.rising e.0.each (λ f r c n le h. has_null s.fields f r c n h) (λ f r c n le h. has_place s.fields f r c n h) spot b
  least_fits (group v nodes rest) e g =
      record {
        front = several_of v.card.min (least nodes);
        back = least rest;
        joined = refl;
        here = (v.card.min, omega arith, agrees_most v.usage v.card g.0.agrees, several_many _ (least nodes) (least_fits nodes e.0 g.1) v.card.min);
        there = least_fits rest e.1 g.2;
      }

-- ---- each of its names stands in the profile

all_both : (P : SegmentValue → Type 0) (a b : List SegmentValue) → AllByRecursion P a → AllByRecursion P b → AllByRecursion P (a ++ b)
all_both P [] b h k = k
all_both P (x ∷ a) b h k = (h.0, all_both P a b h.1 k)

all_several : (P : SegmentValue → Type 0) (k : ℕ) (l : List SegmentValue) → AllByRecursion P l → AllByRecursion P (several_of k l)
all_several P zero l h = tt
all_several P (suc k) l h = all_both P l (several_of k l) h (all_several P k l h)

right_true : (a b : Bool) → b ≡ true → a || b ≡ true
right_true true b e = refl
right_true false b e = e

left_true : (a b : Bool) → a ≡ true → a || b ≡ true
left_true true b e = refl
left_true false b e = absurd (cc)

least_stands : (f : Forest) (there : Name → Bool) → ((x : Name) → stands f x ≡ true → there x ≡ true) → AllByRecursion (λ (s : SegmentValue). there s.name ≡ true) (least f)
least_stands nothing there known = tt
least_stands (segment s rest) there known =
    all_both _ (several_of s.card.min (one_of s ∷ [])) (least rest)
    (all_several _ s.card.min (one_of s ∷ []) (known s.name (left_true (bytes_eq s.name s.name) (stands rest s.name) (equal_names s.name s.name refl)), tt))
    (least_stands rest there (λ x h. known x (right_true (bytes_eq s.name x) (stands rest x) h)))
least_stands (group g nodes rest) there known =
    all_both _ (several_of g.card.min (least nodes)) (least rest)
    (all_several _ g.card.min (least nodes) (least_stands nodes there (λ x h. known x (left_true (stands nodes x) (stands rest x) h))))
    (least_stands rest there (λ x h. known x (right_true (stands nodes x) (stands rest x) h)))

all_kept : (there : SegmentValue → Bool) (l : List SegmentValue) → AllByRecursion (λ s. there s ≡ true) l → filter there l ≡ l
all_kept there [] h = refl
all_kept there (s ∷ l) h = rw h.0 (ap (λ k. s ∷ k) (all_kept there l h.1))

pub least_conforms : (p : ProfileValue) → WellFormed p → Conforms p (least p.nodes)
least_conforms p wf =
    let m = least p.nodes in
    let all : listed p.nodes m ≡ m = all_kept (λ s. stands p.nodes s.name) m (least_stands p.nodes (stands p.nodes) (λ x h. h)) in
    subst (Fit p (table_names p.tables) p.nodes) (sym all) (least_fits p (table_names p.tables) p.nodes wf.segments wf.groups)
