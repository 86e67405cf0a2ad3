-- The places of a segment's texts: a text may be put at each, and none comes twice.
use Rattle.std.proofs.Common.{◌≡◌, ℕ, zero, suc, ◌<◌, ◌≤◌, ◌⊎◌, inl, inr, Bool, true, false, List, [], ◌∷◌, ◌++◌, refl, sym, ap, subst, arith, length, map, get_or}
use Rattle.std.specs.Prelude.{if◌then◌else◌, ◌==◌, bytes_eq}
use Rattle.std.proofs.lemmas.Bool.{eqb-true, and_parts}
use Rattle.std.specs.List.{AllByRecursion, flat_map}
use Rattle.gw_er7.specs.Message.{IsEntry, first_field}
use Rattle.gw_er7.specs.Names.{IsName, is_name, is_named, is_header, header_name}
use Rattle.gw_er7.proofs.Builds.{entry_at, canonical_of}
use Rattle.gw_er7.proofs.Messages.{by_name, header_is, first_other}
use Rattle.gw_profile.specs.Fault.{least_field}
use Rattle.gw_profile.specs.Among.{Among, Distinct}
use Rattle.gw_profile.specs.Shapes as shapes
use Rattle.gw_profile.specs.Shapes.{SubValue, CompValue, FieldValue}
use Rattle.gw_profile.specs.WellFormed.{Rising, LawfulSub, LawfulComp, LawfulField, LawfulSegment}
use Rattle.gw_profile.proofs.Among.{among_append, among_if, among_one}
use Rattle.gw_validate.specs.Breaches.{is_required}
use Rattle.gw_sample.specs.own.Least.{Key, null, or_else, sub_keys, comp_keys, rep_keys, reps_keys, field_keys, keys_of, entries_of, ArePlaces}

-- the number of a key at this place
abbrev part : ℕ → Key → ℕ
part i x = get_or x i 0

distinct_append : (a b : List Key) → Distinct a → Distinct b → ((x : Key) → Among x a → Among x b → ⊥) → Distinct (a ++ b)
distinct_append [] b da db apart = db
distinct_append (x ∷ a) b da db apart = (
  λ i. elim ((among_append a b x).0 i) [ inl j ↦ da.0 j | inr j ↦ apart x (inl refl) j ],
  distinct_append a b da.1 db (λ y i j. apart y (inr i) j),
)

distinct_if : (b : Bool) (a : List Key) → Distinct a → Distinct (if b then a else [])
distinct_if true a d = d
distinct_if false a d = tt

-- where there is none, the other one
among_or : (key x : Key) (ks : List Key) → Among x (or_else key ks) → (x ≡ key) ⊎ Among x ks
among_or key x [] i = i
among_or key x (k ∷ ks) i = inr i

distinct_or : (key : Key) (ks : List Key) → Distinct (key ∷ ks) → Distinct (or_else key ks)
distinct_or key [] d = d
distinct_or key (k ∷ ks) d = d.1

-- ---- the keys of things whose numbers rise

module _ {A : Type 0} (F : A → List Key) where
  all_flat : (P : Key → Type 0) → ((a : A) (x : Key) → Among x (F a) → P x) → (things : List A) (x : Key) → Among x (flat_map F things) → P x
  all_flat P h [] x i = absurd i
  all_flat P h (a ∷ things) x i = elim ((among_append (F a) (flat_map F things) x).0 i) [ inl j ↦ h a x j | inr j ↦ all_flat P h things x j ]

  module _ (number : A → ℕ) (L : A → Type 0) where
    all_rising : (P : Key → Type 0) (least : ℕ) → ((a : A) → L a → least ≤ number a → (x : Key) → Among x (F a) → P x)
        → (things : List A) (low high : ℕ) → least ≤ low → Rising low high (map number things) → AllByRecursion L things → (x : Key) → Among x (flat_map F things) → P x
    all_rising P least h [] low high le rise all x i = absurd i
    all_rising P least h (a ∷ things) low high le rise all x i = elim ((among_append (F a) (flat_map F things) x).0 i) [
      | inl j ↦ h a all.0 (omega (arith, le, rise.0)) x j
      | inr j ↦ all_rising P least h things (suc (number a)) high (omega (arith, le, rise.0)) rise.2 all.1 x j
    ]

    -- where each key has the number of its thing at this place
    module _ (at : ℕ) (is : (a : A) (x : Key) → Among x (F a) → part at x ≡ number a) where
      within : (things : List A) (low high : ℕ) → Rising low high (map number things) → (x : Key) → Among x (flat_map F things) → (low ≤ part at x) × (part at x ≤ high)
      within [] low high rise x i = absurd i
      within (a ∷ things) low high rise x i = elim ((among_append (F a) (flat_map F things) x).0 i) [
        | inl j ↦ (let e : part at x ≡ number a = is a x j in (omega (arith, rise.0, e), omega (arith, rise.1, e)))
        | inr j ↦ (let w = within things (suc (number a)) high rise.2 x j in (omega (arith, w.0, rise.0), w.1))
      ]

      distinct_flat : ((a : A) → L a → Distinct (F a)) → (things : List A) (low high : ℕ) → Rising low high (map number things) → AllByRecursion L things → Distinct (flat_map F things)
      distinct_flat d [] low high rise all = tt
      distinct_flat d (a ∷ things) low high rise all =
          distinct_append (F a) (flat_map F things) (d a all.0) (distinct_flat d things (suc (number a)) high rise.2 all.1) (λ x i j.
          let e : part at x ≡ number a = is a x i in
          let w = within things (suc (number a)) high rise.2 x j in
          omega (arith, e, w.0))

-- ---- which numbers a key has

record Begins (f r : ℕ) (x : Key) : Type 0 where
  field : part 0 x ≡ f
  rep : part 1 x ≡ r

sub_is : (f r c : ℕ) (s : SubValue) (x : Key) → Among x (sub_keys f r c s) → x ≡ f ∷ r ∷ c ∷ s.number ∷ []
sub_is f r c s x i = (among_one (f ∷ r ∷ c ∷ s.number ∷ []) x).0 ((among_if (is_required s.usage) ((f ∷ r ∷ c ∷ s.number ∷ []) ∷ []) x).0 i).1

in_comp : (P : Key → Type 0) (f r : ℕ) (k : CompValue) → P (f ∷ r ∷ k.number ∷ 100 ∷ []) → ((s : SubValue) → P (f ∷ r ∷ k.number ∷ s.number ∷ [])) → (x : Key) → Among x (comp_keys f r k) → P x
in_comp P f r k here each x i =
    let key = f ∷ r ∷ k.number ∷ 100 ∷ [] in
    let subs = flat_map (sub_keys f r k.number) k.subs in
    elim (among_or key x subs ((among_if (is_required k.usage) (or_else key subs) x).0 i).1) [
      | inl e ↦ subst P (sym e) here
      | inr j ↦ all_flat (sub_keys f r k.number) P (λ s y i. subst P (sym (sub_is f r k.number s y i)) (each s)) k.subs x j
    ]

comp_number : (f r : ℕ) (k : CompValue) (x : Key) → Among x (comp_keys f r k) → part 2 x ≡ k.number
comp_number f r k = in_comp (λ x. part 2 x ≡ k.number) f r k refl (λ s. refl)

rep_begins : (v : FieldValue) (r : ℕ) (x : Key) → Among x (rep_keys v r) → Begins v.number r x
rep_begins v r x i =
    elim (among_or (v.number ∷ r ∷ 100 ∷ 1 ∷ []) x (flat_map (comp_keys v.number r) v.comps) i) [
      | inl e ↦ subst (Begins v.number r) (sym e) (record { field = refl; rep = refl })
      | inr j ↦
          all_flat (comp_keys v.number r) (Begins v.number r) (λ k. in_comp (Begins v.number r) v.number r k (record { field = refl; rep = refl }) (λ s. record { field = refl; rep = refl })) v.comps x j
    ]

reps_begin : (v : FieldValue) (k : ℕ) (x : Key) → Among x (reps_keys v k) → (part 0 x ≡ v.number) × (part 1 x ≤ k)
reps_begin v zero x i = absurd i
reps_begin v (suc k) x i = elim ((among_append (reps_keys v k) (rep_keys v (suc k)) x).0 i) [
  | inl j ↦ (let b = reps_begin v k x j in (b.0, omega (arith, b.1)))
  | inr j ↦ (let b = rep_begins v (suc k) x j in (b.field, omega (arith, b.rep)))
]

-- ---- none comes twice

module _ (tables : List (List ℕ)) where
  subs_apart : (f r c : ℕ) (ss : List SubValue) → Rising 1 99 (map (λ (s : SubValue). s.number) ss) → AllByRecursion (LawfulSub tables) ss → Distinct (flat_map (sub_keys f r c) ss)
  subs_apart f r c ss rise all =
      distinct_flat (sub_keys f r c) (λ (s : SubValue). s.number) (LawfulSub tables) 3 (λ s x i. ap (part 3) (sub_is f r c s x i))
      (λ s l. distinct_if (is_required s.usage) ((f ∷ r ∷ c ∷ s.number ∷ []) ∷ []) (λ h. h, tt)) ss 1 99 rise all

  comp_apart : (f r : ℕ) (k : CompValue) → LawfulComp tables k → Distinct (comp_keys f r k)
  comp_apart f r k l =
      let key = f ∷ r ∷ k.number ∷ 100 ∷ [] in
      let subs = flat_map (sub_keys f r k.number) k.subs in
      distinct_if (is_required k.usage) (or_else key subs) (distinct_or key subs (
        λ i. (let w = within (sub_keys f r k.number) (λ (s : SubValue). s.number) (LawfulSub tables) 3 (λ s x j. ap (part 3) (sub_is f r k.number s x j)) k.subs 1 99 l.rising (f ∷ r ∷ k.number ∷ 100 ∷ []) i in
            let high : 100 ≤ 99 = w.1 in omega (arith, high)),
        subs_apart f r k.number k.subs l.rising l.each,
      ))

  rep_apart : (v : FieldValue) (r : ℕ) → LawfulField tables v → Distinct (rep_keys v r)
  rep_apart v r l = distinct_or (v.number ∷ r ∷ 100 ∷ 1 ∷ []) (flat_map (comp_keys v.number r) v.comps) (
    λ i. (let w = within (comp_keys v.number r) (λ (k : CompValue). k.number) (LawfulComp tables) 2 (comp_number v.number r) v.comps 1 99 l.rising (v.number ∷ r ∷ 100 ∷ 1 ∷ []) i in
        let high : 100 ≤ 99 = w.1 in omega (arith, high)),
    distinct_flat (comp_keys v.number r) (λ (k : CompValue). k.number) (LawfulComp tables) 2 (comp_number v.number r) (comp_apart v.number r) v.comps 1 99 l.rising l.each,
  )

  reps_apart : (v : FieldValue) (k : ℕ) → LawfulField tables v → Distinct (reps_keys v k)
  reps_apart v zero l = tt
  reps_apart v (suc k) l =
      distinct_append (reps_keys v k) (rep_keys v (suc k)) (reps_apart v k l) (rep_apart v (suc k) l) (λ x i j.
      let low = (reps_begin v k x i).1 in
      let high = (rep_begins v (suc k) x j).rep in
      omega (arith, low, high))

  fields_apart : (low high : ℕ) (vs : List FieldValue) → Rising low high (map (λ (v : FieldValue). v.number) vs) → AllByRecursion (LawfulField tables) vs → Distinct (keys_of vs)
  fields_apart low high vs rise all =
      distinct_flat field_keys (λ (v : FieldValue). v.number) (LawfulField tables) 0 (λ v x i. (reps_begin v v.card.min x i).0) (λ v l. reps_apart v v.card.min l) vs low high rise all

  -- ---- a text may be put at each

  module _ (first : ℕ) where
    abbrev May : Key → Type 0
    May x = IsEntry first (x, null)

    may : (f r c n : ℕ) → first ≤ f → 0 < f → 0 < r → 0 < c → 0 < n → May (f ∷ r ∷ c ∷ n ∷ [])
    may f r c n le hf hr hc hn = entry_at first f r c n null le hf hr hc hn (canonical_of null refl) (omega arith)

    comp_may : (f r : ℕ) → first ≤ f → 0 < f → 0 < r → (k : CompValue) → LawfulComp tables k → 1 ≤ k.number → (x : Key) → Among x (comp_keys f r k) → May x
    comp_may f r le hf hr k l hk x i =
        let key = f ∷ r ∷ k.number ∷ 100 ∷ [] in
        let subs = flat_map (sub_keys f r k.number) k.subs in
        elim (among_or key x subs ((among_if (is_required k.usage) (or_else key subs) x).0 i).1) [
          | inl e ↦ subst May (sym e) (may f r k.number 100 le hf hr (omega (arith, hk)) (omega arith))
          | inr j ↦
              all_rising (sub_keys f r k.number) (λ (s : SubValue). s.number) (LawfulSub tables) May 1
              (λ s l hs y i. subst May (sym (sub_is f r k.number s y i)) (may f r k.number s.number le hf hr (omega (arith, hk)) (omega (arith, hs)))) k.subs 1 99 (omega arith) l.rising l.each x j
        ]

    rep_may : (v : FieldValue) (r : ℕ) → first ≤ v.number → 0 < v.number → 0 < r → LawfulField tables v → (x : Key) → Among x (rep_keys v r) → May x
    rep_may v r le hf hr l x i =
        elim (among_or (v.number ∷ r ∷ 100 ∷ 1 ∷ []) x (flat_map (comp_keys v.number r) v.comps) i) [
          | inl e ↦ subst May (sym e) (may v.number r 100 1 le hf hr (omega arith) (omega arith))
          | inr j ↦
              all_rising (comp_keys v.number r) (λ (k : CompValue). k.number) (LawfulComp tables) May 1 (comp_may v.number r le hf hr) v.comps 1 99 (omega arith) l.rising l.each x j
        ]

    reps_may : (v : FieldValue) (k : ℕ) → first ≤ v.number → 0 < v.number → LawfulField tables v → (x : Key) → Among x (reps_keys v k) → May x
    reps_may v zero le hf l x i = absurd i
    reps_may v (suc k) le hf l x i = elim ((among_append (reps_keys v k) (rep_keys v (suc k)) x).0 i) [
      | inl j ↦ reps_may v k le hf l x j
      | inr j ↦ rep_may v (suc k) le hf (omega arith) l x j
    ]

    fields_may : 0 < first → (low high : ℕ) → first ≤ low → (vs : List FieldValue) → Rising low high (map (λ (v : FieldValue). v.number) vs) → AllByRecursion (LawfulField tables) vs → (x : Key) → Among x (keys_of vs) → May x
    fields_may some low high le vs rise all x i =
        all_rising field_keys (λ (v : FieldValue). v.number) (LawfulField tables) May first (λ v l at y j. reps_may v v.card.min at (omega (arith, some, at)) l y j) vs low high le rise all x i

-- ---- both

tells : (b : Bool) → (b ≡ true) ⊎ (b ≡ false)
tells true = inl refl
tells false = inr refl

pub name_of : (name : List ℕ) → is_name name ≡ true → IsName name
name_of name e = (let both = and_parts (length name == 3) (is_named name) e in record { three = eqb-true (length name) 3 both.0; lawful = both.1 })

each_entry : (P : List ℕ × List ℕ → Type 0) (ks : List Key) → ((x : Key) → Among x ks → P (x, null)) → AllByRecursion P (entries_of ks)
each_entry P [] h = tt
each_entry P (k ∷ ks) h = (h k (inl refl), each_entry P ks (λ x i. h x (inr i)))

three_or_one : (b : Bool) → 0 < (if b then 3 else 1)
three_or_one true = omega arith
three_or_one false = omega arith

-- the first field that is a value is none below the first that a profile may have
first_least : (name : List ℕ) → is_name name ≡ true → first_field name ≤ least_field name
first_least name is = elim (tells (is_header name)) [
  | inl h ↦ subst (λ (n : List ℕ). first_field n ≤ least_field n) (sym (by_name (λ n. is_header n ≡ true → n ≡ header_name) (λ a b c e. header_is (a ∷ b ∷ c ∷ []) e) name (name_of name is).three h)) (omega arith)
  | inr h ↦ (let one : 1 ≤ least_field name = three_or_one (bytes_eq name header_name) in omega (arith, first_other name h, one))
]

-- those of a segment of a profile
pub places_are : (tables : List (List ℕ)) (s : shapes.SegmentValue) → LawfulSegment tables s → ArePlaces (first_field s.name) (keys_of s.fields)
places_are tables s l = record {
  each = each_entry (IsEntry (first_field s.name)) (keys_of s.fields) (fields_may tables (first_field s.name) (three_or_one (is_header s.name)) (least_field s.name) 999 (first_least s.name l.named) s.fields l.rising l.each);
  distinct = fields_apart tables (least_field s.name) 999 s.fields l.rising l.each;
}
