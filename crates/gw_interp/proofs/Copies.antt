-- Fields and repetitions that are copied.
use Rattle.std.proofs.Common.{◌≡◌, ◌⊎◌, inl, inr, ℕ, ◌+◌, ◌<◌, ◌≤◌, List, [], ◌∷◌, Option, Some, None, Less, Equal, Greater, refl, sym, ap, subst, ◌∙◌, arith}
use Rattle.std.specs.Prelude.{unwrap_or, slice_get}
use Rattle.std.specs.Ordering.{nat_cmp, ordering_then}
use Rattle.std.specs.Cmp.{nat_cmp_is}
use Rattle.std.specs.FinMap as texts
use Rattle.gw_er7.specs.Message.{Texts, SegmentValue, first_field, IsEntry}
use Rattle.gw_er7.specs.Building.{IsBegun, with_last}
use Rattle.gw_er7.specs.Presence.{RepAt, IsLast, IsStart}
use Rattle.gw_validate.specs.Breaches.{NotAfter}
use Rattle.gw_validate.proofs.Keys.{order, never_less, rising_at, found_at, find_at}
use Rattle.gw_interp.specs.declared.copying.ValuePath.{ValuePath}
use Rattle.gw_interp.specs.own.Putting.{last_texts, MayStand, IsPut}
use Rattle.gw_interp.specs.own.Making.{MayMake, AreMade, comp_key, field_key, MayMakeField, IsFieldMade, rep_key}
use Rattle.gw_interp.proofs.Fills.{same_last}
use Rattle.gw_interp.proofs.Makings.{split_at, others_on, name_on, begun_on, UpTo, none_made, may_next, next_made, all_made}

-- ---- texts that are copied one after the other

module _ (I : Type 0) (source target : I → List ℕ) (m : Texts) (first : ℕ) (old : List SegmentValue) where
  abbrev Means : I → List ℕ → Type 0
  Means i text = text ≡ unwrap_or (texts.get m (source i)) []

  -- those before this number have their texts, and the others none yet
  pub record CopiedUpTo (n : ℕ) (new : List SegmentValue) : Type 0 where
    pub from : first ≤ n
    pub others : new ≡ with_last (λ s. record s { at = last_texts new }) old
    pub each : (i : I) (j : ℕ) (t : List ℕ) → first ≤ j → j < n → slice_get (texts.entries m) j ≡ Some (source i, t) → unwrap_or (texts.get (last_texts new) (target i)) [] ≡ t
    pub later : (i : I) → ((j : ℕ) (t : List ℕ) → first ≤ j → j < n → slice_get (texts.entries m) j ≡ Some (source i, t) → ⊥) → texts.get (last_texts new) (target i) ≡ None
    pub elsewhere : (k : List ℕ) → ((i : I) → k ≡ target i → ⊥) → texts.get (last_texts new) k ≡ texts.get (last_texts old) k
    pub keeps : IsBegun old → IsBegun new

  got : (i : I) (j : ℕ) (t : List ℕ) → slice_get (texts.entries m) j ≡ Some (source i, t) → texts.get m (source i) ≡ Some t
  got i j t g = texts.get-entries m (source i) ∙ find_at (source i) t (texts.entries m) j (texts.entries_sorted m) g

  -- no text stands twice
  once : (i : I) (j n : ℕ) (t u : List ℕ) → j < n → slice_get (texts.entries m) j ≡ Some (source i, t) → slice_get (texts.entries m) n ≡ Some (source i, u) → ⊥
  once i j n t u lt g h = never_less (source i) (source i) refl (self (source i)) (rising_at (texts.entries m) j n (source i, t) (source i, u) (texts.entries_sorted m) lt g h)
    where
      self : (p : List ℕ) → NotAfter p p
      self [] = tt
      self (a ∷ p) = inr (refl, self p)

  pub none_copied : MayMake I target Means old → CopiedUpTo first old
  none_copied may = record {
    from = omega arith;
    others = same_last old;
    each = λ i j t le lt g. absurd (omega arith);
    later = λ i away. may.free i;
    elsewhere = λ k away. refl;
    keeps = λ h. h;
  }

  pub may_text : (n : ℕ) (mid : List SegmentValue) (h : I) (t : List ℕ) → MayMake I target Means old → CopiedUpTo n mid → slice_get (texts.entries m) n ≡ Some (source h, t) → MayStand (target h) t mid
  may_text n mid h t may up here = record {
    begun = begun_on old mid up.others may.begun;
    free = up.later h (λ j u le lt g. once h j n u t lt g here);
    entry = λ some. subst (λ name. IsEntry (first_field name) (target h, t)) (name_on old mid up.others) (may.entry h t (sym (ap (λ o. unwrap_or o []) (got h n t here))) some);
  }

  module _ (apart : (i h : I) → source i ≡ source h → i ≡ h) (apart_there : (i h : I) → target i ≡ target h → i ≡ h) where
    pub next_text : (n : ℕ) (mid new : List SegmentValue) (h : I) (t : List ℕ) → slice_get (texts.entries m) n ≡ Some (source h, t) → CopiedUpTo n mid → IsPut (target h) t mid new → CopiedUpTo (n + 1) new
    next_text n mid new h t here up put = record {
      from = omega (arith, up.from);
      others = others_on old mid new up.others put.others;
      each = λ i j u le lt g. each i j u le (split_at n j) lt g;
      later = λ i away. kept i (λ e. away n t up.from (omega arith) (here ∙ ap (λ k. Some (source k, t)) (sym e))) ∙ up.later i (λ j u le lt g. away j u le (omega arith) g);
      elsewhere = λ k away. put.elsewhere k (λ e. away h e) ∙ up.elsewhere k away;
      keeps = λ b. put.keeps (up.keeps b);
    }
      where
        kept : (i : I) → (i ≡ h → ⊥) → texts.get (last_texts new) (target i) ≡ texts.get (last_texts mid) (target i)
        kept i other = put.elsewhere (target i) (λ e. other (apart_there i h e))

        same_text : (i : I) (u : List ℕ) → ◌≡◌ {A = Option (List ℕ × List ℕ)} (Some (source i, u)) (Some (source h, t)) → unwrap_or (texts.get (last_texts new) (target i)) [] ≡ u
        same_text i u e =
            let keys : source i ≡ source h = ap (λ (o : Option (List ℕ × List ℕ)). (unwrap_or o (source i, u)).0) e in
            let value : t ≡ u = sym (ap (λ (o : Option (List ℕ × List ℕ)). (unwrap_or o (source i, u)).1) e) in
            ap (λ k. unwrap_or (texts.get (last_texts new) (target k)) []) (apart i h keys) ∙ put.here ∙ value

        each : (i : I) (j : ℕ) (u : List ℕ) → first ≤ j → (n ≤ j) ⊎ (j < n) → j < n + 1 → slice_get (texts.entries m) j ≡ Some (source i, u) → unwrap_or (texts.get (last_texts new) (target i)) [] ≡ u
        each i j u le (inl over) lt g =
            let at : j ≡ n = omega arith in
            same_text i u (sym g ∙ ap (slice_get (texts.entries m)) at ∙ here)
        each i j u le (inr less) lt g =
            let other : i ≡ h → ⊥ = λ e. once h j n u t less (g ∙ ap (λ k. Some (source k, u)) e) here in
            ap (λ o. unwrap_or o []) (kept i other) ∙ up.each i j u le less g

  -- where all texts of the sources stand in the range, all are copied
  pub all_copied : (n : ℕ) (new : List SegmentValue) → ((i : I) (j : ℕ) (t : List ℕ) → slice_get (texts.entries m) j ≡ Some (source i, t) → (first ≤ j) × (j < n)) → CopiedUpTo n new → AreMade I target Means old new
  all_copied n new within up = record { others = up.others; each = λ i. by i (texts.get m (source i)) refl; elsewhere = up.elsewhere; keeps = up.keeps }
    where
      absent : (i : I) → texts.get m (source i) ≡ None → (j : ℕ) (t : List ℕ) → slice_get (texts.entries m) j ≡ Some (source i, t) → ⊥
      absent i none j t g = let some : texts.get m (source i) ≡ Some t = got i j t g in cc

      by : (i : I) (o : Option (List ℕ)) → texts.get m (source i) ≡ o → Means i (unwrap_or (texts.get (last_texts new) (target i)) [])
      by i None e = ap (λ o. unwrap_or o []) (up.later i (λ j t le lt g. absent i e j t g) ∙ sym e)
      by i (Some t) e =
          let at = found_at (source i) t (texts.entries m) (sym (texts.get-entries m (source i)) ∙ e) in
          let in_it = within i at.at t at.is in
          up.each i at.at t in_it.0 in_it.1 at.is ∙ sym (ap (λ o. unwrap_or o []) e)

-- ---- the entries of a field, and those of a repetition

one_less : (a b : ℕ) → a < b → nat_cmp a b ≡ Less
one_less a b lt = sym (nat_cmp_is a b Less lt)

equal : (a : ℕ) → nat_cmp a a ≡ Equal
equal a = sym (nat_cmp_is a a Equal refl)

-- a key with a further number isn't below its beginning
not_before : (a k : ℕ) (key : List ℕ) → order (a ∷ k ∷ key) (a ∷ []) ≡ Less → ⊥
not_before a k key e = let at : order (a ∷ k ∷ key) (a ∷ []) ≡ Greater = ap (λ r. ordering_then r Greater) (equal a) in cc

is_before : (a : ℕ) (key other : List ℕ) → order (a ∷ key) ((a + 1) ∷ other) ≡ Less
is_before a key other = ap (λ r. ordering_then r (order key other)) (one_less a (a + 1) (omega arith))

-- what stands between a number and the next begins with it
between : (a n k : ℕ) (key : List ℕ) → (order (a ∷ k ∷ key) (n ∷ []) ≡ Less → ⊥) → order (a ∷ k ∷ key) ((n + 1) ∷ []) ≡ Less → a ≡ n
between a n k key from before = by (split_at n a) (split_at a n)
  where
    by : (n ≤ a) ⊎ (a < n) → (a ≤ n) ⊎ (n < a) → a ≡ n
    by (inr lt) h = absurd (from (ap (λ r. ordering_then r Greater) (one_less a n lt)))
    by (inl le) (inl ge) = omega arith
    by (inl le) (inr gt) = over (split_at a (n + 1))
      where
        over : (a ≤ n + 1) ⊎ (n + 1 < a) → a ≡ n
        over (inl at) =
            let same : a ≡ n + 1 = omega arith in
            absurd (not_before (n + 1) k key (subst (λ b. order (b ∷ k ∷ key) ((n + 1) ∷ []) ≡ Less) same before))
        over (inr far) = let above : order (a ∷ k ∷ key) ((n + 1) ∷ []) ≡ Greater = ap (λ r. ordering_then r Greater) (sym (nat_cmp_is a (n + 1) Greater far)) in absurd (cc)

module _ (m : Texts) (from first behind : ℕ) (start : IsStart (from ∷ []) (texts.entries m) first) (end : IsStart ((from + 1) ∷ []) (texts.entries m) behind) where
  pub in_field : (p : ℕ × (ℕ × ℕ)) (j : ℕ) (t : List ℕ) → slice_get (texts.entries m) j ≡ Some (field_key from p, t) → (first ≤ j) × (j < behind)
  in_field p j t g = (low (split_at first j), high (split_at behind j))
    where
      low : (first ≤ j) ⊎ (j < first) → first ≤ j
      low (inl le) = le
      low (inr lt) = absurd (not_before from p.0 (p.1.0 ∷ p.1.1 ∷ []) (start.before j (field_key from p, t) lt g))

      high : (behind ≤ j) ⊎ (j < behind) → j < behind
      high (inl le) = absurd (end.from j (field_key from p, t) le g (is_before from (p.0 ∷ p.1.0 ∷ p.1.1 ∷ []) []))
      high (inr lt) = lt

  pub of_field : (n : ℕ) (f r c s : ℕ) (t : List ℕ) → first ≤ n → n < behind → slice_get (texts.entries m) n ≡ Some (f ∷ r ∷ c ∷ s ∷ [], t) → slice_get (texts.entries m) n ≡ Some (field_key from (r, (c, s)), t)
  of_field n f r c s t le lt g =
      let same : f ≡ from = between f from r (c ∷ s ∷ []) (start.from n (f ∷ r ∷ c ∷ s ∷ [], t) le g) (end.before n (f ∷ r ∷ c ∷ s ∷ [], t) lt g) in
      g ∙ ap (λ k. Some (k ∷ r ∷ c ∷ s ∷ [], t)) same

module _ (m : Texts) (from : ValuePath) (first behind : ℕ) (start : IsStart (from.field ∷ from.rep ∷ []) (texts.entries m) first) (end : IsStart (from.field ∷ (from.rep + 1) ∷ []) (texts.entries m) behind) where
  -- behind the same field the repetitions decide
  inner : (key other : List ℕ) → order (from.field ∷ key) (from.field ∷ other) ≡ order key other
  inner key other = ap (λ r. ordering_then r (order key other)) (equal from.field)

  pub in_rep : (p : ℕ × ℕ) (j : ℕ) (t : List ℕ) → slice_get (texts.entries m) j ≡ Some (comp_key from p, t) → (first ≤ j) × (j < behind)
  in_rep p j t g = (low (split_at first j), high (split_at behind j))
    where
      low : (first ≤ j) ⊎ (j < first) → first ≤ j
      low (inl le) = le
      low (inr lt) = absurd (not_before from.rep p.0 (p.1 ∷ []) (sym (inner (from.rep ∷ p.0 ∷ p.1 ∷ []) (from.rep ∷ [])) ∙ start.before j (comp_key from p, t) lt g))

      high : (behind ≤ j) ⊎ (j < behind) → j < behind
      high (inl le) = absurd (end.from j (comp_key from p, t) le g (inner (from.rep ∷ p.0 ∷ p.1 ∷ []) ((from.rep + 1) ∷ []) ∙ is_before from.rep (p.0 ∷ p.1 ∷ []) []))
      high (inr lt) = lt

  -- the first numbers of a key that stands between the two
  same_start : (f r c s : ℕ) → (order (f ∷ r ∷ c ∷ s ∷ []) (from.field ∷ from.rep ∷ []) ≡ Less → ⊥) → order (f ∷ r ∷ c ∷ s ∷ []) (from.field ∷ (from.rep + 1) ∷ []) ≡ Less → (f ≡ from.field) × (r ≡ from.rep)
  same_start f r c s low high = by (split_at from.field f) (split_at f from.field)
    where
      by : (from.field ≤ f) ⊎ (f < from.field) → (f ≤ from.field) ⊎ (from.field < f) → (f ≡ from.field) × (r ≡ from.rep)
      by (inr lt) h = absurd (low (ap (λ q. ordering_then q (order (r ∷ c ∷ s ∷ []) (from.rep ∷ []))) (one_less f from.field lt)))
      by (inl le) (inr gt) =
          let above : order (f ∷ r ∷ c ∷ s ∷ []) (from.field ∷ (from.rep + 1) ∷ []) ≡ Greater = ap (λ q. ordering_then q (order (r ∷ c ∷ s ∷ []) ((from.rep + 1) ∷ []))) (sym (nat_cmp_is f from.field Greater gt)) in
          absurd (cc)
      by (inl le) (inl ge) =
          let same : f ≡ from.field = omega arith in
          let out : order (r ∷ c ∷ s ∷ []) (from.rep ∷ []) ≡ Less → ⊥ = λ e. low (ap (λ b. order (b ∷ r ∷ c ∷ s ∷ []) (from.field ∷ from.rep ∷ [])) same ∙ inner (r ∷ c ∷ s ∷ []) (from.rep ∷ []) ∙ e) in
          let in_it : order (r ∷ c ∷ s ∷ []) ((from.rep + 1) ∷ []) ≡ Less = sym (inner (r ∷ c ∷ s ∷ []) ((from.rep + 1) ∷ [])) ∙ ap (λ b. order (b ∷ r ∷ c ∷ s ∷ []) (from.field ∷ (from.rep + 1) ∷ [])) (sym same) ∙ high in
          (same, between r from.rep c (s ∷ []) out in_it)

  pub of_rep : (n : ℕ) (f r c s : ℕ) (t : List ℕ) → first ≤ n → n < behind → slice_get (texts.entries m) n ≡ Some (f ∷ r ∷ c ∷ s ∷ [], t) → slice_get (texts.entries m) n ≡ Some (comp_key from (c, s), t)
  of_rep n f r c s t le lt g =
      let same = same_start f r c s (start.from n (f ∷ r ∷ c ∷ s ∷ [], t) le g) (end.before n (f ∷ r ∷ c ∷ s ∷ [], t) lt g) in
      g ∙ (λ i. Some (same.0 i ∷ same.1 i ∷ c ∷ s ∷ [], t))

pub apart_field : (f : ℕ) (p q : ℕ × (ℕ × ℕ)) → field_key f p ≡ field_key f q → p ≡ q
apart_field f p q e =
    let r : p.0 ≡ q.0 = cc in
    let c : p.1.0 ≡ q.1.0 = cc in
    let s : p.1.1 ≡ q.1.1 = cc in
    λ i. (r i, (c i, s i))

pub apart_rep : (to : ValuePath) (p q : ℕ × ℕ) → comp_key to p ≡ comp_key to q → p ≡ q
apart_rep to p q e =
    let c : p.0 ≡ q.0 = cc in
    let s : p.1 ≡ q.1 = cc in
    λ i. (c i, s i)

-- ---- repetitions

abbrev pub In : (ℕ → ℕ → ℕ → List ℕ → Type 0) → ℕ → ℕ × ℕ → List ℕ → Type 0
In Means rep p text = Means rep p.0 p.1 text

abbrev pub RepsUpTo : ℕ → (ℕ → ℕ → ℕ → List ℕ → Type 0) → List SegmentValue → ℕ → List SegmentValue → Type 0
RepsUpTo field Means old n new = UpTo (ℕ × ℕ) (rep_key field) (In Means) old n new

-- where a repetition isn't there, no text is meant
module _ (m : Texts) (from field : ℕ) (Means : ℕ → ℕ → ℕ → List ℕ → Type 0) (absent : (rep comp sub : ℕ) → (RepAt m from rep → ⊥) → Means rep comp sub []) (last : ℕ) (is : IsLast (RepAt m from) last) (old : List SegmentValue) (may : MayMakeField field Means old) where
  pub no_reps : RepsUpTo field Means old 0 old
  no_reps = none_made (ℕ × ℕ) (rep_key field) (In Means) old may (λ p. absent 0 p.0 p.1 (λ at. let w = is.within 0 at in omega (arith, w.0)))

  pub may_rep : (n next : ℕ) (mid : List SegmentValue) → n < next → RepsUpTo field Means old n mid → MayMake (ℕ × ℕ) (rep_key field next) (In Means next) mid
  may_rep n next mid lt up = may_next (ℕ × ℕ) (rep_key field) (In Means) old n next mid lt may up

  pub next_reps : (n next : ℕ) (mid new : List SegmentValue) → n < next → ((rep : ℕ) → n < rep → RepAt m from rep → next ≤ rep) → RepsUpTo field Means old n mid → AreMade (ℕ × ℕ) (rep_key field next) (In Means next) mid new → RepsUpTo field Means old next new
  next_reps n next mid new lt least up made =
      next_made (ℕ × ℕ) (rep_key field) (In Means) old (λ k j i h e. let same : k ≡ j = cc in same) n next mid new lt
      (λ k more less p. absent k p.0 p.1 (λ at. let le : next ≤ k = least k more at in omega (arith, less, le))) up made

  pub all_reps : (n : ℕ) (new : List SegmentValue) → last ≤ n → RepsUpTo field Means old n new → IsFieldMade field Means old new
  all_reps n new le up = all_made (ℕ × ℕ) (rep_key field) (In Means) old n new (λ k lt p. absent k p.0 p.1 (λ at. let w = is.within k at in omega (arith, le, lt, w.1))) up
