-- A segment that has given texts at given places.
use Rattle.std.proofs.Common.{◌≡◌, ℕ, zero, suc, ◌<◌, ◌≤◌, ◌⊎◌, inl, inr, Bool, true, false, List, [], ◌∷◌, ◌++◌, map, Some, None, refl, sym, ap, ◌∙◌, subst, arith, length}
use Rattle.std.specs.Prelude.{cond, flat_map, unwrap_or}
use Rattle.std.specs.Ordering.{nat_cmp, eq_by_cmp}
use Rattle.std.specs.Cmp.Lexicographic.{slice_cmp, nat_list_cmp_total}
use Rattle.std.specs.FinMap as texts
use Rattle.std.specs.FinMap.{get-empty, get-insert}
use Rattle.std.proofs.lemmas.Bool.Decides.{eqb_tells}
use Rattle.gw_er7.specs.Names.{IsName}
use Rattle.gw_er7.specs.Message.{SegmentValue, first_field, IsEntry, IsSegment}
use Rattle.gw_er7.proofs.Keys.{tie}
use Rattle.gw_er7.proofs.Lasts.{kept_put}
use Rattle.gw_er7.proofs.Builds.{begun, begun_segment}
use Rattle.gw_profile.proofs.Facts.{no_clash}
use Rattle.gw_maplang.specs.Among.{Among}
use Rattle.gw_interp.proofs.Shaped.{no_text, text_there}
use Rattle.gw_interp.proofs.Bounded.{tied}

-- ---- the places up to a bound

abbrev up_to : ℕ → List ℕ
up_to zero = 0 ∷ []
up_to (suc n) = suc n ∷ up_to n

within : (n b : ℕ) → n ≤ b → Among n (up_to b)
within n zero le = inl (omega (arith, le))
within n (suc b) le =
    elim (eqb_tells n (suc b)) [
      | inl e ↦ inl e.1
      | inr e ↦ inr (within n b (omega (arith, le, e.1)))
    ]

module _ {A : Type 0} where
  among_left : (x : A) (xs ys : List A) → Among x xs → Among x (xs ++ ys)
  among_left x [] ys a = absurd a
  among_left x (y ∷ xs) ys (inl e) = inl e
  among_left x (y ∷ xs) ys (inr a) = inr (among_left x xs ys a)

  among_right : (x : A) (xs ys : List A) → Among x ys → Among x (xs ++ ys)
  among_right x [] ys a = a
  among_right x (y ∷ xs) ys a = inr (among_right x xs ys a)

among_flat : (g : ℕ → List (List ℕ)) (n : ℕ) (key : List ℕ) (ns : List ℕ) → Among n ns → Among key (g n) → Among key (flat_map g ns)
among_flat g n key [] a k = absurd a
among_flat g n key (m ∷ ns) (inl same) k = among_left key (g m) (flat_map g ns) (subst (λ i. Among key (g i)) same k)
among_flat g n key (m ∷ ns) (inr a) k = among_right key (g m) (flat_map g ns) (among_flat g n key ns a k)

among_each : (g : ℕ → List ℕ) (n : ℕ) (ns : List ℕ) → Among n ns → Among (g n) (map g ns)
among_each g n [] a = absurd a
among_each g n (m ∷ ns) (inl same) = inl (ap g same)
among_each g n (m ∷ ns) (inr a) = inr (among_each g n ns a)

abbrev pub places_to : ℕ → List (List ℕ)
places_to b = flat_map (λ f. flat_map (λ r. flat_map (λ c. map (λ k. f ∷ r ∷ c ∷ k ∷ []) (up_to b)) (up_to b)) (up_to b)) (up_to b)

pub among_places : (b f r c k : ℕ) → f ≤ b → r ≤ b → c ≤ b → k ≤ b → Among (f ∷ r ∷ c ∷ k ∷ []) (places_to b)
among_places b f r c k lf lr lc lk =
    among_flat _ f _ (up_to b) (within f b lf)
    (among_flat _ r _ (up_to b) (within r b lr) (among_flat _ c _ (up_to b) (within c b lc) (among_each (λ i. f ∷ r ∷ c ∷ i ∷ []) k (up_to b) (within k b lk))))

-- ---- the segment

-- a text at each of these places, none where it is empty
module _ (g : List ℕ → List ℕ) (name : List ℕ) where
  abbrev put_some : List ℕ → List ℕ → SegmentValue → SegmentValue
  put_some key [] s = s
  put_some key (b ∷ text) s = record s { at = texts.insert s.at key (b ∷ text) }

  abbrev pub tabled : List (List ℕ) → SegmentValue
  tabled [] = begun name
  tabled (key ∷ keys) = put_some key (g key) (tabled keys)

  pub tabled_name : (keys : List (List ℕ)) → (tabled keys).name ≡ name
  tabled_name [] = refl
  tabled_name (key ∷ keys) = by (g key) ∙ tabled_name keys
    where
      by : (text : List ℕ) → (put_some key text (tabled keys)).name ≡ (tabled keys).name
      by [] = refl
      by (b ∷ text) = refl

  -- its text there, or none where it is empty
  abbrev Has : SegmentValue → List (List ℕ) → List ℕ → Type 0
  Has s keys q = ((texts.get s.at q ≡ None) × (Among q keys → g q ≡ [])) ⊎ (texts.get s.at q ≡ Some (g q))

  put_has : (s : SegmentValue) (keys : List (List ℕ)) (key q : List ℕ) (b : ℕ) (text : List ℕ) → g key ≡ b ∷ text → Has s keys q → Has (put_some key (b ∷ text) s) (key ∷ keys) q
  put_has s keys key q b text e h = by (eq_by_cmp (slice_cmp nat_cmp) q key) refl h
    where
      got : (t : Bool) → eq_by_cmp (slice_cmp nat_cmp) q key ≡ t → texts.get (texts.insert s.at key (b ∷ text)) q ≡ cond t (Some (b ∷ text)) (texts.get s.at q)
      got t e = get-insert nat_list_cmp_total s.at key (b ∷ text) q ∙ ap (λ v. cond v (Some (b ∷ text)) (texts.get s.at q)) e

      by : (t : Bool) → eq_by_cmp (slice_cmp nat_cmp) q key ≡ t → Has s keys q → Has (put_some key (b ∷ text) s) (key ∷ keys) q
      by true t h = inr (got true t ∙ ap Some (sym e ∙ ap g (sym (tied q key t))))
      by false t (inl h) = inl (got false t ∙ h.0, elim [ inl same ↦ absurd (no_clash (sym (tie q key same) ∙ t)) | inr a ↦ h.1 a ])
      by false t (inr h) = inr (got false t ∙ h)

  has : (keys : List (List ℕ)) (q : List ℕ) → Has (tabled keys) keys q
  has [] q = inl (get-empty (slice_cmp nat_cmp) q, λ a. absurd a)
  has (key ∷ keys) q = by (g key) refl (has keys q)
    where
      by : (text : List ℕ) → g key ≡ text → Has (tabled keys) keys q → Has (put_some key text (tabled keys)) (key ∷ keys) q
      by [] e (inl h) = inl (h.0, elim [ inl same ↦ ap g same ∙ e | inr a ↦ h.1 a ])
      by [] e (inr h) = inr h
      by (b ∷ text) e h = put_has (tabled keys) keys key q b text e h

  -- where these are all the places with a text
  pub tabled_text : (keys : List (List ℕ)) → ((q : List ℕ) → 0 < length (g q) → Among q keys) → (q : List ℕ) → unwrap_or (texts.get (tabled keys).at q) [] ≡ g q
  tabled_text keys all q = by (has keys q)
    where
      by : Has (tabled keys) keys q → unwrap_or (texts.get (tabled keys).at q) [] ≡ g q
      by (inl h) = ap (λ o. unwrap_or o []) h.0 ∙ sym (no_text (g q) (λ lt. text_there (g q) lt (h.1 (all q lt))))
      by (inr h) = ap (λ o. unwrap_or o []) h

  -- where each text may stand at its place
  pub tabled_segment : ((q : List ℕ) → 0 < length (g q) → IsEntry (first_field name) (q, g q)) → IsName name → (keys : List (List ℕ)) → IsSegment (tabled keys)
  tabled_segment entries is [] = begun_segment name is
  tabled_segment entries is (key ∷ keys) = by (g key) (entries key) (tabled_segment entries is keys)
    where
      by : (text : List ℕ) → (0 < length text → IsEntry (first_field name) (key, text)) → IsSegment (tabled keys) → IsSegment (put_some key text (tabled keys))
      by [] entry kept = kept
      by (b ∷ text) entry kept = kept_put (tabled keys) key (b ∷ text) kept (subst (λ n. IsEntry (first_field n) (key, b ∷ text)) (sym (tabled_name keys)) (entry (omega arith)))
