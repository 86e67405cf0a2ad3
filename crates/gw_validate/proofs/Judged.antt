-- The breach that is named is the least.
use Rattle.std.proofs.Common.{◌≡◌, ℕ, zero, suc, ◌<◌, ◌≤◌, ◌⊎◌, inl, inr, List, [], ◌∷◌, ◌++◌, Some, None, refl, sym, ap, ◌∙◌, subst, arith, length, append_assoc, map, take, slice_get, unwrap_or}
use Rattle.std.specs.FinMap as texts
use Rattle.std.proofs.lemmas.List.{map-append, take-map}
use Rattle.std.proofs.lemmas.List.Elements.{filter-append}
use Rattle.gw_er7.specs.Message.{SegmentValue}
use Rattle.gw_profile.specs.Shapes.{Forest, FieldValue, ProfileValue}
use Rattle.gw_profile.specs.Deterministic.{Name, Determined, NoName}
use Rattle.gw_validate.specs.Breaches.{SegmentBreach, Meets, NotAfter}
use Rattle.gw_validate.specs.Cuts.{Fits, Begins, IsShortest}
use Rattle.gw_profile.specs.Names.{stands}
use Rattle.gw_validate.specs.Conforming.{listed, names, NamesFit, numbers, segment_at, named, Seq, Conforms}
use Rattle.gw_validate.specs.Trees.{Tree, assigned, AllMeet, MeetingTree}
use Rattle.gw_validate.specs.own.Least.{Searched, BreachAt}
use Rattle.gw_validate.specs.Broken.{IsTreeOf, Assigns, Breaks, out_of_order, missing, in_segment}
use Rattle.gw_validate.proofs.Listed.{of_numbers, RisesFrom, numbers_rise}
use Rattle.gw_validate.proofs.Flat.{tree_flat, assigned_flat}
use Rattle.gw_validate.proofs.Mapped.{seq_back, seq_forth}
use Rattle.gw_validate.proofs.Conforming.{meeting_tree, tree_conforms}
use Rattle.gw_validate.proofs.Unique.{tree_fits, one_tree}

-- ---- names

module _ (f : Forest) where
  names-append : (a b : List SegmentValue) → names f (a ++ b) ≡ names f a ++ names f b
  names-append a b =
      ap (map (λ s. s.name)) (filter-append (λ s. stands f s.name) a b) ∙ map-append (λ s. s.name) (listed f a) (listed f b)

  pub names_are : (m : List SegmentValue) → map (named m) (numbers f m) ≡ names f m
  names_are m = twice (numbers f m) ∙ ap (map (λ s. s.name)) (of_numbers f m)
    where
      twice : (ns : List ℕ) → map (named m) ns ≡ map (λ (s : SegmentValue). s.name) (map (segment_at m) ns)
      twice [] = refl
      twice (n ∷ ns) = ap (λ l. named m n ∷ l) (twice ns)

  begins_before : (a b : List Name) → Begins f (a ++ b) → Begins f a
  begins_before a b h = (b ++ h.0, subst (Fits f) (append_assoc a b h.0) h.1)

  cut_take : (j n : ℕ) (m : List SegmentValue) → j ≤ n → (b : List SegmentValue) × (take n m ≡ take j m ++ b)
  cut_take zero n m le = (take n m, refl)
  cut_take (suc j) zero m le = absurd (omega arith)
  cut_take (suc j) (suc n) [] le = ([], refl)
  cut_take (suc j) (suc n) (s ∷ m) le = let r = cut_take j n m (omega arith) in (r.0, ap (λ l. s ∷ l) r.1)

  cut_whole : (j : ℕ) (m : List SegmentValue) → (b : List SegmentValue) × (m ≡ take j m ++ b)
  cut_whole zero m = (m, refl)
  cut_whole (suc j) [] = ([], refl)
  cut_whole (suc j) (s ∷ m) = let r = cut_whole j m in (r.0, ap (λ l. s ∷ l) r.1)

  -- names that begin a list that fits: so do those before them
  pub begins_earlier : (j n : ℕ) (m : List SegmentValue) → j ≤ n → Begins f (names f (take n m)) → Begins f (names f (take j m))
  begins_earlier j n m le h =
      let r = cut_take j n m le in
      begins_before (names f (take j m)) (names f r.0) (subst (Begins f) (ap (names f) r.1 ∙ names-append (take j m) r.0) h)

  pub begins_whole : (j : ℕ) (m : List SegmentValue) → Begins f (names f m) → Begins f (names f (take j m))
  begins_whole j m h =
      let r = cut_whole j m in
      begins_before (names f (take j m)) (names f r.0) (subst (Begins f) (ap (names f) r.1 ∙ names-append (take j m) r.0) h)

  pub fit_begins : (m : List SegmentValue) → NamesFit f m → Begins f (names f m)
  fit_begins m h = ([], subst (Fits f) (sym (nil (names f m))) h)
    where
      nil : (l : List Name) → l ++ [] ≡ l
      nil [] = refl
      nil (x ∷ l) = ap (λ k. x ∷ k) (nil l)

  pub names_take : (n i : ℕ) (m : List SegmentValue) → listed f (take n m) ≡ take i (listed f m) → names f (take n m) ≡ take i (names f m)
  names_take n i m e = ap (map (λ s. s.name)) e ∙ sym (take-map (λ (s : SegmentValue). s.name) i (listed f m))

-- ---- segments

pub segment_is : (m : List SegmentValue) (i : ℕ) (s : SegmentValue) → slice_get m i ≡ Some s → segment_at m i ≡ s
segment_is m i s e = ap (λ o. unwrap_or o (record { name = 0 ∷ 0 ∷ 0 ∷ []; at = texts.empty })) e

-- ---- the search of a tree

module _ (B : List FieldValue → ℕ → List ℕ → Type 0) where
  -- what was found is the least of all
  pub record Found (ps : List (ℕ × List FieldValue)) (i : ℕ) (q : List ℕ) : Type 0 where
    pub shape : List FieldValue
    pub there : Assigns ps i shape
    pub breaks : B shape i q
    pub least : (j : ℕ) (other : List FieldValue) (r : List ℕ) → Assigns ps j other → B other j r → NotAfter (i ∷ q) (j ∷ r)

  later : (f : Forest) (low : ℕ) (ps : List (ℕ × List FieldValue)) → RisesFrom f low (map (λ (p : ℕ × List FieldValue). p.0) ps) → (j : ℕ) (shape : List FieldValue) → Assigns ps j shape → low ≤ j
  later f low [] r j shape a = absurd a
  later f low (p ∷ ps) r j shape (inl e) = omega (arith, r.0, ap (λ (x : ℕ × List FieldValue). x.0) e)
  later f low (p ∷ ps) r j shape (inr a) = omega (arith, r.0, later f (suc p.0) ps r.1 j shape a)

  pub found : (f : Forest) (low : ℕ) (ps : List (ℕ × List FieldValue)) → RisesFrom f low (map (λ (p : ℕ × List FieldValue). p.0) ps) → (i : ℕ) (q : List ℕ) → Searched B ps (Some (i, q)) → Found ps i q
  found f low [] r i q s = absurd s
  found f low (p ∷ ps) r i q (inl s) = record {
    shape = p.1;
    there = inl (ap (λ (n : ℕ). (n, p.1)) (sym s.0));
    breaks = subst (λ n. B p.1 n q) (sym s.0) s.1.0;
    least = only;
  }
    where
      only : (j : ℕ) (other : List FieldValue) (k : List ℕ) → Assigns (p ∷ ps) j other → B other j k → NotAfter (i ∷ q) (j ∷ k)
      only j other k (inl e) b =
          inr (s.0 ∙ ap (λ (x : ℕ × List FieldValue). x.0) e, s.1.1 k (subst (λ (x : ℕ × List FieldValue). B x.1 x.0 k) (sym e) b))
      only j other k (inr a) b = inl (omega (arith, s.0, later f (suc p.0) ps r.1 j other a))
  found f low (p ∷ ps) r i q (inr s) = behind (found f (suc p.0) ps r.1 i q s.1)
    where
      behind : Found ps i q → Found (p ∷ ps) i q
      behind x = record { shape = x.shape; there = inr x.there; breaks = x.breaks; least = only x }
        where
          only : (x : Found ps i q) (j : ℕ) (other : List FieldValue) (k : List ℕ) → Assigns (p ∷ ps) j other → B other j k → NotAfter (i ∷ q) (j ∷ k)
          only x j other k (inl e) b = absurd (s.0 k (subst (λ (y : ℕ × List FieldValue). B y.1 y.0 k) (sym e) b))
          only x j other k (inr a) b = x.least j other k a b

-- ---- breaches of a message

module _ (p : ProfileValue) (m : List SegmentValue) (wf : Determined p.nodes NoName) where
  pub tree_names_fit : (t : Tree) → IsTreeOf p m t → NamesFit p.nodes m
  tree_names_fit t h = subst (Fits p.nodes) (names_are p.nodes m) (tree_fits (named m) t p.nodes (numbers p.nodes m) h)

  -- no breach comes before this one
  abbrev pub NoneBefore : ℕ → List ℕ → Type 0
  NoneBefore n q = (i : ℕ) (name : Name) (spot : List ℕ) → Breaks p m i name spot → NotAfter (n ∷ q) (i ∷ spot)

  -- there is no other breach
  abbrev pub AloneAt : ℕ → List ℕ → Type 0
  AloneAt n q = (i : ℕ) (name : Name) (spot : List ℕ) → Breaks p m i name spot → (n ≡ i) × (q ≡ spot)

  compare : (a b : ℕ) → (b < a) ⊎ ((a ≡ b) ⊎ (a < b))
  compare zero zero = inr (inl refl)
  compare zero (suc b) = inr (inr (omega arith))
  compare (suc a) zero = inl (omega arith)
  compare (suc a) (suc b) = elim (compare a b) [ inl h ↦ inl (omega arith) | inr h ↦ inr (elim h [ inl e ↦ inl (ap suc e) | inr l ↦ inr (omega arith) ]) ]

  -- kind 1
  module _ (n : ℕ) (s : SegmentValue) (here : slice_get m n ≡ Some s) (before : Begins p.nodes (names p.nodes (take n m))) (never : Begins p.nodes (names p.nodes (take (suc n) m)) → ⊥) where
    pub order_breaks : Breaks p m n s.name (0 ∷ 0 ∷ 0 ∷ 0 ∷ 1 ∷ [])
    order_breaks = out_of_order s here before never

    pub order_alone : AloneAt n (0 ∷ 0 ∷ 0 ∷ 0 ∷ 1 ∷ [])
    order_alone i name spot (out_of_order r there first stop) = elim (compare n i) [
      | inl lt ↦ absurd (stop (begins_earlier p.nodes (suc i) n m (omega arith) before))
      | inr (inl e) ↦ (e, refl)
      | inr (inr lt) ↦ absurd (never (begins_earlier p.nodes (suc n) i m (omega arith) first))
    ]
    order_alone i name spot (missing {name = lacking} rest none short) = absurd (never (begins_whole p.nodes (suc n) m (lacking ∷ rest, short.fits)))
    order_alone i name spot (in_segment t shape r is a there b) =
        absurd (never (begins_whole p.nodes (suc n) m (fit_begins p.nodes m (tree_names_fit t is))))

  -- kind 2
  module _ (name : Name) (rest : List Name) (none : NamesFit p.nodes m → ⊥) (short : IsShortest p.nodes (names p.nodes m) (name ∷ rest)) where
    pub missing_breaks : Breaks p m (length m) name (0 ∷ 0 ∷ 0 ∷ 0 ∷ 2 ∷ [])
    missing_breaks = missing rest none short

    pub missing_alone : AloneAt (length m) (0 ∷ 0 ∷ 0 ∷ 0 ∷ 2 ∷ [])
    missing_alone i other spot (out_of_order r there first stop) =
        absurd (stop (begins_whole p.nodes (suc i) m (name ∷ rest, short.fits)))
    missing_alone i other spot (missing more never few) = (refl, refl)
    missing_alone i other spot (in_segment t shape r is a there b) = absurd (none (tree_names_fit t is))

  -- kinds 3 to 7
  module _ (t : Tree) (is : IsTreeOf p m t) where
    rising : RisesFrom p.nodes 0 (map (λ (q : ℕ × List FieldValue). q.0) (assigned t p.nodes))
    rising =
        subst (RisesFrom p.nodes 0) (sym (assigned_flat (named m) t p.nodes (numbers p.nodes m) is ∙ tree_flat (named m) t p.nodes (numbers p.nodes m) is))
        (numbers_rise p.nodes 0 m)

    module _ (n : ℕ) (q : List ℕ) (s : SegmentValue) (here : slice_get m n ≡ Some s) (search : Searched (BreachAt p m) (assigned t p.nodes) (Some (n, q))) where
      what : Found (BreachAt p m) (assigned t p.nodes) n q
      what = found (BreachAt p m) p.nodes 0 (assigned t p.nodes) rising n q search

      pub segment_breaks : Breaks p m n s.name q
      segment_breaks =
          in_segment t what.shape s is what.there here
          (subst (λ (x : SegmentValue). SegmentBreach p what.shape x.at q) (segment_is m n s here) what.breaks)

      pub segment_least : NoneBefore n q
      segment_least i name spot (out_of_order r there first stop) =
          absurd (stop (begins_whole p.nodes (suc i) m (fit_begins p.nodes m (tree_names_fit t is))))
      segment_least i name spot (missing more never few) = absurd (never (tree_names_fit t is))
      segment_least i name spot (in_segment u shape r isu a there b) =
          what.least i shape spot
          (subst (λ v. Assigns (assigned v p.nodes) i shape) (one_tree (named m) p.nodes NoName wf u t (numbers p.nodes m) isu is) a)
          (subst (λ (x : SegmentValue). SegmentBreach p shape x.at spot) (sym (segment_is m i r there)) b)

    -- all segments meet their shapes
    pub meets_all : Searched (BreachAt p m) (assigned t p.nodes) None → AllMeet (λ shape i. Meets p shape (segment_at m i).at) (assigned t p.nodes)
    meets_all h = by (assigned t p.nodes) h
      where
        by : (ps : List (ℕ × List FieldValue)) → Searched (BreachAt p m) ps None → AllMeet (λ shape i. Meets p shape (segment_at m i).at) ps
        by [] h = tt
        by (x ∷ ps) h = (h.0, by ps h.1)

    pub tree_message : AllMeet (λ shape i. Meets p shape (segment_at m i).at) (assigned t p.nodes) → Conforms p m
    tree_message h =
        subst (Seq (λ (s : SegmentValue). s.name) (λ shape (s : SegmentValue). Meets p shape s.at) p.nodes) (of_numbers p.nodes m)
        (seq_forth (segment_at m) (λ (s : SegmentValue). s.name) (λ shape (s : SegmentValue). Meets p shape s.at) p.nodes (numbers p.nodes m)
        (tree_conforms (named m) (λ shape i. Meets p shape (segment_at m i).at) t p.nodes (numbers p.nodes m) is h))

  -- what conforms has a tree whose segments meet their shapes
  pub message_tree : Conforms p m → MeetingTree (named m) (λ shape i. Meets p shape (segment_at m i).at) p.nodes (numbers p.nodes m)
  message_tree h =
      meeting_tree (named m) (λ shape i. Meets p shape (segment_at m i).at) p.nodes (numbers p.nodes m)
      (seq_back (segment_at m) (λ (s : SegmentValue). s.name) (λ shape (s : SegmentValue). Meets p shape s.at) p.nodes (numbers p.nodes m)
      (subst (Seq (λ (s : SegmentValue). s.name) (λ shape (s : SegmentValue). Meets p shape s.at) p.nodes) (sym (of_numbers p.nodes m)) h))

  meet_at : (B : List FieldValue → ℕ → Type 0) (ps : List (ℕ × List FieldValue)) (i : ℕ) (shape : List FieldValue) → AllMeet B ps → Assigns ps i shape → B shape i
  meet_at B [] i shape a h = absurd h
  meet_at B (x ∷ ps) i shape a (inl e) = subst (λ (y : ℕ × List FieldValue). B y.1 y.0) e a.0
  meet_at B (x ∷ ps) i shape a (inr h) = meet_at B ps i shape a.1 h

  pub message_decided : (t : Tree) → IsTreeOf p m t → Conforms p m → AllMeet (λ shape i. Meets p shape (segment_at m i).at) (assigned t p.nodes)
  message_decided t is h =
      let c = message_tree h in
      subst (λ u. AllMeet (λ shape i. Meets p shape (segment_at m i).at) (assigned u p.nodes)) (one_tree (named m) p.nodes NoName wf c.tree t (numbers p.nodes m) c.is is) c.met

  -- a message that conforms breaks nothing
  pub breaks_nothing : Conforms p m → (i : ℕ) (name : Name) (spot : List ℕ) → Breaks p m i name spot → ⊥
  breaks_nothing h i name spot (out_of_order s there first stop) =
      stop (begins_whole p.nodes (suc i) m (fit_begins p.nodes m (tree_names_fit (message_tree h).tree (message_tree h).is)))
  breaks_nothing h i name spot (missing rest none short) = none (tree_names_fit (message_tree h).tree (message_tree h).is)
  breaks_nothing h i name spot (in_segment t shape s is a there b) =
      meet_at (λ shape i. Meets p shape (segment_at m i).at) (assigned t p.nodes) i shape (message_decided t is h) a spot
      (subst (λ (x : SegmentValue). SegmentBreach p shape x.at spot) (sym (segment_is m i s there)) b)
