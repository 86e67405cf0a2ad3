-- Segments whose texts lie one behind the other.
use Rattle.std.proofs.Common.{◌≡◌, ℕ, zero, suc, ◌+◌, ◌-◌, ◌<◌, ◌≤◌, List, [], ◌∷◌, ◌++◌, length, map, take, drop, get_or, false, Result, Ok, Err, Some, refl, sym, ap, subst, ◌∙◌, arith}
use Rattle.std.specs.Prelude.{T, slice_get, if◌then◌else◌, OnOk, OnErr}
use Rattle.std.specs.Result.{is_ok, IsOk}
use Rattle.std.proofs.lemmas.List.{drop_all, length-take, length-drop, length-append, drop-append-le, take-append-le, take-append-drop, take-map, drop-map, get_or-drop, get_or-take, drop_more}
use Rattle.std.proofs.lemmas.Option.{get_or_from_slice_get}
use Rattle.std.proofs.Math.Seq.{take-length, drop-append_seam}
use Rattle.std.specs.List.Sorted.{IsPermutation, IsSortedBy}
use Rattle.std.proofs.lemmas.List.{get_or-map}
use Rattle.std.proofs.lemmas.List.Sorted.{IsPermutation-refl, IsPermutation-append, IsPermutation-map, length_permutation}
use Rattle.std.specs.Ordering.{is_lt}
use Rattle.std.specs.FinMap as texts
use Rattle.std.specs.FinMap.{is_sorted}
use Rattle.gw_er7.specs.declared.place.Place.{Place}
use Rattle.gw_er7.specs.declared.start.SegmentHead.{SegmentHead}
use Rattle.gw_er7.specs.Message.{SegmentValue, numbers, IsSegment, IsMessage}
use Rattle.gw_er7.specs.Building.{IsBegun, MayPut, with_last}
use Rattle.gw_er7.specs.Entries.{Entry}
use Rattle.gw_er7.specs.View.{Held, entry_of, entries_of, stored, drafted, between, end_before, lying, AreLying, building, AreBuilding, IsBuilding, IsLent}
use Rattle.gw_er7.specs.own.Spans.{AreSortedFrom}
use Rattle.gw_er7.proofs.Sorted.{order}
use Rattle.gw_er7.proofs.Drafts.{closed_sorted, closed_is, apart_put, draft_put, none_apart}
use Rattle.gw_er7.proofs.Lasts.{begun_put}
use Rattle.gw_er7.proofs.Stored.{segment_at}

-- ---- from one number up to another

take_within : {A : Type 0} (n m : ℕ) (xs : List A) → n ≤ m → take n (take m xs) ≡ take n xs
take_within zero m xs le = refl
take_within (suc n) zero xs le = absurd (omega arith)
take_within (suc n) (suc m) [] le = refl
take_within {A} (suc n) (suc m) (x ∷ xs) le = ap (λ (ys : List A). x ∷ ys) (take_within n m xs (omega arith))

-- what stands first decides
between_kept : {A : Type 0} (from to k : ℕ) (xs ys : List A) → to ≤ k → take k ys ≡ take k xs → between from to ys ≡ between from to xs
between_kept from to k xs ys le e = ap (drop from) (sym (take_within to k ys le) ∙ ap (take to) e ∙ take_within to k xs le)

between_end : {A : Type 0} (from : ℕ) (xs : List A) → between from (length xs) xs ≡ drop from xs
between_end from xs = ap (drop from) (take-length xs)

pub length-between : {A : Type 0} (from to : ℕ) (xs : List A) → to ≤ length xs → length (between from to xs) ≡ to - from
length-between from to xs le = omega (arith, le, length-drop from (take to xs), length-take to xs)

pub get_or-between : {A : Type 0} (from to : ℕ) (xs : List A) (i : ℕ) (d : A) → from + i < to → get_or (between from to xs) i d ≡ get_or xs (from + i) d
get_or-between from to xs i d lt = get_or-drop from (take to xs) i d ∙ get_or-take to xs (from + i) d lt

-- what stands first is still first behind one more step
pub keeps_on : {A : Type 0} (xs ys zs : List A) → take (length xs) ys ≡ xs → take (length ys) zs ≡ ys → take (length xs) zs ≡ xs
keeps_on xs ys zs p q =
    let le : length xs ≤ length ys = omega (arith, length-take (length xs) ys, ap length p) in
    sym (take_within (length xs) (length ys) zs le) ∙ ap (take (length xs)) q ∙ p

-- ---- those that were put in order

module _ {A B : Type 0} (f : A → B) (place : B → Place) where
  sorted_map : (xs : List A) → IsSortedBy (λ a b. is_lt (order (numbers (place (f a))) (numbers (place (f b))))) xs → IsSortedBy (λ a b. is_lt (order (numbers (place a)) (numbers (place b)))) (map f xs)
  sorted_map xs sorted k d low high =
      by xs sorted k d (omega (arith, high, length-image xs))
    where
      length-image : (xs : List A) → length (map f xs) ≡ length xs
      length-image [] = refl
      length-image (x ∷ xs) = omega (arith, length-image xs)

      by : (xs : List A) → IsSortedBy (λ a b. is_lt (order (numbers (place (f a))) (numbers (place (f b))))) xs → (k : ℕ) (d : B) → k + 1 < length xs
          → is_lt (order (numbers (place (get_or (map f xs) (k + 1) d))) (numbers (place (get_or (map f xs) k d)))) ≡ false
      by [] sorted k d lt = absurd (omega arith)
      by (x ∷ xs) sorted k d lt =
          let here = get_or-map f (x ∷ xs) k x d (omega arith) in
          let next = get_or-map f (x ∷ xs) (k + 1) x d lt in
          ap (λ (h : B). is_lt (order (numbers (place (get_or (map f (x ∷ xs)) (k + 1) d))) (numbers (place h)))) here
          ∙ ap (λ (h : B). is_lt (order (numbers (place h)) (numbers (place (f (get_or (x ∷ xs) k x)))))) next
          ∙ sorted k x (omega arith) lt

  -- by another view of them
  pub sorted_from_map : (k : ℕ) (xs ys : List A) → AreSortedFrom (λ a. place (f a)) k xs ys → AreSortedFrom place k (map f xs) (map f ys)
  sorted_from_map k xs ys is = record {
    kept = take-map f k ys ∙ ap (map f) is.kept ∙ sym (take-map f k xs);
    moved = subst (λ (bs : List B). IsPermutation bs (drop k (map f ys))) (sym (drop-map f k xs)) (subst (λ (bs : List B). IsPermutation (map f (drop k xs)) bs) (sym (drop-map f k ys)) (IsPermutation-map f (drop k xs) (drop k ys) is.moved));
    sorted = subst (λ (bs : List B). IsSortedBy (λ a b. is_lt (order (numbers (place a)) (numbers (place b)))) bs) (sym (drop-map f k ys)) (sorted_map (drop k ys) is.sorted);
  }

pub all_moved : {A : Type 0} (place : A → Place) (k : ℕ) (xs ys : List A) → AreSortedFrom place k xs ys → IsPermutation xs ys
all_moved {A} place k xs ys is =
    let kept : IsPermutation (take k xs) (take k ys) = subst (λ (zs : List A). IsPermutation (take k xs) zs) (sym is.kept) (IsPermutation-refl (take k xs)) in
    subst (λ (zs : List A). IsPermutation zs ys) (take-append-drop k xs) (subst (λ (zs : List A). IsPermutation (take k xs ++ drop k xs) zs) (take-append-drop k ys) (IsPermutation-append (take k xs) (take k ys) (drop k xs) (drop k ys) kept is.moved))

-- a vector whose slice was written
pub written_back : {A : Type 0} (xs ys : List A) (n : ℕ) → n ≡ length xs → length ys ≡ n → take n (ys ++ drop (length ys) xs) ≡ ys
written_back xs ys n len same = ap (λ (m : ℕ). take m (ys ++ drop (length ys) xs)) (sym same) ∙ take-append-le (length ys) ys (drop (length ys) xs) (omega arith) ∙ take-length ys

pub sorted_parts : {A : Type 0} (place : A → Place) (k : ℕ) (xs front back new : List A) → k ≤ length xs → front ≡ take k xs → IsPermutation (drop k xs) back
    → IsSortedBy (λ a b. is_lt (order (numbers (place a)) (numbers (place b)))) back → new ≡ front ++ back → AreSortedFrom place k xs new
sorted_parts {A} place k xs front back new le e moved sorted is =
    let long : length front ≡ k = omega (arith, le, ap length e, length-take k xs) in
    let behind : drop k new ≡ back = ap (drop k) is ∙ ap (λ (n : ℕ). drop n (front ++ back)) (sym long) ∙ drop-append_seam front back in
    record {
      kept = ap (take k) is ∙ ap (λ (n : ℕ). take n (front ++ back)) (sym long) ∙ take-append-le (length front) front back (omega arith) ∙ take-length front ∙ e;
      moved = subst (λ (bs : List A). IsPermutation (drop k xs) bs) (sym behind) moved;
      sorted = subst (λ (bs : List A). IsSortedBy (λ a b. is_lt (order (numbers (place a)) (numbers (place b)))) bs) (sym behind) sorted;
    }

same_long : {A : Type 0} (place : A → Place) (k : ℕ) (xs ys : List A) → AreSortedFrom place k xs ys → k ≤ length xs → length ys ≡ length xs
same_long place k xs ys is le =
    omega (arith, le, ap length is.kept, length-take k xs, length-take k ys, length_permutation (drop k xs) (drop k ys) is.moved, length-drop k xs, length-drop k ys)

-- ---- the last segment is put in order

abbrev last_start : SegmentHead → List SegmentHead → SegmentHead
last_start s [] = s
last_start s (t ∷ ss) = last_start t ss

at_last : (s : SegmentHead) (ss : List SegmentHead) (d : SegmentHead) → get_or (s ∷ ss) (length ss) d ≡ last_start s ss
at_last s [] d = refl
at_last s (t ∷ ss) d = at_last t ss d

at_end : (s : SegmentHead) (ss : List SegmentHead) (d : SegmentHead) → get_or (s ∷ ss) (length (s ∷ ss) - 1) d ≡ last_start s ss
at_end s ss d = (let e : length (s ∷ ss) - 1 ≡ length ss = omega arith in ap (λ (k : ℕ). get_or (s ∷ ss) k d) e ∙ at_last s ss d)

first_lower : (s : SegmentHead) (ss : List SegmentHead) (xs : List Held) → AreBuilding (s ∷ ss) xs → s.first ≤ (last_start s ss).first
first_lower s [] xs h = omega arith
first_lower s (t ∷ ss) xs h = omega (arith, h.0, first_lower t ss xs h.3)

last_within : (s : SegmentHead) (ss : List SegmentHead) (xs : List Held) → AreBuilding (s ∷ ss) xs → (last_start s ss).first ≤ length xs
last_within s [] xs h = h.0
last_within s (t ∷ ss) xs h = last_within t ss xs h.3

pub last_fits : (starts : List SegmentHead) (d : SegmentHead) (xs : List Held) → 0 < length starts → AreBuilding starts xs → (get_or starts (length starts - 1) d).first ≤ length xs
last_fits [] d xs some h = absurd (omega arith)
last_fits (s ∷ ss) d xs some h = subst (λ (t : SegmentHead). t.first ≤ length xs) (sym (at_end s ss d)) (last_within s ss xs h)

-- the texts that are in order now make the segments that were made
pub record IsClosed (starts : List SegmentHead) (xs ys : List Held) : Type 0 where
  pub each : AreLying starts ys
  pub same : lying starts ys ≡ building starts xs

closes : (s : SegmentHead) (ss : List SegmentHead) (xs ys : List Held) → AreBuilding (s ∷ ss) xs → AreSortedFrom (λ h. h.place) (last_start s ss).first xs ys → IsClosed (s ∷ ss) xs ys
closes s [] xs ys h is =
    let long = same_long (λ h. h.place) s.first xs ys is h.0 in
    let behind = between_end s.first ys in
    record {
      each = (omega (arith, h.0, long), omega arith, subst (λ (hs : List Held). T (is_sorted order (entries_of hs))) (sym behind) (closed_sorted (drop s.first xs) (drop s.first ys) is.moved is.sorted h.1), tt);
      same = ap (λ (hs : List Held). stored s.name hs ∷ []) behind ∙ ap (λ (v : SegmentValue). v ∷ []) (closed_is s.name (drop s.first xs) (drop s.first ys) is.moved is.sorted h.1);
    }
closes s (t ∷ ss) xs ys h is =
    let rest = closes t ss xs ys h.3 is in
    let long = same_long (λ h. h.place) (last_start t ss).first xs ys is (last_within t ss xs h.3) in
    let here = between_kept s.first t.first (last_start t ss).first xs ys (first_lower t ss xs h.3) is.kept in
    record {
      each = (h.0, omega (arith, h.1, long), subst (λ (hs : List Held). T (is_sorted order (entries_of hs))) (sym here) h.2, rest.each);
      same = ap (λ (hs : List Held). stored s.name hs ∷ lying (t ∷ ss) ys) here ∙ ap (λ (vs : List SegmentValue). stored s.name (between s.first t.first xs) ∷ vs) rest.same;
    }

pub closed : (starts : List SegmentHead) (d : SegmentHead) (xs ys : List Held) → 0 < length starts → AreBuilding starts xs → AreSortedFrom (λ h. h.place) (get_or starts (length starts - 1) d).first xs ys → IsClosed starts xs ys
closed [] d xs ys some h is = absurd (omega arith)
closed (s ∷ ss) d xs ys some h is = closes s ss xs ys h (subst (λ (t : SegmentHead). AreSortedFrom (λ h. h.place) t.first xs ys) (at_end s ss d) is)

-- ---- a segment is begun behind the others

abbrev empty_of : SegmentHead → SegmentValue
empty_of n = record { name = n.name; at = texts.empty }

pub record IsOpened (starts : List SegmentHead) (n : SegmentHead) (ys : List Held) : Type 0 where
  pub each : AreBuilding (starts ++ n ∷ []) ys
  pub same : building (starts ++ n ∷ []) ys ≡ lying starts ys ++ record { name = n.name; at = texts.empty } ∷ []

pub opened : (starts : List SegmentHead) (n : SegmentHead) (ys : List Held) → n.first ≡ length ys → AreLying starts ys → IsOpened starts n ys
opened [] n ys e h =
    let none : drop n.first ys ≡ [] = drop_all n.first ys (omega (arith, e)) in
    record {
      each = (omega (arith, e), none_apart (drop n.first ys) none);
      same = ap (λ (hs : List Held). drafted n.name hs ∷ []) none;
    }
opened (s ∷ []) n ys e h =
    let rest = opened [] n ys e tt in
    let here : between s.first n.first ys ≡ between s.first (length ys) ys = ap (λ (k : ℕ). between s.first k ys) e in
    record {
      each = (omega (arith, h.0, e), omega (arith, e), subst (λ (hs : List Held). T (is_sorted order (entries_of hs))) (sym here) h.2, rest.each);
      same = ap (λ (hs : List Held). stored s.name hs ∷ building (n ∷ []) ys) here ∙ ap (λ (vs : List SegmentValue). stored s.name (between s.first (length ys) ys) ∷ vs) rest.same;
    }
opened (s ∷ t ∷ ss) n ys e h =
    let rest = opened (t ∷ ss) n ys e h.3 in
    record {
      each = (h.0, h.1, h.2, rest.each);
      same = ap (λ (vs : List SegmentValue). stored s.name (between s.first t.first ys) ∷ vs) rest.same;
    }

-- ---- a text is put behind the others

abbrev change : Held → SegmentValue → SegmentValue
change h s = record s { at = texts.insert s.at (numbers h.place) h.text }

some_building : (t : SegmentHead) (ss : List SegmentHead) (xs : List Held) → 0 < length (building (t ∷ ss) xs)
some_building t [] xs = omega arith
some_building t (u ∷ ss) xs = omega arith

may_later : (key text : List ℕ) (v : SegmentValue) (vs : List SegmentValue) → 0 < length vs → MayPut key text (v ∷ vs) → MayPut key text vs
may_later key text v [] some may = absurd (omega arith)
may_later key text v (w ∷ vs) some may = may

last_later : (f : SegmentValue → SegmentValue) (v : SegmentValue) (vs : List SegmentValue) → 0 < length vs → with_last f (v ∷ vs) ≡ v ∷ with_last f vs
last_later f v [] some = absurd (omega arith)
last_later f v (w ∷ vs) some = refl

pub record IsPut (starts : List SegmentHead) (h : Held) (xs ys : List Held) : Type 0 where
  pub each : AreBuilding starts ys
  pub same : building starts ys ≡ with_last (change h) (building starts xs)

pub put : (starts : List SegmentHead) (h : Held) (xs ys : List Held) → ys ≡ xs ++ h ∷ [] → MayPut (numbers h.place) h.text (building starts xs) → AreBuilding starts xs → IsPut starts h xs ys
put [] h xs ys e may is = absurd may
put (s ∷ []) h xs ys e may is =
    let behind : drop s.first ys ≡ drop s.first xs ++ h ∷ [] = ap (drop s.first) e ∙ drop-append-le s.first xs (h ∷ []) is.0 in
    let d = drafted s.name (drop s.first xs) in
    record {
      each = (omega (arith, is.0, ap length e, length-after xs h), apart_put (drop s.first xs) (drop s.first ys) h s.name d refl may.0 is.1 behind);
      same = ap (λ (v : SegmentValue). v ∷ []) (draft_put (drop s.first xs) (drop s.first ys) h s.name d refl may.0 behind);
    }
  where
    length-after : (xs : List Held) (h : Held) → length (xs ++ h ∷ []) ≡ length xs + 1
    length-after [] h = refl
    length-after (x ∷ xs) h = omega (arith, length-after xs h)
put (s ∷ t ∷ ss) h xs ys e may is =
    let v = stored s.name (between s.first t.first xs) in
    let some = some_building t ss xs in
    let rest = put (t ∷ ss) h xs ys e (may_later (numbers h.place) h.text v (building (t ∷ ss) xs) some may) is.3 in
    let kept : take (length xs) ys ≡ take (length xs) xs = ap (take (length xs)) e ∙ take-append-le (length xs) xs (h ∷ []) (omega arith) in
    let here = between_kept s.first t.first (length xs) xs ys is.1 kept in
    record {
      each = (is.0, longer xs ys e is.1, subst (λ (hs : List Held). T (is_sorted order (entries_of hs))) (sym here) is.2, rest.each);
      same = ap (λ (hs : List Held). stored s.name hs ∷ building (t ∷ ss) ys) here ∙ ap (λ (vs : List SegmentValue). v ∷ vs) rest.same ∙ sym (last_later (change h) v (building (t ∷ ss) xs) some);
    }
  where
    longer : {n : ℕ} (xs ys : List Held) → ys ≡ xs ++ h ∷ [] → n ≤ length xs → n ≤ length ys
    longer xs ys e le = omega (arith, le, ap length e, length-append xs (h ∷ []))

-- ---- a segment is read behind the others

pub record IsTakenIn (starts : List SegmentHead) (n : SegmentHead) (xs ys : List Held) : Type 0 where
  pub each : AreLying (starts ++ n ∷ []) ys
  pub same : lying (starts ++ n ∷ []) ys ≡ lying starts xs ++ stored n.name (drop (length xs) ys) ∷ []

pub taken_in : (starts : List SegmentHead) (n : SegmentHead) (xs ys : List Held) → n.first ≡ length xs → take (length xs) ys ≡ xs → AreLying starts xs → T (is_sorted order (entries_of (drop (length xs) ys))) → IsTakenIn starts n xs ys
taken_in [] n xs ys e kept h sorted =
    let longer : length xs ≤ length ys = omega (arith, ap length kept, length-take (length xs) ys) in
    let behind : between n.first (length ys) ys ≡ drop (length xs) ys = between_end n.first ys ∙ ap (λ (k : ℕ). drop k ys) e in
    record {
      each = (omega (arith, e, longer), omega arith, subst (λ (hs : List Held). T (is_sorted order (entries_of hs))) (sym behind) sorted, tt);
      same = ap (λ (hs : List Held). stored n.name hs ∷ []) behind;
    }
taken_in (s ∷ []) n xs ys e kept h sorted =
    let rest = taken_in [] n xs ys e kept tt sorted in
    let longer : length xs ≤ length ys = omega (arith, ap length kept, length-take (length xs) ys) in
    let here : between s.first n.first ys ≡ between s.first (length xs) xs = ap (λ (k : ℕ). between s.first k ys) e ∙ between_kept s.first (length xs) (length xs) xs ys (omega arith) (kept ∙ sym (take-length xs)) in
    record {
      each = (omega (arith, h.0, e), omega (arith, e, longer), subst (λ (hs : List Held). T (is_sorted order (entries_of hs))) (sym here) h.2, rest.each);
      same = ap (λ (hs : List Held). stored s.name hs ∷ lying (n ∷ []) ys) here ∙ ap (λ (vs : List SegmentValue). stored s.name (between s.first (length xs) xs) ∷ vs) rest.same;
    }
taken_in (s ∷ t ∷ ss) n xs ys e kept h sorted =
    let rest = taken_in (t ∷ ss) n xs ys e kept h.3 sorted in
    let longer : length xs ≤ length ys = omega (arith, ap length kept, length-take (length xs) ys) in
    let here = between_kept s.first t.first (length xs) xs ys h.1 (kept ∙ sym (take-length xs)) in
    record {
      each = (h.0, omega (arith, h.1, longer), subst (λ (hs : List Held). T (is_sorted order (entries_of hs))) (sym here) h.2, rest.each);
      same = ap (λ (hs : List Held). stored s.name hs ∷ lying (t ∷ ss ++ n ∷ []) ys) here ∙ ap (λ (vs : List SegmentValue). stored s.name (between s.first t.first xs) ∷ vs) rest.same;
    }

-- the texts behind those of before
pub behind_entries : (xs ys : List Held) (es : List Entry) → entries_of ys ≡ entries_of xs ++ es → entries_of (drop (length xs) ys) ≡ es
behind_entries xs ys es e =
    sym (drop-map entry_of (length xs) ys) ∙ ap (drop (length xs)) e ∙ ap (λ (k : ℕ). drop k (entries_of xs ++ es)) (sym (long xs)) ∙ drop-append_seam (entries_of xs) es
  where
    long : (xs : List Held) → length (entries_of xs) ≡ length xs
    long [] = refl
    long (x ∷ xs) = omega (arith, long xs)

-- ---- the segment of a number

pub length-lying : (starts : List SegmentHead) (xs : List Held) → length (lying starts xs) ≡ length starts
length-lying [] xs = refl
length-lying (s ∷ ss) xs = omega (arith, length-lying ss xs)

pub record Lies (starts : List SegmentHead) (xs : List Held) (i : ℕ) (s : SegmentHead) (end : ℕ) : Type 0 where
  pub rising : s.first ≤ end
  pub bound : end ≤ length xs
  pub sorted : T (is_sorted order (entries_of (between s.first end xs)))
  pub is : (v : SegmentValue) → get_or (lying starts xs) i v ≡ stored s.name (between s.first end xs)

pub lies_at : (starts : List SegmentHead) (xs : List Held) (i : ℕ) (d : SegmentHead) → i < length starts → AreLying starts xs → Lies starts xs i (get_or starts i d) (end_before (drop (i + 1) starts) xs)
lies_at [] xs i d lt h = absurd (omega arith)
lies_at (s ∷ ss) xs zero d lt h = record { rising = h.0; bound = h.1; sorted = h.2; is = λ v. refl }
lies_at (s ∷ ss) xs (suc i) d lt h =
    let rest = lies_at ss xs i d (omega arith) h.3 in
    let e : suc i + 1 ≡ suc (i + 1) = omega arith in
    subst (λ (k : ℕ). Lies (s ∷ ss) xs (suc i) (get_or ss i d) (end_before (drop k (s ∷ ss)) xs)) (sym e) (record { rising = rest.rising; bound = rest.bound; sorted = rest.sorted; is = rest.is })

pub here_is : (vs : List SegmentValue) (i : ℕ) (v : SegmentValue) → i < length vs → ((d : SegmentValue) → get_or vs i d ≡ v) → slice_get vs i ≡ Some v
here_is [] i v lt h = absurd (omega arith)
here_is (w ∷ vs) zero v lt h = ap (λ (x : SegmentValue). Some x) (h v)
here_is (w ∷ vs) (suc i) v lt h = here_is vs i v (omega arith) h

pub lies_here : (starts lent : List SegmentHead) (xs : List Held) (i : ℕ) (s : SegmentHead) (end : ℕ) → i < length starts → AreLying starts xs → s ≡ get_or starts i s → lent ≡ starts → end ≡ end_before (drop (i + 1) lent) xs → Lies starts xs i s end
lies_here starts lent xs i s end lt h here same e =
    let behind : end ≡ end_before (drop (i + 1) starts) xs = e ∙ ap (λ (ss : List SegmentHead). end_before (drop (i + 1) ss) xs) same in
    subst (λ (n : ℕ). Lies starts xs i s n) (sym behind) (subst (λ (t : SegmentHead). Lies starts xs i t (end_before (drop (i + 1) starts) xs)) (sym here) (lies_at starts xs i s lt h))

pub lent_is : (starts : List SegmentHead) (xs values : List Held) (i : ℕ) (s : SegmentHead) (end : ℕ) → i < length starts → IsMessage (lying starts xs) → values ≡ between s.first end xs → Lies starts xs i s end → IsLent s.name values
lent_is starts xs values i s end lt message e lies =
    let v : SegmentValue = stored s.name values in
    record {
      sorted = subst (λ (hs : List Held). T (is_sorted order (entries_of hs))) (sym e) lies.sorted;
      segment = subst (λ (w : SegmentValue). IsSegment w) (lies.is v ∙ ap (stored s.name) (sym e)) (segment_at i (lying starts xs) v (omega (arith, lt, length-lying starts xs)) message);
    }

-- ---- what a builder does

pub record IsBegins (pushed : List SegmentHead) (n : SegmentHead) (ys : List Held) (all : List SegmentValue) : Type 0 where
  pub each : AreBuilding pushed ys
  pub same : building pushed ys ≡ all ++ empty_of n ∷ []

pub begins : {A E : Type 0} (r : Result A E) (starts had pushed lent : List SegmentHead) (n : SegmentHead) (old ys : List Held) (all : List SegmentValue) → IsOk r → pushed ≡ (if is_ok r then had ++ n ∷ [] else had) → had ≡ starts → lent ≡ had
    → n.first ≡ length ys → AreLying lent ys → lying lent ys ≡ building lent old → building starts old ≡ all → IsBegins pushed n ys all
begins (Err e) starts had pushed lent n old ys all ok p h l first each same view = absurd (let z : ⊥ = cc in z)
begins (Ok x) starts had pushed lent n old ys all ok p h l first each same view =
    let is = opened lent n ys first each in
    let begun : pushed ≡ lent ++ n ∷ [] = p ∙ ap (λ (ss : List SegmentHead). ss ++ n ∷ []) (sym l) in
    record {
      each = subst (λ (ss : List SegmentHead). AreBuilding ss ys) (sym begun) is.each;
      same = ap (λ (ss : List SegmentHead). building ss ys) begun ∙ is.same ∙ ap (λ (vs : List SegmentValue). vs ++ empty_of n ∷ []) (same ∙ ap (λ (ss : List SegmentHead). building ss old) (l ∙ h) ∙ view);
    }

pub begun_is : (pushed : List SegmentHead) (n : SegmentHead) (ys : List Held) (all : List SegmentValue) → IsBegins pushed n ys all → IsBegun (all ++ empty_of n ∷ []) → IsBuilding pushed ys
begun_is pushed n ys all is begun = record { each = is.each; begun = subst (λ (vs : List SegmentValue). IsBegun vs) (sym is.same) begun }

pub puts : {A E : Type 0} (r : Result A E) (starts : List SegmentHead) (h : Held) (xs ys : List Held) (all : List SegmentValue) → building starts xs ≡ all → MayPut (numbers h.place) h.text all
    → OnOk r (ys ≡ xs ++ h ∷ []) → OnErr r (ys ≡ xs) → IsBuilding starts xs → IsBuilding starts ys
puts (Err e) starts h xs ys all view may ok err is = subst (λ (hs : List Held). IsBuilding starts hs) (sym err) is
puts (Ok x) starts h xs ys all view may ok err is =
    let may_here = subst (λ (vs : List SegmentValue). MayPut (numbers h.place) h.text vs) (sym view) may in
    let after = put starts h xs ys ok may_here is.each in
    record { each = after.each; begun = subst (λ (vs : List SegmentValue). IsBegun vs) (sym after.same) (begun_put (numbers h.place) h.text (building starts xs) may_here is.begun) }

pub puts_last : {A E : Type 0} (r : Result A E) (starts : List SegmentHead) (h : Held) (xs ys : List Held) (all : List SegmentValue) → building starts xs ≡ all → MayPut (numbers h.place) h.text all
    → OnOk r (ys ≡ xs ++ h ∷ []) → IsBuilding starts xs → OnOk r (building starts ys ≡ with_last (change h) all)
puts_last (Err e) starts h xs ys all view may ok is = tt
puts_last (Ok x) starts h xs ys all view may ok is =
    (put starts h xs ys ok (subst (λ (vs : List SegmentValue). MayPut (numbers h.place) h.text vs) (sym view) may) is.each).same ∙ ap (λ (vs : List SegmentValue). with_last (change h) vs) view

-- ---- segments that are compared one by one

pub same_more : (xs ys : List SegmentValue) (i : ℕ) (x y : SegmentValue) → i < length xs → length xs ≡ length ys → slice_get xs i ≡ Some x → slice_get ys i ≡ Some y → x ≡ y → (drop i xs ≡ drop i ys → xs ≡ ys) → drop (i + 1) xs ≡ drop (i + 1) ys → xs ≡ ys
same_more xs ys i x y lt long hx hy e rest more =
    let dx : drop i xs ≡ x ∷ drop (i + 1) xs = drop_more xs i x lt ∙ ap (λ (v : SegmentValue). v ∷ drop (i + 1) xs) (get_or_from_slice_get xs i x x hx) in
    let dy : drop i ys ≡ y ∷ drop (i + 1) ys = drop_more ys i y (omega (arith, lt, long)) ∙ ap (λ (v : SegmentValue). v ∷ drop (i + 1) ys) (get_or_from_slice_get ys i y y hy) in
    rest (dx ∙ ap (λ (v : SegmentValue). v ∷ drop (i + 1) xs) e ∙ ap (λ (vs : List SegmentValue). y ∷ vs) more ∙ sym dy)
