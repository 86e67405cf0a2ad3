-- How many occurrences a path leads to, and of what.
use Rattle.std.proofs.Common.{◌≡◌, ℕ, zero, suc, ◌*◌, ◌≤◌, List, [], ◌∷◌, ◌++◌, Option, Some, None, refl, sym, ap, ◌∙◌, subst, arith, length, length-append, map}
use Rattle.std.specs.Prelude.{flat_map}
use Rattle.std.proofs.lemmas.List.{append-nil}
use Rattle.std.proofs.Math.Nat.{mul-le-mul_right}
use Rattle.std.specs.List.{AllByRecursion}
use Rattle.gw_er7.specs.Message.{SegmentValue}
use Rattle.gw_profile.specs.declared.shape.Card.{Card}
use Rattle.gw_profile.specs.Shapes.{FieldValue, Forest, ProfileValue, nothing, segment, group}
use Rattle.gw_profile.specs.Deterministic.{AtMost}
use Rattle.gw_validate.specs.Trees.{Tree, leaf, segments, groups, Trees, no_trees, trees, count_of}
use Rattle.gw_resolve.specs.Intervals.{Interval, of_card, multiply, product}
use Rattle.gw_resolve.specs.Places as elements
use Rattle.gw_resolve.specs.Places.{Element, child, Place, Found, times, node_found, found_below, found_in, found}
use Rattle.gw_interp.specs.Occurrences.{Occurrence, a_segment, nodes, list_of, level_at, below, in_scope, at_place}
use Rattle.gw_interp.proofs.Walks.{IsSegmentOf, IsLevel, AreLevels, IsOccurrence, InScope}

pub all_append : {X : Type 0} (P : X → Type 0) (xs ys : List X) → AllByRecursion P xs → AllByRecursion P ys → AllByRecursion P (xs ++ ys)
all_append P [] ys h k = k
all_append P (x ∷ xs) ys h k = (h.0, all_append P xs ys h.1 k)

module _ (profile : ProfileValue) (m : List SegmentValue) where
  -- so many occurrences of an element
  pub record Several (e : Element) (c : Interval) (os : List Occurrence) : Type 0 where
    pub enough : c.least ≤ length os
    pub few : AtMost c.greatest (length os)
    pub each : AllByRecursion (IsOccurrence profile m e) os

  module _ (e f : Element) (c : Interval) (g : Occurrence → List Occurrence) (each : (o : Occurrence) → IsOccurrence profile m e o → Several f c (g o)) where
    flat_enough : (os : List Occurrence) → AllByRecursion (IsOccurrence profile m e) os → length os * c.least ≤ length (flat_map g os)
    flat_enough [] h = omega arith
    flat_enough (o ∷ os) h =
        omega (arith, flat_enough os h.1, (each o h.0).enough, length-append (g o) (flat_map g os))

    flat_each : (os : List Occurrence) → AllByRecursion (IsOccurrence profile m e) os → AllByRecursion (IsOccurrence profile m f) (flat_map g os)
    flat_each [] h = tt
    flat_each (o ∷ os) h = all_append _ (g o) (flat_map g os) (each o h.0).each (flat_each os h.1)

    flat_few : (b : ℕ) → c.greatest ≡ Some b → (os : List Occurrence) → AllByRecursion (IsOccurrence profile m e) os → length (flat_map g os) ≤ length os * b
    flat_few b eq [] h = omega arith
    flat_few b eq (o ∷ os) h =
        let one : length (g o) ≤ b = subst (λ k. AtMost k (length (g o))) eq (each o h.0).few in
        omega (arith, flat_few b eq os h.1, one, length-append (g o) (flat_map g os))

    flat_at_most : (high : Option ℕ) (os : List Occurrence) → AllByRecursion (IsOccurrence profile m e) os → AtMost high (length os) → (k : Option ℕ) → c.greatest ≡ k → AtMost (multiply high k) (length (flat_map g os))
    flat_at_most (Some zero) [] h few k eq = omega arith
    flat_at_most (Some zero) (o ∷ os) h few k eq = absurd (omega arith)
    flat_at_most None os h few (Some zero) eq = omega (arith, flat_few 0 eq os h)
    flat_at_most None os h few (Some (suc b)) eq = tt
    flat_at_most None os h few None eq = tt
    flat_at_most (Some (suc a)) os h few None eq = tt
    flat_at_most (Some (suc a)) os h few (Some b) eq =
        let less : length os * b ≤ suc a * b = mul-le-mul_right b few in omega (arith, flat_few b eq os h, less)

    pub flat_several : (d : Interval) (os : List Occurrence) → Several e d os → Several f (product d c) (flat_map g os)
    flat_several d os s =
        let less : d.least * c.least ≤ length os * c.least = mul-le-mul_right c.least s.enough in
        record { enough = omega (arith, less, flat_enough os s.each); few = flat_at_most d.greatest os s.each s.few c.greatest refl; each = flat_each os s.each }

  flat_none : (g : Occurrence → List Occurrence) (e : Element) → ((o : Occurrence) → IsOccurrence profile m e o → g o ≡ []) → (os : List Occurrence) → AllByRecursion (IsOccurrence profile m e) os → flat_map g os ≡ []
  flat_none g e none [] h = refl
  flat_none g e none (o ∷ os) h = ap (λ l. l ++ flat_map g os) (none o h.0) ∙ flat_none g e none os h.1

  -- so many occurrences were found; none where nothing stands there
  abbrev pub Finds : Option Found → List Occurrence → Type 0
  Finds None os = os ≡ []
  Finds (Some f) os = Several f.element f.count os

  times_finds : (e : Element) (card : Card) (steps : List ℕ) → ((o : Occurrence) → IsOccurrence profile m e o → Finds (found_below steps e) (below steps o)) → (os : List Occurrence) → Several e (of_card card) os → Finds (times card (found_below steps e)) (flat_map (below steps) os)
  times_finds e card steps each os s = go (found_below steps e) each
    where
      go : (r : Option Found) → ((o : Occurrence) → IsOccurrence profile m e o → Finds r (below steps o)) → Finds (times card r) (flat_map (below steps) os)
      go None each = flat_none (below steps) e each os s.each
      go (Some f) each = flat_several e f.element f.count (below steps) each (of_card card) os s

  numbered : (e : Element) (name : List ℕ) (fields : List FieldValue) → ((i : ℕ) → IsSegmentOf profile m name fields i → IsOccurrence profile m e (a_segment i)) → (ns : List ℕ) → AllByRecursion (IsSegmentOf profile m name fields) ns → AllByRecursion (IsOccurrence profile m e) (map a_segment ns)
  numbered e name fields same [] h = tt
  numbered e name fields same (n ∷ ns) h = (same n h.0, numbered e name fields same ns h.1)

  length_numbers : (ns : List ℕ) → length (map a_segment ns) ≡ length ns
  length_numbers [] = refl
  length_numbers (n ∷ ns) = ap suc (length_numbers ns)

  length_trees : (ts : Trees) → length (list_of ts) ≡ count_of ts
  length_trees no_trees = refl
  length_trees (trees t ts) = ap suc (length_trees ts)

  listed : (e : Element) (inner : Forest) → ((t : Tree) → IsLevel profile m t inner → IsOccurrence profile m e (nodes t)) → (ts : Trees) → AreLevels profile m ts inner → AllByRecursion (IsOccurrence profile m e) (list_of ts)
  listed e inner same no_trees h = tt
  listed e inner same (trees t ts) h = (same t h.0, listed e inner same ts h.1)

  level_finds : (steps : List ℕ) → ((e : Element) (o : Occurrence) → IsOccurrence profile m e o → Finds (found_below steps e) (below steps o)) → (f : Forest) (t : Tree) (i : ℕ) → IsLevel profile m t f → Finds (node_found (child f i) (found_below steps)) (flat_map (below steps) (level_at t i))
  level_finds steps each nothing leaf i h = refl
  level_finds steps each nothing (segments ns t) i h = absurd h
  level_finds steps each nothing (groups ts t) i h = absurd h
  level_finds steps each (segment s rest) leaf i h = absurd h
  level_finds steps each (segment s rest) (groups ts t) i h = absurd h
  level_finds steps each (segment s rest) (segments ns t) zero h =
      times_finds (elements.a_segment s) s.card steps (each (elements.a_segment s)) (map a_segment ns)
      (record { enough = omega (arith, h.0, length_numbers ns); few = subst (AtMost s.card.max) (sym (length_numbers ns)) h.1; each = numbered (elements.a_segment s) s.name s.fields (λ i k. k) ns h.2 })
  level_finds steps each (segment s rest) (segments ns t) (suc i) h = level_finds steps each rest t i h.3
  level_finds steps each (group g inner rest) leaf i h = absurd h
  level_finds steps each (group g inner rest) (segments ns t) i h = absurd h
  level_finds steps each (group g inner rest) (groups ts t) zero h =
      times_finds (elements.a_group g inner) g.card steps (each (elements.a_group g inner)) (list_of ts)
      (record { enough = omega (arith, h.0, length_trees ts); few = subst (AtMost g.card.max) (sym (length_trees ts)) h.1; each = listed (elements.a_group g inner) inner (λ t k. k) ts h.2 })
  level_finds steps each (group g inner rest) (groups ts t) (suc i) h = level_finds steps each rest t i h.3

  below_finds : (steps : List ℕ) (e : Element) (o : Occurrence) → IsOccurrence profile m e o → Finds (found_below steps e) (below steps o)
  below_finds [] e o h = record { enough = omega arith; few = omega arith; each = (h, tt) }
  below_finds (i ∷ steps) (elements.a_segment s) (a_segment n) h = refl
  below_finds (i ∷ steps) (elements.a_segment s) (nodes t) h = absurd h
  below_finds (i ∷ steps) (elements.a_group g inner) (a_segment n) h = absurd h
  below_finds (i ∷ steps) (elements.a_group g inner) (nodes t) h = level_finds steps (below_finds steps) inner t i h
  below_finds (i ∷ steps) (elements.the_whole inner) (a_segment n) h = absurd h
  below_finds (i ∷ steps) (elements.the_whole inner) (nodes t) h = level_finds steps (below_finds steps) inner t i h

  scope_finds : (es : List Element) (os : List Occurrence) (out : ℕ) (steps : List ℕ) → InScope profile m es os → Finds (found_in es out steps) (flat_map (below steps) (in_scope os out))
  scope_finds [] [] out steps h = refl
  scope_finds [] (o ∷ os) out steps h = absurd h
  scope_finds (e ∷ es) [] out steps h = absurd h
  scope_finds (e ∷ es) (o ∷ os) zero steps h =
      subst (Finds (found_below steps e)) (sym (append-nil (below steps o))) (below_finds steps e o h.0)
  scope_finds (e ∷ es) (o ∷ os) (suc out) steps h = scope_finds es os out steps h.1

  pub place_finds : (es : List Element) (os : List Occurrence) (place : Place) → InScope profile m es os → Finds (found es place) (at_place os place)
  place_finds es os place h = scope_finds es os place.out place.steps h
