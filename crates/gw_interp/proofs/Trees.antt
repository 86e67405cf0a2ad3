-- The tree of a message that conforms, as occurrences.
use Rattle.std.proofs.Common.{◌≡◌, ℕ, List, [], ◌∷◌, ◌++◌, map}
use Rattle.std.specs.List.{AllByRecursion}
use Rattle.gw_er7.specs.Message.{SegmentValue}
use Rattle.gw_profile.specs.Shapes as shapes
use Rattle.gw_profile.specs.Shapes.{FieldValue, Forest, ProfileValue, nothing, segment, group}
use Rattle.gw_validate.specs.Breaches.{Meets}
use Rattle.gw_validate.specs.Conforming.{named, segment_at}
use Rattle.gw_validate.specs.Trees.{Tree, leaf, segments, groups, Trees, no_trees, trees, IsTree, AreTrees, assigned, assigned_all, AllMeet}
use Rattle.gw_interp.proofs.Walks.{IsSegmentOf, IsLevel, AreLevels}

pub all_left : {X : Type 0} (P : X → Type 0) (xs ys : List X) → AllByRecursion P (xs ++ ys) → AllByRecursion P xs
all_left P [] ys h = tt
all_left P (x ∷ xs) ys h = (h.0, all_left P xs ys h.1)

pub all_right : {X : Type 0} (P : X → Type 0) (xs ys : List X) → AllByRecursion P (xs ++ ys) → AllByRecursion P ys
all_right P [] ys h = h
all_right P (x ∷ xs) ys h = all_right P xs ys h.1

module _ (profile : ProfileValue) (m : List SegmentValue) where
  abbrev MeetsAt : List FieldValue → ℕ → Type 0
  MeetsAt shape i = Meets profile shape (segment_at m i).at

  segments_of : (s : shapes.SegmentValue) (ns : List ℕ) → AllByRecursion (λ i. named m i ≡ s.name) ns → AllMeet MeetsAt (map (λ i. (i, s.fields)) ns) → AllByRecursion (IsSegmentOf profile m s.name s.fields) ns
  segments_of s [] h k = tt
  segments_of s (n ∷ ns) h k = (record { name_is = h.0; meets = k.0 }, segments_of s ns h.1 k.1)

  mutual
    pub is_level : (t : Tree) (f : Forest) (list : List ℕ) → IsTree (named m) t f list → AllMeet MeetsAt (assigned t f) → IsLevel profile m t f
    is_level leaf nothing list h k = tt
    is_level leaf (segment s rest) list h k = absurd h
    is_level leaf (group g inner rest) list h k = absurd h
    is_level (segments ns t) nothing list h k = absurd h
    is_level (segments ns t) (segment s rest) list h k =
        (h.0, h.1, segments_of s ns h.2 (all_left _ (map (λ i. (i, s.fields)) ns) (assigned t rest) k), is_level t rest h.3.back h.3.there (all_right _ (map (λ i. (i, s.fields)) ns) (assigned t rest) k))
    is_level (segments ns t) (group g inner rest) list h k = absurd h
    is_level (groups ts t) nothing list h k = absurd h
    is_level (groups ts t) (segment s rest) list h k = absurd h
    is_level (groups ts t) (group g inner rest) list h k =
        (h.0, h.1, are_levels ts inner h.2.front h.2.here (all_left _ (assigned_all ts inner) (assigned t rest) k), is_level t rest h.2.back h.2.there (all_right _ (assigned_all ts inner) (assigned t rest) k))

    are_levels : (ts : Trees) (inner : Forest) (list : List ℕ) → AreTrees (named m) ts inner list → AllMeet MeetsAt (assigned_all ts inner) → AreLevels profile m ts inner
    are_levels no_trees inner list h k = tt
    are_levels (trees t ts) inner list h k =
        (is_level t inner h.front h.here (all_left _ (assigned t inner) (assigned_all ts inner) k), are_levels ts inner h.back h.there (all_right _ (assigned t inner) (assigned_all ts inner) k))
