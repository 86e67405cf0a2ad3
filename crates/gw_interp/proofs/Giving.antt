-- Parts that are given one after the other.
use Rattle.std.proofs.Common.{get_or, ◌≡◌, ℕ, ◌+◌, ◌<◌, List, [], ◌∷◌, ◌++◌, refl, sym, ap, ◌∙◌, length, map, drop, subst, append-nil, append_assoc}
use Rattle.std.specs.Prelude.{flat_map}
use Rattle.std.specs.List.{AllByRecursion}
use Rattle.std.proofs.lemmas.List.{map-append, drop_more}
use Rattle.gw_er7.specs.Message.{SegmentValue}
use Rattle.gw_er7.specs.Building.{IsBegun}
use Rattle.gw_interp.specs.Occurrences.{Occurrence}
use Rattle.gw_interp.specs.Meaning.{ForEach}
use Rattle.gw_interp.specs.own.Ready.{IsOtherName, AreNames, MayBegin, Adds}
use Rattle.gw_interp.proofs.Trees.{all_left, all_right}
use Rattle.gw_interp.proofs.Naming.{names_each}
use Rattle.gw_interp.proofs.Borrowing.{flat_two}

abbrev pub names_of : List SegmentValue → List (List ℕ)
names_of = map (λ (s : SegmentValue). s.name)

-- a part of what is to be given stands behind the old segments; what is left to give completes it
pub record IsPartDone (Whole Rest : List SegmentValue → Type 0) (names rest : List (List ℕ)) (old now : List SegmentValue) : Type 0 where
  pub list : List SegmentValue
  pub joined : now ≡ old ++ list
  pub names_are : names ≡ names_of list ++ rest
  pub completes : (back : List SegmentValue) → Rest back → Whole (list ++ back)
  pub lawful : IsBegun now

pub none_done : (Whole : List SegmentValue → Type 0) (names : List (List ℕ)) (old : List SegmentValue) → IsBegun old → IsPartDone Whole Whole names names old old
none_done Whole names old lawful = record { list = []; joined = sym (append-nil old); names_are = refl; completes = λ back h. h; lawful = lawful }

pub more_done : (Whole Rest Next Part : List SegmentValue → Type 0) (names rest part next : List (List ℕ)) (old now new : List SegmentValue) →
    IsPartDone Whole Rest names rest old now → ((list back : List SegmentValue) → Part list → Next back → Rest (list ++ back)) → ((list : List SegmentValue) → Part list → names_of list ≡ part) → rest ≡ part ++ next →
    Adds Part now new → IsBegun new → IsPartDone Whole Next names next old new
more_done Whole Rest Next Part names rest part next old now new d so named split a lawful =
    record {
      list = d.list ++ a.list;
      joined = a.joined ∙ ap (λ l. l ++ a.list) d.joined ∙ append_assoc old d.list a.list;
      names_are =
          d.names_are ∙ ap (λ r. names_of d.list ++ r) (split ∙ ap (λ p. p ++ next) (sym (named a.list a.holds)))
          ∙ sym (append_assoc (names_of d.list) (names_of a.list) next)
          ∙ ap (λ l. l ++ next) (sym (map-append (λ (s : SegmentValue). s.name) d.list a.list));
      completes = λ back h. subst Whole (sym (append_assoc d.list a.list back)) (d.completes (a.list ++ back) (so a.list back a.holds h));
      lawful = lawful;
    }

pub all_done : (Whole Rest : List SegmentValue → Type 0) (names rest : List (List ℕ)) (old now : List SegmentValue) → IsPartDone Whole Rest names rest old now → Rest [] → Adds Whole old now
all_done Whole Rest names rest old now d h = record { list = d.list; joined = d.joined; holds = subst Whole (append-nil d.list) (d.completes [] h) }

-- ---- what is begun next

first_names : (a b : List (List ℕ)) → AreNames (a ++ b) → AreNames a
first_names [] b h = tt
first_names (n ∷ a) b h = (h.0, all_left IsOtherName a b h.1)

pub begins_next : (Whole Rest : List SegmentValue → Type 0) (names rest part next : List (List ℕ)) (old now : List SegmentValue) → IsPartDone Whole Rest names rest old now → rest ≡ part ++ next → MayBegin old names → MayBegin now part
begins_next Whole Rest names rest part next old now d split may =
    let same : names_of old ++ names ≡ (names_of now ++ part) ++ next =
    ap (λ n. names_of old ++ n) (d.names_are ∙ ap (λ r. names_of d.list ++ r) split)
    ∙ sym (append_assoc (names_of old) (names_of d.list) (part ++ next))
    ∙ ap (λ l. l ++ (part ++ next)) (sym (map-append (λ (s : SegmentValue). s.name) old d.list))
    ∙ ap (λ l. names_of l ++ (part ++ next)) (sym d.joined)
    ∙ sym (append_assoc (names_of now) part next) in
    first_names (names_of now ++ part) next (subst AreNames same may)

-- ---- for each of some occurrences

pub next_drop : {X : Type 0} (xs : List X) (n : ℕ) (x : X) → n < length xs → x ≡ get_or xs n x → drop n xs ≡ x ∷ drop (n + 1) xs
next_drop xs n x h is = drop_more xs n x h ∙ ap (λ y. y ∷ drop (n + 1) xs) (sym is)

each_joined : (P : Occurrence → List SegmentValue → Type 0) (os more : List Occurrence) (front back : List SegmentValue) → ForEach P os front → ForEach P more back → ForEach P (os ++ more) (front ++ back)
each_joined P [] more front back none h = subst (λ l. ForEach P more (l ++ back)) (sym none) h
each_joined P (o ∷ os) more front back c h =
    record { front = c.front; back = c.back ++ back; joined = ap (λ l. l ++ back) c.joined ∙ append_assoc c.front c.back back; here = c.here; there = each_joined P os more c.back back c.there h }

pub each_one : (P : Occurrence → List SegmentValue → Type 0) (o : Occurrence) (list : List SegmentValue) → P o list → ForEach P (o ∷ []) list
each_one P o list h = record { front = list; back = []; joined = sym (append-nil list); here = h; there = refl }

module _ (P : Occurrence → List SegmentValue → Type 0) (May : Occurrence → Type 0) (names : Occurrence → List (List ℕ)) where
  -- of all occurrences these are left; the others have what is given for them
  pub record IsWalkDone (all rest : List Occurrence) (old now : List SegmentValue) : Type 0 where
    pub done : IsPartDone (ForEach P all) (ForEach P rest) (flat_map names all) (flat_map names rest) old now
    pub may : AllByRecursion May rest

  pub none_walked : (all : List Occurrence) (old : List SegmentValue) → IsBegun old → AllByRecursion May all → IsWalkDone all all old old
  none_walked all old lawful may = record { done = none_done (ForEach P all) (flat_map names all) old lawful; may = may }

  pub next_begins : (all front rest : List Occurrence) (old now : List SegmentValue) → IsWalkDone all (front ++ rest) old now → MayBegin old (flat_map names all) → MayBegin now (flat_map names front)
  next_begins all front rest old now d may =
      begins_next (ForEach P all) (ForEach P (front ++ rest)) (flat_map names all) (flat_map names (front ++ rest)) (flat_map names front) (flat_map names rest) old now d.done (flat_two names front rest) may

  pub next_walked : ((o : Occurrence) (list : List SegmentValue) → P o list → names_of list ≡ names o) → (all front rest : List Occurrence) (old now new : List SegmentValue) → IsWalkDone all (front ++ rest) old now → Adds (ForEach P front) now new → IsBegun new → IsWalkDone all rest old new
  next_walked named all front rest old now new d a lawful =
      record {
        done = more_done (ForEach P all) (ForEach P (front ++ rest)) (ForEach P rest) (ForEach P front) (flat_map names all) (flat_map names (front ++ rest)) (flat_map names front) (flat_map names rest) old now new d.done
            (each_joined P front rest) (names_each P names named front) (flat_two names front rest) a lawful;
        may = all_right May front rest d.may;
      }

  pub all_walked : (all : List Occurrence) (old now : List SegmentValue) → IsWalkDone all [] old now → Adds (ForEach P all) old now
  all_walked all old now d = all_done _ _ _ _ old now d.done refl
