-- Failures found one list after the other.
use Rattle.std.proofs.Common.{◌≡◌, ℕ, suc, Bool, true, false, ◌+◌, ◌-◌, ◌<◌, add-one, List, [], ◌∷◌, ◌++◌, map, flat_map, take, drop, drop-cons, get_or, length, refl, sym, ap, ◌∙◌, ◌==◌, arith}
use Rattle.std.proofs.lemmas.List.{append-nil, append_assoc, length-append, length-map}
use Rattle.std.proofs.lemmas.Bool.{eqb-true}
use Rattle.std.proofs.lemmas.Bool.Decides.{nat_tests}
use Rattle.gw_maplang.specs.declared.item.FromItem.{FromItem}
use Rattle.gw_maplang.specs.declared.rule.Rule.{Rule}
use Rattle.gw_maplang.specs.declared.item.Item.{Item, SegFrom}
use Rattle.gw_maplang.specs.Shapes.{Walk, Items, nothing}
use Rattle.gw_maplang.specs.Seen.{path, field_condition_some, with_item, all_items, rule}
use Rattle.gw_resolve.specs.Places.{Element, within}
use Rattle.gw_resolve.specs.Failures.{Failure, where_so, or_later}
use Rattle.gw_resolve.specs.declared.failure.Failure as declared
use Rattle.gw_resolve.specs.Outcome.{Hides}
use Rattle.gw_resolve.specs.Seen.{failure, failures}
use Rattle.gw_resolve.specs.Naming.{but_last, place_of, place_or, walk_failures, segments_failures, has_place, ends_at_segment, condition_failures, rule_failures, path_failures}

-- one more, and those behind it
pub added_one : {A : Type 0} (old new a b whole : List A) → whole ≡ a ++ b → new ≡ old ++ a → old ++ whole ≡ new ++ b
added_one old new a b whole e made = ap (λ l. old ++ l) e ∙ sym (append_assoc old a b) ∙ ap (λ l. l ++ b) (sym made)

-- one element of a list, and those behind it
pub front : {A : Type 0} (xs : List A) (i : ℕ) (x : A) → i < length xs → x ≡ get_or xs i x → drop i xs ≡ x ∷ drop (i + 1) xs
front xs i x m e = drop-cons xs i x m ∙ ap (λ z. z ∷ drop (suc i) xs) (sym e) ∙ ap (λ (k : ℕ). x ∷ drop k xs) (sym (add-one i))

-- ---- steps but the last

pub all_but_last : (xs : List ℕ) → take (length xs - 1) xs ≡ but_last xs
all_but_last [] = refl
all_but_last (x ∷ []) = refl
all_but_last (x ∷ y ∷ xs) =
    let one : length (x ∷ y ∷ xs) - 1 ≡ suc (length (y ∷ xs) - 1) = omega arith in
    ap (λ n. take n (x ∷ y ∷ xs)) one ∙ ap (λ l. x ∷ l) (all_but_last (y ∷ xs))

-- ---- items

-- an item, and those behind it
pub one_item : (scope : List Element) (x : Item) (rest : Items) → path_failures scope (with_item x rest) ≡ path_failures scope (with_item x nothing) ++ path_failures scope rest
one_item scope (SegFrom s) rest = search (append_assoc)
one_item scope x rest = search (append_assoc)

pub items_next : (scope : List Element) (xs : List Item) (i : ℕ) (x : Item) (old new : List Failure) → i < length xs → x ≡ get_or xs i x → new ≡ old ++ path_failures scope (with_item x nothing) → old ++ path_failures scope (all_items (drop i xs)) ≡ new ++ path_failures scope (all_items (drop (i + 1) xs))
items_next scope xs i x old new m e made =
    added_one old new (path_failures scope (with_item x nothing)) (path_failures scope (all_items (drop (i + 1) xs))) (path_failures scope (all_items (drop i xs)))
    (ap (λ l. path_failures scope (all_items l)) (front xs i x m e) ∙ one_item scope x (all_items (drop (i + 1) xs))) made

-- two lists found one after the other
pub noted_twice : {A : Type 0} (old mid new a b : List A) → mid ≡ old ++ a → new ≡ mid ++ b → new ≡ old ++ (a ++ b)
noted_twice old mid new a b h k = k ∙ ap (λ l. l ++ b) h ∙ append_assoc old a b

-- ---- what hides the later ones

pub as_many : (xs : List declared.Failure) (own : List Failure) (n : ℕ) → n ≡ length xs → failures xs ≡ own → length own ≡ n
as_many xs own n e made = ap length (sym made) ∙ length-map xs failure ∙ sym e

-- behind the first ones some of its own, and the later ones where they are shown
pub hidden : (first own later whole : List Failure) (kept : ℕ) (new last : List declared.Failure) (shown : Bool) → length (first ++ own) ≡ kept → failures new ≡ (first ++ own) ++ later → Hides new last shown kept → own ++ where_so shown later ≡ whole → failures last ≡ first ++ whole
hidden first own later whole kept new last shown many there hides e = hides (first ++ own) later many there ∙ append_assoc first own (where_so shown later) ∙ ap (λ l. first ++ l) e

-- the later ones are shown where it has none of its own
none_own : (first own later : List Failure) (before kept : ℕ) → length first ≡ before → length (first ++ own) ≡ kept → own ++ where_so (kept == before) later ≡ or_later own later
none_own first [] later before kept a b =
    let same : length (first ++ []) ≡ length first = ap length (append-nil first) in
    let here : (kept == before) ≡ true = grind (arith, nat_tests) in
    ap (λ so. where_so so later) here
none_own first (o ∷ own) later before kept a b =
    let more : length (first ++ o ∷ own) ≡ length first + length (o ∷ own) = length-append first (o ∷ own) in
    let other : (kept == before) ≡ false = grind (arith, nat_tests) in
    ap (λ so. (o ∷ own) ++ where_so so later) other ∙ append-nil (o ∷ own)

pub later_hidden : (first own later whole : List Failure) (before kept : ℕ) (old mid new last : List declared.Failure) → failures old ≡ first → before ≡ length old → kept ≡ length mid → failures mid ≡ first ++ own → failures new ≡ failures mid ++ later
    → Hides new last (kept == before) kept → or_later own later ≡ whole → failures last ≡ first ++ whole
later_hidden first own later whole before kept old mid new last all few many here there hides e =
    let most = as_many mid (first ++ own) kept many here in
    hidden first own later whole kept new last (kept == before) most (there ∙ ap (λ l. l ++ later) here) hides (none_own first own later before kept (as_many old first before few all) most ∙ e)

pub empty : {A : Type 0} (l k : List A) → k ≡ l → (length k == 0) ≡ true → l ≡ []
empty [] k same e = refl
empty (f ∷ fs) k same e = absurd (omega (arith, eqb-true (length k) 0 e, ap length same))

-- those of paths, of what is left out, and of targets
pub named_all : (found p0 paths more t0 targets p d t : List Failure) → found ≡ more ++ targets → p0 ≡ [] → t0 ≡ [] → paths ≡ p0 ++ p → more ≡ paths ++ d → targets ≡ t0 ++ t → found ≡ p ++ d ++ t
named_all found p0 paths more t0 targets p d t a b e f g h =
    let there : more ≡ p ++ d = g ∙ ap (λ l. l ++ d) (f ∙ ap (λ l. l ++ p) b) in
    let behind : targets ≡ t = h ∙ ap (λ l. l ++ t) e in
    a ∙ (λ i. there i ++ behind i)

-- ---- the failures of one item

-- of a segment for each that is walked
pub from_paths : (scope inner : List Element) (s : FromItem) (leads : Bool) (rules : List Rule)
    → leads ≡ ends_at_segment scope (place_of scope (path s.walk.path)) → inner ≡ within scope (place_or scope (path s.walk.path)) → rules ≡ s.rules.items
    → segments_failures scope s.line (path s.walk.path) ++ where_so leads (condition_failures (within scope (place_or scope (path s.walk.path))) s.line (field_condition_some s.walk.condition) ++ flat_map (rule_failures inner) (map rule rules)) ≡ path_failures scope (with_item (SegFrom s) nothing)
from_paths scope inner s leads rules a b c =
    (λ i. segments_failures scope s.line (path s.walk.path) ++ where_so (a i) (condition_failures (within scope (place_or scope (path s.walk.path))) s.line (field_condition_some s.walk.condition) ++ flat_map (rule_failures (b i)) (map rule (c i))))
    ∙ sym (append-nil _)

-- of what is walked, and of its condition and the items within
pub walked_paths : (scope inner : List Element) (line : ℕ) (w : Walk) (x : Item) (leads : Bool) (items all : List Item)
    → path_failures scope (with_item x nothing) ≡ walk_failures scope line w.path ++ where_so (has_place (place_of scope w.path)) (condition_failures (within scope (place_or scope w.path)) line w.condition ++ path_failures (within scope (place_or scope w.path)) (all_items all)) ++ []
    → leads ≡ has_place (place_of scope w.path) → inner ≡ within scope (place_or scope w.path) → items ≡ all
    → walk_failures scope line w.path ++ where_so leads (condition_failures (within scope (place_or scope w.path)) line w.condition ++ path_failures inner (all_items items)) ≡ path_failures scope (with_item x nothing)
walked_paths scope inner line w x leads items all is a b c =
    (λ i. walk_failures scope line w.path ++ where_so (a i) (condition_failures (within scope (place_or scope w.path)) line w.condition ++ path_failures (b i) (all_items (c i))))
    ∙ sym (append-nil _) ∙ sym is

-- of rules alone
pub rules_paths : (first : List Failure) (scope : List Element) (theirs whole : List Rule) (new : List Failure) → theirs ≡ whole → new ≡ first ++ flat_map (rule_failures scope) (map rule theirs) → new ≡ first ++ (flat_map (rule_failures scope) (map rule whole) ++ [])
rules_paths first scope theirs whole new e made =
    made ∙ ap (λ l. first ++ l) (ap (λ l. flat_map (rule_failures scope) (map rule l)) e ∙ sym (append-nil (flat_map (rule_failures scope) (map rule whole))))
