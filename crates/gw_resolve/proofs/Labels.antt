-- The labels of items.
use Rattle.std.proofs.Common.{◌≡◌, ℕ, ◌+◌, ◌<◌, Bool, true, false, List, [], ◌∷◌, ◌++◌, drop, get_or, length, slice_get, Option, Some, None, Bor, refl, sym, ap, ◌∙◌}
use Rattle.std.specs.Prelude.{◌&&◌, is_some}
use Rattle.std.specs.List.{list_all}
use Rattle.std.proofs.lemmas.List.{append-nil}
use Rattle.std.proofs.lemmas.List.Folds.{list_all-append}
use Rattle.gw_maplang.specs.declared.item.FlatItem.{FlatItem}
use Rattle.gw_maplang.specs.declared.item.Item.{Item, EachFlat, EachFlat'}
use Rattle.gw_maplang.specs.Shapes.{Items, nothing}
use Rattle.gw_maplang.specs.Seen.{now, with_item, row_items, all_items}
use Rattle.gw_maplang.proofs.Rows.{flat_items}
use Rattle.gw_resolve.specs.Naming.{labels}
use Rattle.gw_resolve.proofs.Noting.{front}

pub item_labels : (x : Item) (rest : Items) → labels (with_item x rest) ≡ labels (with_item x nothing) ++ labels rest
item_labels (EachFlat' line from shape row) rest = ap (λ l. l ++ labels rest) (sym (append-nil (labels (row_items row))))
item_labels x rest = refl

pub flat_labels : (item : Item) (f : FlatItem) (items : List Item) → item ≡ EachFlat f → items ≡ f.items.items → labels (all_items items) ≡ labels (with_item item nothing)
flat_labels item f items is e =
    ap (λ l. labels (all_items l)) e ∙ sym (append-nil (labels (all_items f.items.items))) ∙ sym (ap labels (ap (λ x. with_item x nothing) is ∙ flat_items f nothing))

labels_front : (xs : List Item) (i : ℕ) (x : Item) → i < length xs → x ≡ get_or xs i x → labels (all_items (drop i xs)) ≡ labels (with_item x nothing) ++ labels (all_items (drop (i + 1) xs))
labels_front xs i x m e = ap (λ l. labels (all_items l)) (front xs i x m e) ∙ item_labels x (all_items (drop (i + 1) xs))

-- ---- the first

there : {A : Type 0} (o : Option A) (a b : List A) → is_some o ≡ true → o ≡ slice_get a 0 → o ≡ slice_get (a ++ b) 0
there o [] b some e = absurd (let n : false ≡ true = ap is_some (sym e) ∙ some in cc)
there o (x ∷ a) b some e = e

missing : {A : Type 0} (o : Option A) (a b : List A) → is_some o ≡ false → o ≡ slice_get a 0 → slice_get (a ++ b) 0 ≡ slice_get b 0
missing o [] b none e = refl
missing o (x ∷ a) b none e = absurd (let n : true ≡ false = ap is_some (sym e) ∙ none in cc)

some_now : (o : Option (Bor (List ℕ))) → is_some (now o) ≡ is_some o
some_now None = refl
some_now (Some x) = refl

pub first_there : (o : Option (Bor (List ℕ))) (whole : List (List ℕ)) (xs : List Item) (i : ℕ) (x : Item) → true ≡ is_some o → i < length xs → x ≡ get_or xs i x
    → slice_get whole 0 ≡ slice_get (labels (all_items (drop i xs))) 0 → now o ≡ slice_get (labels (with_item x nothing)) 0 → now o ≡ slice_get whole 0
first_there o whole xs i x some m is so_far e =
    there (now o) (labels (with_item x nothing)) (labels (all_items (drop (i + 1) xs))) (some_now o ∙ sym some) e ∙ sym (so_far ∙ ap (λ l. slice_get l 0) (labels_front xs i x m is))

pub first_missing : (o : Option (Bor (List ℕ))) (whole : List (List ℕ)) (xs : List Item) (i : ℕ) (x : Item) → false ≡ is_some o → i < length xs → x ≡ get_or xs i x
    → slice_get whole 0 ≡ slice_get (labels (all_items (drop i xs))) 0 → now o ≡ slice_get (labels (with_item x nothing)) 0 → slice_get whole 0 ≡ slice_get (labels (all_items (drop (i + 1) xs))) 0
first_missing o whole xs i x none m is so_far e =
    so_far ∙ ap (λ l. slice_get l 0) (labels_front xs i x m is) ∙ missing (now o) (labels (with_item x nothing)) (labels (all_items (drop (i + 1) xs))) (some_now o ∙ sym none) e

-- ---- all

all_front : (test : List ℕ → Bool) (xs : List Item) (i : ℕ) (x : Item) (here : Bool) → here ≡ list_all test (labels (with_item x nothing)) → i < length xs → x ≡ get_or xs i x
    → list_all test (labels (all_items (drop i xs))) ≡ (here && list_all test (labels (all_items (drop (i + 1) xs))))
all_front test xs i x here e m is =
    let rest = labels (all_items (drop (i + 1) xs)) in
    ap (list_all test) (labels_front xs i x m is) ∙ list_all-append test (labels (with_item x nothing)) rest ∙ ap (λ t. t && list_all test rest) (sym e)

pub one_other : (test : List ℕ → Bool) (whole : Bool) (xs : List Item) (i : ℕ) (x : Item) → false ≡ list_all test (labels (with_item x nothing)) → i < length xs → x ≡ get_or xs i x → whole ≡ list_all test (labels (all_items (drop i xs))) → false ≡ whole
one_other test whole xs i x here m is so_far = sym (so_far ∙ all_front test xs i x false here m is)

pub one_more : (test : List ℕ → Bool) (whole : Bool) (xs : List Item) (i : ℕ) (x : Item) → true ≡ list_all test (labels (with_item x nothing)) → i < length xs → x ≡ get_or xs i x → whole ≡ list_all test (labels (all_items (drop i xs)))
    → whole ≡ list_all test (labels (all_items (drop (i + 1) xs)))
one_more test whole xs i x here m is so_far = so_far ∙ all_front test xs i x true here m is
