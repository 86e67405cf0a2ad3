-- Values that are found by their hash.
use Rattle.std.proofs.Common.{◌≡◌, ℕ, ◌+◌, ◌<◌, Bool, true, List, [], ◌∷◌, length, take, get_or, sym, ap, ◌∙◌, arith}
use Rattle.std.specs.Prelude.{◌||◌, bytes_eq}
use Rattle.std.specs.List.{list_any}
use Rattle.std.specs.Global.{Vec}
use Rattle.std.proofs.lemmas.List.Folds.{list_any-append, list_any_more}
use Rattle.std.proofs.lemmas.Slice.Eq.{bytes_eq-Decides}
use Rattle.indexmap.specs.IndexSet.{insert_key}
use Rattle.gw_profile.proofs.Kept.{among_map}
use Rattle.gw_maplang.specs.Seen.{items_all}
use Rattle.gw_maplang.specs.own.Finding.{AreFound, IsAdded}

module _ (text : List ℕ) (k : Vec ℕ) where
  there : (ks : List (Vec ℕ)) → list_any (λ (v : Vec ℕ). bytes_eq k.items v.items) ks ≡ true → bytes_eq text k.items ≡ true → list_any (λ (v : Vec ℕ). bytes_eq text v.items) ks ≡ true
  there [] h t = h
  there (x ∷ ks) h t = let same : bytes_eq k.items x.items ≡ true → bytes_eq text k.items ≡ bytes_eq text x.items = λ e. ap (bytes_eq text) ((bytes_eq-Decides k.items x.items).0 e) in let more = there ks in grind arith

  inserted : (ks : List (Vec ℕ)) → list_any (λ (v : Vec ℕ). bytes_eq text v.items) (insert_key (λ (a b : Vec ℕ). bytes_eq a.items b.items) ks k) ≡ (list_any (λ (v : Vec ℕ). bytes_eq text v.items) ks || bytes_eq text k.items)
  inserted ks = let found = there ks in let last = list_any-append (λ (v : Vec ℕ). bytes_eq text v.items) ks (k ∷ []) in grind arith

pub one_added : (k : Vec ℕ) (value : List ℕ) (old new : List (Vec ℕ)) → k.items ≡ value → new ≡ insert_key (λ (a b : Vec ℕ). bytes_eq a.items b.items) old k → IsAdded value (items_all old) (items_all new)
one_added k value old new is e text =
    sym (among_map (λ (v : Vec ℕ). v.items) text new)
    ∙ ap (list_any (λ (v : Vec ℕ). bytes_eq text v.items)) e
    ∙ inserted text k old
    ∙ (λ i. among_map (λ (v : Vec ℕ). v.items) text old i || bytes_eq text (is i))

-- one value more
pub found_more : (values : List (Vec ℕ)) (i : ℕ) (x : Vec ℕ) (old new : List (List ℕ)) → i < length values → x ≡ get_or values i x → IsAdded x.items old new
    → AreFound (items_all (take i values)) old → AreFound (items_all (take (i + 1) values)) new
found_more values i x old new low at adds h text =
    let test : Vec ℕ → Bool = λ v. bytes_eq text v.items in
    adds text
    ∙ ap (λ b. b || test x) (h text ∙ sym (among_map (λ (v : Vec ℕ). v.items) text (take i values)))
    ∙ ap (λ v. list_any test (take i values) || test v) at
    ∙ sym (list_any_more test values i x low)
    ∙ among_map (λ (v : Vec ℕ). v.items) text (take (i + 1) values)
