-- Receivers by their names.
use Rattle.std.proofs.Common.{◌≡◌, ℕ, ◌+◌, List, [], ◌∷◌, ◌++◌, map, Some, Bool, true, false, refl, sym, ap, ◌∙◌}
use Rattle.std.specs.Prelude.{bytes_eq, is_none, position, if◌then◌else◌}
use Rattle.std.specs.List.{position_from}
use Rattle.std.proofs.lemmas.Iterator.Adapters.{position_from-zero}
use Rattle.std.specs.Global.{Vec}
use Rattle.std.specs.Map.{keys_of}
use Rattle.indexmap.specs.IndexMap.{insert_entry}
use Rattle.gw_plan.specs.Draft.{is_receiver}
use Rattle.gw_plan.specs.Seen.{receiver_entry}

found_from : (name : List ℕ) (n : ℕ) (es : List (Vec ℕ × Vec ℕ)) → position_from (λ k. bytes_eq name k.items) n (keys_of es) ≡ position_from (is_receiver name) n (map receiver_entry es)
found_from name n [] = refl
found_from name n (e ∷ es) = ap (λ o. if bytes_eq name e.0.items then Some n else o) (found_from name (n + 1) es)

-- a receiver is found by its name
pub number_found : (name : List ℕ) (es : List (Vec ℕ × Vec ℕ)) → position (λ k. bytes_eq name k.items) (keys_of es) ≡ position (is_receiver name) (map receiver_entry es)
number_found name es = position_from-zero (λ (k : Vec ℕ). bytes_eq name k.items) (keys_of es) ∙ found_from name 0 es ∙ sym (position_from-zero (is_receiver name) (map receiver_entry es))

put_from : (n : ℕ) (es : List (Vec ℕ × Vec ℕ)) (name address : Vec ℕ) → is_none (position_from (is_receiver name.items) n (map receiver_entry es)) ≡ true
    → map receiver_entry (insert_entry (λ x y. bytes_eq x.items y.items) es name address) ≡ map receiver_entry es ++ record { name = name.items; address = address.items } ∷ []
put_from n [] name address new = refl
put_from n (e ∷ es) name address new = by (bytes_eq name.items e.0.items) new (put_from (n + 1) es name address)
  where
    by : (b : Bool) → is_none (if b then Some n else position_from (is_receiver name.items) (n + 1) (map receiver_entry es)) ≡ true
        → (is_none (position_from (is_receiver name.items) (n + 1) (map receiver_entry es)) ≡ true → map receiver_entry (insert_entry (λ x y. bytes_eq x.items y.items) es name address) ≡ map receiver_entry es ++ record { name = name.items; address = address.items } ∷ [])
        → map receiver_entry (if b then (e.0, address) ∷ es else e ∷ insert_entry (λ x y. bytes_eq x.items y.items) es name address) ≡ receiver_entry e ∷ (map receiver_entry es ++ record { name = name.items; address = address.items } ∷ [])
    by true n h = absurd (cc)
    by false n h = ap (λ l. receiver_entry e ∷ l) (h n)

-- a new receiver goes last
pub receiver_put : (es : List (Vec ℕ × Vec ℕ)) (name address : Vec ℕ) → is_none (position (is_receiver name.items) (map receiver_entry es)) ≡ true
    → map receiver_entry (insert_entry (λ x y. bytes_eq x.items y.items) es name address) ≡ map receiver_entry es ++ record { name = name.items; address = address.items } ∷ []
receiver_put es name address new = put_from 0 es name address (ap is_none (sym (position_from-zero (is_receiver name.items) (map receiver_entry es))) ∙ new)
