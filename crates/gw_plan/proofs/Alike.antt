-- Receivers of a plan and of a route.
use Rattle.std.proofs.Common.{◌≡◌, ◌↔◌, ◌∙◌, ℕ, Bool, IsTrue, List, [], ◌∷◌, map, Some, slice_get, refl, sym, ap}
use Rattle.std.specs.Option.{option_map}
use Rattle.std.proofs.lemmas.Option.{slice_get-map}
use Rattle.std.specs.List.{AllZip}
use Rattle.gw_er7.proofs.Sames.{zip_maps}
use Rattle.gw_plan.specs.declared.plan.Receiver.{Receiver}
use Rattle.gw_plan.specs.Shapes.{ReceiverValue}
use Rattle.gw_plan.specs.Seen.{receiver_value}

pub receivers_same : (xs ys zs ws : List Receiver) (vs us : List ReceiverValue) (r : Bool) → vs ≡ map receiver_value xs → us ≡ map receiver_value ys → zs ≡ xs → ws ≡ ys → IsTrue r ↔ AllZip (λ a b. receiver_value a ≡ receiver_value b) zs ws → IsTrue r ↔ (vs ≡ us)
receivers_same xs ys zs ws vs us r a b u v h =
    let z = zip_maps receiver_value zs ws in
    let f : List Receiver → List ReceiverValue = map receiver_value in
    (λ k. a ∙ sym (ap f u) ∙ z.0 (h.0 k) ∙ ap f v ∙ sym b, λ e. h.1 (z.1 (ap f u ∙ sym a ∙ e ∙ b ∙ sym (ap f v))))

-- the number of the leg at a place
pub number_at : {A B : Type 0} (f : A → B) (es : List (ℕ × A)) (legs : List (ℕ × B)) (i n : ℕ) (v : A) → legs ≡ map (λ l. (l.0, f l.1)) es → Some (n, v) ≡ slice_get es i → slice_get (map (λ l. l.0) legs) i ≡ Some n
number_at {A} {B} f es legs i n v e at =
    let g : ℕ × A → ℕ × B = λ l. (l.0, f l.1) in
    let h : ℕ × B → ℕ = λ l. l.0 in
    slice_get-map h legs i ∙ ap (λ ls. option_map h (slice_get ls i)) e ∙ ap (option_map h) (slice_get-map g es i) ∙ ap (λ o. option_map h (option_map g o)) (sym at)

-- the numbers of all legs
pub numbers_are : {A B : Type 0} (f : A → B) (es : List (ℕ × A)) → map (λ (l : ℕ × B). l.0) (map (λ (l : ℕ × A). (l.0, f l.1)) es) ≡ map (λ (l : ℕ × A). l.0) es
numbers_are f [] = refl
numbers_are f (e ∷ es) = ap (λ l. e.0 ∷ l) (numbers_are f es)
