-- What the program finds at a place.
use Rattle.std.proofs.Common.{◌≡◌, ℕ, zero, suc, List, [], ◌∷◌, Option, Some, None, refl, ap, ◌∙◌, slice_get}
use Rattle.std.specs.Prelude.{option_map}
use Rattle.gw_resolve.specs.Intervals.{Interval, of_card, product}
use Rattle.gw_resolve.specs.Places.{Element, nodes_of, Found, child, card_of, times, node_found, found_below, found_in, element_of}
use Rattle.gw_resolve.specs.Seen.{saturated, saturated_found}
use Rattle.gw_resolve.proofs.Saturation.{product_saturated}

-- below an element, where one is
abbrev pub at_element : Option Element → List ℕ → Option Found
at_element None steps = None
at_element (Some e) steps = found_below steps e

abbrev found_of : Element → Interval → Option Found
found_of e c = Some (record { element = e; count = c })

-- so many times as the element comes
pub times_found : (e x : Element) (n a r : Interval) (f : Option Found) → found_of x n ≡ saturated_found f → a ≡ saturated (of_card (card_of e)) → r ≡ saturated (product a n) → found_of x r ≡ saturated_found (times (card_of e) f)
times_found e x n a r None there comes made = absurd (cc)
times_found e x n a r (Some g) there comes made =
    ap (found_of x) (made ∙ ap (λ c. saturated (product c n)) comes)
    ∙ ap (option_map (λ (f : Found). record { element = f.element; count = saturated (product (saturated (of_card (card_of e))) f.count) })) there
    ∙ ap (found_of g.element) (product_saturated (of_card (card_of e)) g.count)

-- below an element
pub below_there : (steps : List ℕ) (e next : Element) (i : ℕ) → child (nodes_of e) i ≡ Some next → found_below (i ∷ steps) e ≡ times (card_of next) (found_below steps next)
below_there steps e next i there = ap (λ c. node_found c (found_below steps)) there

pub in_scope : (es : List Element) (out : ℕ) (steps : List ℕ) → found_in es out steps ≡ at_element (slice_get es out) steps
in_scope [] out steps = refl
in_scope (e ∷ es) zero steps = refl
in_scope (e ∷ es) (suc out) steps = in_scope es out steps

-- the element that was found, however often it is there
pub same_element : (f : Option Found) → element_of (saturated_found f) ≡ element_of f
same_element None = refl
same_element (Some f) = refl
