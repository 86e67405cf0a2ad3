use Rattle.std.proofs.Common.{rules, of_calls}
use Rattle.std.proofs.lemmas.Fn.{always_returns_same}
use Rattle.gw_diagnostics.specs.Order.{place_of}
use Rattle.gw_diagnostics.proofs.advice.Refusal.in_order.Goals as goal

-- each call of the closure gives the failure's place
pub returns : goal.returns
returns c =
    let places = always_returns_same _ _ _ (λ a r f k. search (rules, of_calls)) in
    record {
      each = search rules;
      rises = c.in_ok-sort_by_key.ensures.sorted place_of places;
      stays = search (rules, c.in_ok-sort_by_key.ensures.stable place_of places);
    }
