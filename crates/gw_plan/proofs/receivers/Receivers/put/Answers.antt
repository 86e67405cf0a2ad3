use Rattle.std.proofs.Common.{◌∙◌, ap, List, ℕ, [], ◌∷◌, ◌++◌, map}
use Rattle.std.specs.Prelude.{position, is_none}
use Rattle.gw_plan.specs.Shapes.{ReceiverValue}
use Rattle.gw_plan.specs.Draft.{is_receiver}
use Rattle.gw_plan.specs.Seen.{receiver_entry}
use Rattle.gw_plan.proofs.Receiving.{receiver_put}
use Rattle.gw_plan.proofs.receivers.Receivers.put.Goals as goal

pub returns : goal.returns
returns c =
    let fresh = ap (λ (k : List ℕ). is_none (position (is_receiver k) (map receiver_entry c.self.inside.addresses.entries))) c.in_ok-name.ensures.items
    ∙ ap (λ (rs : List ReceiverValue). is_none (position (is_receiver c.args.name.now) rs)) c.self.view_is ∙ c.requires in
    ap (map receiver_entry) c.in_ok-insert.ensures.entries ∙ receiver_put c.self.inside.addresses.entries c.in_ok-name.name c.in_ok-address.address fresh
    ∙ (λ i. c.self.view_is i ++ record { name = c.in_ok-name.ensures.items i; address = c.in_ok-address.ensures.items i } ∷ [])
