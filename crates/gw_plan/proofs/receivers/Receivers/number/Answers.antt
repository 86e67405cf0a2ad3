use Rattle.std.proofs.Common.{◌∙◌, ap, List}
use Rattle.std.specs.Prelude.{position}
use Rattle.gw_plan.specs.Shapes.{ReceiverValue}
use Rattle.gw_plan.specs.Draft.{is_receiver}
use Rattle.gw_plan.proofs.Receiving.{number_found}
use Rattle.gw_plan.proofs.receivers.Receivers.number.Goals as goal

pub returns : goal.returns
returns c =
    c.get_index_of.ensures.index ∙ number_found c.args.name.now c.self.inside.addresses.entries
    ∙ ap (λ (rs : List ReceiverValue). position (is_receiver c.args.name.now) rs) c.self.view_is
