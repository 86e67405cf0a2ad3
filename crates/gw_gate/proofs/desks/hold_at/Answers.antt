use Rattle.std.proofs.Common.{◌∙◌, ap}
use Rattle.gw_reorder.specs.Calls.{after_holding}
use Rattle.gw_gate.proofs.Windows.{inside, held_here}
use Rattle.gw_gate.proofs.desks.hold_at.Goals as goal

pub returns-clause-this : goal.returns-clause-this
returns-clause-this c =
    let ds = c.args.desks.now.items in
    held_here ds c.args.receiver c.args.n c.args.translated c.index_mut.result.now c.hold.new.self
    (inside ds c.args.receiver c.args.n c.requires)
    (c.hold.ensures.left ∙ ap (λ s. after_holding s c.args.n c.args.translated) c.index_mut.ensures.value)
