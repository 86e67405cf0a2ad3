use Rattle.std.proofs.Common.{◌∙◌, ap}
use Rattle.gw_reorder.specs.Calls.{after_holding}
use Rattle.gw_gate.specs.own.Desks.{desk_seen}
use Rattle.gw_gate.specs.Seen.{translated_seen}
use Rattle.gw_gate.proofs.Windows.{hold_seen}
use Rattle.gw_audit.proofs.delivery_queue.keep.Goals as goal

pub returns : goal.returns
returns c = ap desk_seen c.hold.ensures.left ∙ hold_seen c.args.desk.now c.args.n c.in_ok-copy.copy
    ∙ ap (λ t. after_holding (desk_seen c.args.desk.now) c.args.n (translated_seen t)) c.in_ok-copy.ensures
