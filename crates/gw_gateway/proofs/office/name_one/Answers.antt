use Rattle.gw_plan.specs.Seen.{receiver_value}
use Rattle.gw_gateway.proofs.Naming.{put_named}
use Rattle.gw_gateway.proofs.office.name_one.Goals as goal

pub returns-clause-named : goal.returns-clause-named
returns-clause-named g c =
    put_named g.J.Naming.before c.args.ledger.now c.name.new.self c.args.time _ _ _ (receiver_value c.args.receiver.now) _ c.deref-2.ensures.value c.in_ok-_ticket.ensures.ok
