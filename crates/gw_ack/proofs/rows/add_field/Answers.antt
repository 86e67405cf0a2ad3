use Rattle.std.proofs.Common.{refl}
use Rattle.gw_ack.specs.Seen.{rows}
use Rattle.gw_ack.proofs.Tables.{field_step}
use Rattle.gw_ack.proofs.rows.add_field.Goals as goal

pub loop-i-preserved : goal.loop-i-preserved
loop-i-preserved c =
    field_step (λ part. part.now) c.args.number c.args.parts.now c.loop-i.i _ _ (rows c.args.table.now.items) (rows c.loop-i.table.items)
    (rows c.add_component.new.table.items) c.loop-i-test.true refl c.loop-i.invariant c.in_ok-add_component.ensures
