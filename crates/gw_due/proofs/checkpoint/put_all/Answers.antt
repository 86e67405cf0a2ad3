use Rattle.std.proofs.Common.{◌++◌, ◌∙◌, length, take, ap, sym, subst}
use Rattle.std.specs.Prelude.{flat_map}
use Rattle.std.specs.Int.{w32, to_be_bytes}
use Rattle.gw_due.specs.Checkpoint.{receiver, ReceiverFits}
use Rattle.gw_due.proofs.StateForms.{written, fitting, one_more}
use Rattle.gw_due.proofs.checkpoint.put_all.Goals as goal

pub loop-one-preserved : goal.loop-one-preserved
loop-one-preserved c =
    let all = c.args.all.now in
    let i = c.loop-one.one-index in
    let d = c.one-item.result in
    let head = to_be_bytes w32 (length all) in
    record {
      spelled =
          one_more c.args.out.now.items head (flat_map receiver (take i all)) c.loop-one.out.items (receiver d) c.put_receiver.new.out.items c.loop-one.invariant.spelled c.in_ok-put_receiver.ensures.ok
          ∙ ap (λ l. c.args.out.now.items ++ (head ++ l)) (sym (written all i d c.loop-one-test.true ∙ ap (λ r. flat_map receiver (take i all) ++ receiver r) (sym c.one-item.is)));
      fit = fitting all i d c.loop-one-test.true c.loop-one.invariant.fit (subst ReceiverFits c.one-item.is c.in_ok-put_receiver.ensures.fits);
    }
