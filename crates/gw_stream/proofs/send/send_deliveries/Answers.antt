use Rattle.std.proofs.Common.{rules, ◌∙◌}
use Rattle.gw_stream.specs.own.Prepared.{post}
use Rattle.gw_stream.proofs.Posting.{out_next, some_out_next}
use Rattle.gw_stream.proofs.send.send_deliveries.Goals as goal

pub returns-in_err-send_to-clause-part : goal.returns-in_err-send_to-clause-part
returns-in_err-send_to-clause-part g c =
    let sent = rw c.deref.ensures.value at c.in_err-send_to.ensures.part in
    let part = some_out_next post _ _ _ _ _ _ c.deliveries-test.true c.delivery-item.is c.deliveries.invariant.sends sent in search rules

pub deliveries-preserved : goal.deliveries-preserved
deliveries-preserved g c =
    let sent = rw c.deref.ensures.value at c.in_ok-send_to.ensures.ok in
    record {
      count = c.send_to.ensures.count ∙ c.deliveries.invariant.count;
      works = search rules;
      sends = out_next post _ _ _ _ _ _ c.deliveries-test.true c.delivery-item.is c.deliveries.invariant.sends sent;
    }
