use Rattle.std.proofs.Common.{◌≡◌, length, refl, rules}
use Rattle.gw_stream.proofs.Preparing.{counted_one, serves_one}
use Rattle.gw_stream.proofs.stream.serve_content.Goals as goal

pub returns-in-Ok-send_outcome-clause-ok : goal.returns-in-Ok-send_outcome-clause-ok
returns-in-Ok-send_outcome-clause-ok g c =
    let sent = rw (c.deref-2.ensures.value, c.deref-3.ensures.value, c.in-Ok-framed.ensures, c.deref.ensures.value) at c.in-Ok-send_outcome.ensures.ok in
    let many : c.len.result ≡ length c.exchange.new.judge.deliveries.items = search rules in
    let counted = counted_one _ _ _ _ _ c.add.ensures (rw many at c.add_sent.ensures) in
    serves_one _ _ _ _ _ c.in-Ok.ensures.answer _ _ _ _ refl sent counted
