use Rattle.std.proofs.Common.{rules}
use Rattle.gw_stream.proofs.Sending.{sends_more, sends_stopped}
use Rattle.gw_stream.proofs.send.send_all.Goals as goal

pub returns-in_err-sent-clause-part : goal.returns-in_err-sent-clause-part
returns-in_err-sent-clause-part g c =
    let part = sends_stopped _ _ _ _ _ _ c.pieces.invariant.sending c.in_err-sent.ensures.bytes in search rules

pub pieces-preserved : goal.pieces-preserved
pieces-preserved g c = record {
  works = search rules;
  sending = sends_more _ _ _ _ _ _ _ c.pieces.invariant.sending c.in_ok-sent.ensures.bound c.in_ok-sent.ensures.some (search rules) c.in_ok-sent.ensures.bytes;
}
