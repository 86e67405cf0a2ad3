use Rattle.std.proofs.Common.{sym}
use Rattle.std.proofs.lemmas.List.{take-append-drop}
use Rattle.gw_mllp.proofs.Reaching.{overruns_by_end}
use Rattle.gw_mllp.proofs.reach.reach_into.Goals as goal

pub returns-then-content-run : goal.returns-then-content-run
returns-then-content-run c =
    let bytes = c.args.bytes.now in
    overruns_by_end c.args.content.now bytes c.split_at.result.0.now c.split_at.result.1.now
    (rw (c.split_at.ensures.front, c.split_at.ensures.back) (sym (take-append-drop c.in-Some.n bytes))) (rw c.split_at.ensures.front c.in-Some.ensures.ends) c.if-content-run.true
