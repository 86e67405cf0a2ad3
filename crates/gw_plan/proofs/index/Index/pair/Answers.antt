use Rattle.std.proofs.Common.{sym}
use Rattle.gw_plan.proofs.Keys.{used_put}
use Rattle.gw_plan.proofs.Finding.{still_found, known_put, numbered_put}
use Rattle.gw_plan.proofs.index.Index.pair.Goals as goal

pub returns : goal.returns
returns c =
    rw (c.in_ok-code.ensures.keys, c.in_ok-event.ensures.keys)
    (record {
      is_pair = record {
        code_is = numbered_put _ c.in_ok-from_slice.field-0 c.args.code.now c.in_ok-code.code c.in_ok-from_slice.ensures.items c.in_ok-code.ensures.index;
        event_is = numbered_put _ c.in_ok-from_slice-2.field-0 c.args.event.now c.in_ok-event.event c.in_ok-from_slice-2.ensures.items c.in_ok-event.ensures.index;
      };
      still = λ slots z. still_found _ _ c.in_ok-from_slice.field-0 c.in_ok-from_slice-2.field-0 _ _ slots z;
      used = λ keys senders used. used_put _ c.in_ok-from_slice.field-0 keys (record { code = c.args.code.now; event = c.args.event.now; senders = senders }) (sym c.in_ok-from_slice.ensures.items) used;
      known = λ keys senders known. known_put _ _ c.in_ok-from_slice.field-0 c.in_ok-from_slice-2.field-0 keys (record { code = c.args.code.now; event = c.args.event.now; senders = senders }) c.in_ok-from_slice.ensures.items c.in_ok-from_slice-2.ensures.items known;
    })
