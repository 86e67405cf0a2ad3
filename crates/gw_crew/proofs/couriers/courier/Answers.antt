use Rattle.std.proofs.Common.{rules, arith, ap, sym, ◌∙◌}
use Rattle.gw_gate.specs.Seen.{message_seen}
use Rattle.gw_crew.proofs.Bounds.{noted_few}
use Rattle.gw_crew.proofs.Carrying.{progress_none, carries_so, empty_so, hand_so, progress_more, counted, progress_few, comes_longer}
use Rattle.gw_crew.proofs.couriers.courier.Goals as goal

pub rounds-init : goal.rounds-init
rounds-init g c =
    record { reads = c.requires.reads; writes = c.requires.writes; progress = progress_none _ _ _ _ _ _ c.new-decoder.ensures.stands c.none-counts.ensures }

pub returns-in_err-n-clause-breaks : goal.returns-in_err-n-clause-breaks
returns-in_err-n-clause-breaks g c =
    let breaks = empty_so _ _ _ (g.R.Source.reads c.rounds.reader) _ _ _ _ _ _ _ _ _ _ c.in_err-n.ensures.memory c.rounds.invariant.writes
    c.rounds.invariant.reads c.rounds.invariant.progress c.in_err-n.ensures.err in search rules

pub returns-in_default-clause-carries : goal.returns-in_default-clause-carries
returns-in_default-clause-carries g c = carries_so _ _ _ _ _ _ _ _ _ _ c.rounds.invariant.progress (rw c.in_default.is at c.in_ok-n.ensures.comes)

pub returns-in_err-ack-clause-breaks : goal.returns-in_err-ack-clause-breaks
returns-in_err-ack-clause-breaks g c =
    let comes = rw c.in-Some.is at c.in_ok-n.ensures.comes in
    let seen = ap message_seen (sym (c.message.ensures.message ∙ ap (λ t. t.message) c.deref.ensures)) in
    let breaks = hand_so _ _ _ _ _ _ _ _ _ _ _ _ _ _ _ _ _ _ seen c.rounds.invariant.progress comes c.in_err-ack.ensures.unsent in search rules

pub count-requires-clause-sent : goal.count-requires-clause-sent
count-requires-clause-sent g c =
    let few = progress_few _ _ _ _ _ _ _ _ _ c.rounds.invariant.progress in
    let more = comes_longer _ _ _ _ _ (rw c.in-Some.is at c.in_ok-n.ensures.comes) in
    let bound = noted_few _ _ c.notes-noted.ensures c.notes-noted.type_inv.0 in
    omega (arith, few, more, bound)

pub count-requires-clause-codes : goal.count-requires-clause-codes
count-requires-clause-codes g c = (counted _ _ _ _ _ c.rounds.invariant.progress.carried.rounds).total

pub rounds-preserved : goal.rounds-preserved
rounds-preserved g c =
    let comes = rw c.in-Some.is at c.in_ok-n.ensures.comes in
    let seen = ap message_seen (sym (c.message.ensures.message ∙ ap (λ t. t.message) c.deref.ensures)) in
    record {
      reads = c.in_ok-ack.ensures.reader;
      writes = c.in_ok-ack.ensures.writer;
      progress = progress_more _ _ _ _ _ _ _ _ _ _ _ _ _ _ _ _ _ _ seen c.rounds.invariant.progress comes c.in_ok-ack.ensures.sent c.count.ensures;
    }
