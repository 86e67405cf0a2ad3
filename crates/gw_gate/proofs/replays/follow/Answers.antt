use Rattle.std.proofs.Common.{[], ◌∷◌, ◌++◌, map, refl, ap, ◌∙◌}
use Rattle.std.proofs.lemmas.List.{map-append}
use Rattle.std.specs.Vec.Iter.{into_iter_items}
use Rattle.gw_gate.specs.Replies.{most, replies}
use Rattle.gw_gate.specs.Values.{event_seen, reply_seen}
use Rattle.gw_gate.proofs.Following.{pushed, run_on, replies_on}
use Rattle.gw_gate.proofs.replays.follow.Goals as goal

pub loop-event-init : goal.loop-event-init
loop-event-init c = record {
  journal = refl;
  replies = ap (λ l. map reply_seen l ++ replies most c.args.gate (map event_seen (into_iter_items c.into_iter-event-iterator.result))) c.new-replies.ensures.items;
}

pub loop-event-preserved : goal.loop-event-preserved
loop-event-preserved c =
    let l = c.loop-event in
    let rest = map event_seen (into_iter_items c.next.new.self) in
    let all = map event_seen (into_iter_items c.into_iter-event-iterator.result) in
    let next = ap (map event_seen) c.in-Some.ensures.steps.0 in
    let grown = pushed c.push.result l.replies.items (l.replies.items ++ c.in-Ok.reply ∷ []) _ c.push.ensures.items c.if-is_err.ensures.value in
    record {
      journal = run_on l.gate c.step.new.self c.args.gate (event_seen c.in-Some.event) _ (map event_seen (into_iter_items l.event-iterator)) rest all next c.in-Ok.ensures l.invariant.journal;
      replies = replies_on l.gate c.step.new.self c.args.gate (event_seen c.in-Some.event) _ (map event_seen (into_iter_items l.event-iterator)) rest all (map reply_seen l.replies.items) _ next c.in-Ok.ensures
          (ap (map reply_seen) grown ∙ map-append reply_seen l.replies.items _) l.invariant.replies;
    }
