use Rattle.std.proofs.Common.{◌≡◌, ◌+◌, rules, arith, ap, ◌∙◌}
use Rattle.gw_stream.specs.Streams.{at_end}
use Rattle.gw_stream.proofs.Counting.{one_more}
use Rattle.gw_stream.proofs.Gathering.{all_sent, gathers_begin, gathers_go, gathers_sent, gathers_unsent, gathers_withheld, gathers_cut, stop_sent}
use Rattle.gw_stream.proofs.Gathering.{gathers_room, last_not_read, stops_not_withheld}
use Rattle.gw_stream.proofs.Walking.{stops_turns}
use Rattle.gw_stream.proofs.run.answer_blocks.Goals as goal

pub each-init : goal.each-init
each-init g c = record {
  reads = c.requires.reads;
  writes = c.requires.writes;
  gathered = gathers_begin g.J.Judge.settles g.J.Judge.secures g.J.Judge.breaks g.J.Judge.withholds _ _ _ _ _ _ _
      (c.new-blocks.ensures (g.R.Source.remaining c.args.reader.now) (g.R.Source.reads c.args.reader.now)) c.new-gathered.ensures.items c.none-counts.ensures;
}

pub gather-requires-clause-room : goal.gather-requires-clause-room
gather-requires-clause-room g c =
    let room = gathers_room g.J.Judge.settles g.J.Judge.secures g.J.Judge.breaks g.J.Judge.withholds _ _ _ _ _ _ _ _ _ _ _ c.each.invariant.gathered (c.in-Some.ensures.goes _ _) in
    omega arith

pub each-smaller-in-Ok : goal.each-smaller-in-Ok
each-smaller-in-Ok g c =
    let room = gathers_room g.J.Judge.settles g.J.Judge.secures g.J.Judge.breaks g.J.Judge.withholds _ _ _ _ _ _ _ _ _ _ _ c.each.invariant.gathered (c.in-Some.ensures.goes _ _) in
    let made = c.in-Ok.ensures.ok in
    let more : c.gather.new.counts.answered ≡ c.each.counts.answered + 1 = ap (λ x. x.answered) made.counted ∙ one_more made.answer.code c.each.counts in
    let turns = c.ready.ensures.turns in
    omega arith

pub each-preserved-in-Ok : goal.each-preserved-in-Ok
each-preserved-in-Ok g c = record {
  reads = c.each.invariant.reads;
  writes = c.each.invariant.writes;
  gathered = gathers_go g.J.Judge.settles g.J.Judge.secures g.J.Judge.breaks g.J.Judge.withholds _ _ _ _ _ _ _ _ _ _ _ _ _ _ c.each.invariant.gathered (c.in-Some.ensures.goes _ _)
      c.in-Ok.ensures.ok;
}

pub returns-in-Err-clause-ends : goal.returns-in-Err-clause-ends
returns-in-Err-clause-ends g c =
    let last = rw c.deref.ensures.value at c.send_last.ensures in
    gathers_cut g.J.Judge.settles g.J.Judge.secures g.J.Judge.breaks g.J.Judge.withholds _ _ _ _ _ _ _ _ _ _ _ _ _ _ _ _ _ c.each.invariant.gathered (c.in-Some.ensures.goes _ _) c.in-Err.ensures.begun
    c.in-Err.ensures.same last

pub returns-in-Err-clause-read : goal.returns-in-Err-clause-read
returns-in-Err-clause-read g c = (λ err. absurd (last_not_read _ _ _ _ _ _ _ _ _ c.send_last.ensures (search rules)), λ failed. search rules)

pub returns-in_default-clause-ends : goal.returns-in_default-clause-ends
returns-in_default-clause-ends g c = gathers_withheld g.J.Judge.settles g.J.Judge.secures g.J.Judge.breaks g.J.Judge.withholds _ _ _ _ _ _ _ _ _ _ c.each.invariant.gathered c.in_default.ensures.withheld

pub returns-in_default-send_all-clause-ends : goal.returns-in_default-send_all-clause-ends
returns-in_default-send_all-clause-ends g c =
    let part = rw c.deref-in-None.ensures.value at c.in_default-send_all.ensures.part in
    gathers_unsent g.J.Judge.settles g.J.Judge.secures g.J.Judge.breaks g.J.Judge.withholds _ _ _ _ _ _ _ _ _ _ _ c.each.invariant.gathered c.in-Ok-secure.ensures.secured part

pub each-preserved : goal.each-preserved
each-preserved g c =
    let all = rw c.deref-in-None.ensures.value at c.in-Ok-send_all.ensures.ok in
    let fills = rw c.in-None.ensures.none.1 at c.fill.ensures.goes in
    record {
      reads = search rules;
      writes = search rules;
      gathered = gathers_sent g.J.Judge.settles g.J.Judge.secures g.J.Judge.breaks g.J.Judge.withholds _ _ _ _ _ _ _ _ _ _ _ _ _ c.each.invariant.gathered c.in-Ok-secure.ensures.secured (fills (search rules)) all
          c.clear.ensures.items;
    }

pub returns-in-Ok-false-clause-ends : goal.returns-in-Ok-false-clause-ends
returns-in-Ok-false-clause-ends g c =
    let all = rw c.deref-in-None.ensures.value at c.in-Ok-send_all.ensures.ok in
    let ends = rw c.in-None.ensures.none.1 at c.fill.ensures.end in
    at_end _ (all_sent g.J.Judge.settles g.J.Judge.secures g.J.Judge.breaks g.J.Judge.withholds _ _ _ _ _ _ _ _ _ _ _ _ _ c.each.invariant.gathered c.in-Ok-secure.ensures.secured all c.clear.ensures.items (ends (search rules)))

pub returns-in-Ok-false-clause-most : goal.returns-in-Ok-false-clause-most
returns-in-Ok-false-clause-most g c =
    let most = rw c.in-None.ensures.none.1 at c.fill.ensures.most in most _ _ _ c.each.invariant.gathered.walks

pub returns-in-Err-fill-clause-ends : goal.returns-in-Err-fill-clause-ends
returns-in-Err-fill-clause-ends g c =
    let all = rw c.deref-in-None.ensures.value at c.in-Ok-send_all.ensures.ok in
    let stops = rw c.in-None.ensures.none.1 at c.in-Err-fill.ensures.stops in
    stop_sent g.J.Judge.settles g.J.Judge.secures g.J.Judge.breaks g.J.Judge.withholds _ _ _ _ _ _ _ _ _ _ _ _ _ _ c.each.invariant.gathered c.in-Ok-secure.ensures.secured all c.clear.ensures.items stops

pub returns-in-Err-fill-clause-turns : goal.returns-in-Err-fill-clause-turns
returns-in-Err-fill-clause-turns g c err =
    let stops = rw c.in-None.ensures.none.1 at c.in-Err-fill.ensures.stops in
    stops_turns _ _ _ _ _ _ c.each.invariant.gathered.walks stops (search rules)

pub returns-in-Err-fill-clause-most : goal.returns-in-Err-fill-clause-most
returns-in-Err-fill-clause-most g c =
    let most = rw c.in-None.ensures.none.1 at c.fill.ensures.most in most _ _ _ c.each.invariant.gathered.walks

pub returns-in-Err-fill-clause-withheld : goal.returns-in-Err-fill-clause-withheld
returns-in-Err-fill-clause-withheld g c is =
    let stops = rw c.in-None.ensures.none.1 at c.in-Err-fill.ensures.stops in absurd (stops_not_withheld _ _ _ stops (search rules))
