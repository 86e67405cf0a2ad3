use Rattle.std.proofs.Common.{◌≡◌, ◌+◌, rules, refl, arith, ap, ◌∙◌}
use Rattle.std.proofs.lemmas.Bool.{or_parts}
use Rattle.std.proofs.lemmas.List.Folds.{list_any_none}
use Rattle.std.specs.Arc.{arc_value}
use Rattle.gw_plan.specs.Held.{plan_value}
use Rattle.gw_stream.specs.Counted.{nothing}
use Rattle.gw_stream.specs.Posts.{known}
use Rattle.gw_stream.specs.Streams.{at_end, memory}
use Rattle.gw_stream.proofs.Counting.{one_more}
use Rattle.gw_stream.proofs.Posting.{none_failed, not_failed}
use Rattle.gw_stream.proofs.Serving.{all_of, first_of, not_of_reading, serves_begins, serves_cut, serves_goes, serves_on, serves_room, serves_stop}
use Rattle.gw_stream.proofs.Walking.{stops_not_write, stops_turns}
use Rattle.gw_stream.proofs.stream.serve_once.Goals as goal

pub returns-in_default-clause-ends : goal.returns-in_default-clause-ends
returns-in_default-clause-ends g c =
    let walks = c.new-blocks.ensures (g.R.Source.remaining c.args.reader.now) (g.R.Source.reads c.args.reader.now) in
    memory (first_of (plan_value c.args.plan) c.args.stamp _ _ _ _ _ _
    (serves_begins _ _ _ _ _ (known g.A.Sink.contents g.W.Sink.contents c.args.answers.now c.args.outs.now.items) nothing walks refl))

pub returns-in_default-clause-write : goal.returns-in_default-clause-write
returns-in_default-clause-write g c =
    (λ err. search rules, λ failed. absurd (none_failed _ _ c.requires.answers (list_any_none _ _ c.requires.outs) failed))

pub each-init : goal.each-init
each-init g c = record {
  reads = c.requires.reads;
  answers = c.requires.answers;
  outs = list_any_none _ _ c.requires.outs;
  writers = refl;
  plan = search rules;
  stamp = refl;
  serves =
      serves_begins _ _ _ _ _ _ _ (c.new-blocks.ensures (g.R.Source.remaining c.args.reader.now) (g.R.Source.reads c.args.reader.now)) c.none-counts.ensures;
}

pub serve_content-requires-clause-room : goal.serve_content-requires-clause-room
serve_content-requires-clause-room g c =
    let room = serves_room _ _ _ _ _ _ _ _ _ _ c.each.invariant.serves (c.in-Some.ensures.goes _ _) in
    omega arith

pub each-smaller-in-Ok-serve_content : goal.each-smaller-in-Ok-serve_content
each-smaller-in-Ok-serve_content g c =
    let room = serves_room _ _ _ _ _ _ _ _ _ _ c.each.invariant.serves (c.in-Some.ensures.goes _ _) in
    let one = c.in-Ok-serve_content.ensures.ok in
    let more : c.serve_content.new.counts.answered ≡ c.each.counts.answered + 1 =
    ap (λ x. x.answered) one.counted ∙ one_more one.serving.answer.code c.each.counts in
    let turns = c.ready.ensures.turns in
    omega arith

pub each-preserved-in-Ok-serve_content : goal.each-preserved-in-Ok-serve_content
each-preserved-in-Ok-serve_content g c =
    let one = rw (c.each.invariant.plan, c.each.invariant.stamp) at c.in-Ok-serve_content.ensures.ok in
    let none = or_parts _ _ (not_failed _ _ _ _ c.in-Ok-serve_content.is c.serve_content.ensures.write) in
    record {
      reads = c.each.invariant.reads;
      answers = none.0;
      outs = none.1;
      writers = c.serve_content.ensures.count ∙ c.each.invariant.writers;
      plan = ap arc_value c.in-Ok-serve_content.ensures.plan ∙ c.each.invariant.plan;
      stamp = c.in-Ok-serve_content.ensures.stamp ∙ c.each.invariant.stamp;
      serves = serves_goes _ _ _ _ _ _ _ _ _ _ _ _ c.each.invariant.serves (c.in-Some.ensures.goes _ _) one;
    }

pub returns-in-Err-clause-ends : goal.returns-in-Err-clause-ends
returns-in-Err-clause-ends g c =
    let none = rw (c.each.invariant.plan, c.each.invariant.stamp) at c.in-Err.ensures.err in
    serves_cut _ _ _ _ _ _ _ _ _ _ _ _ c.each.invariant.serves (c.in-Some.ensures.goes _ _) none

pub returns-in-Err-clause-read : goal.returns-in-Err-clause-read
returns-in-Err-clause-read g c = (λ err. absurd ((not_of_reading _ _ _ _ _ _ _ c.in-Err.ensures.err).0 (search rules)), λ failed. search rules)

pub returns-in-Err-clause-turns : goal.returns-in-Err-clause-turns
returns-in-Err-clause-turns g c err = absurd ((not_of_reading _ _ _ _ _ _ _ c.in-Err.ensures.err).1 (search rules))

pub each-preserved : goal.each-preserved
each-preserved g c =
    let fills = rw c.in-None.ensures.none.1 at c.fill.ensures.goes in
    record {
      reads = search rules;
      answers = c.each.invariant.answers;
      outs = c.each.invariant.outs;
      writers = c.each.invariant.writers;
      plan = c.each.invariant.plan;
      stamp = c.each.invariant.stamp;
      serves = serves_on _ _ _ _ _ _ _ _ _ c.each.invariant.serves (fills (search rules));
    }

pub returns-in-Ok-false-clause-ends : goal.returns-in-Ok-false-clause-ends
returns-in-Ok-false-clause-ends g c =
    let ends = rw c.in-None.ensures.none.1 at c.fill.ensures.end in
    at_end _ (all_of _ _ _ _ _ _ _ _ _ c.each.invariant.serves (ends (search rules)))

pub returns-in-Ok-false-clause-most : goal.returns-in-Ok-false-clause-most
returns-in-Ok-false-clause-most g c =
    let most = rw c.in-None.ensures.none.1 at c.fill.ensures.most in most _ _ _ c.each.invariant.serves.walks

pub returns-in-Err-fill : goal.returns-in-Err-fill
returns-in-Err-fill g c =
    let stops = rw c.in-None.ensures.none.1 at c.in-Err-fill.ensures.stops in
    let most = rw c.in-None.ensures.none.1 at c.fill.ensures.most in
    record {
      ends = serves_stop _ _ _ _ _ _ _ _ _ _ c.each.invariant.serves stops;
      read = search rules;
      write = (
        λ err. absurd (stops_not_write _ _ _ c.in-Err-fill.ensures.stops (search rules)),
        λ failed. absurd (none_failed _ _ c.each.invariant.answers c.each.invariant.outs failed),
      );
      turns = λ err. stops_turns _ _ _ _ _ _ c.each.invariant.serves.walks stops (search rules);
      most = most _ _ _ c.each.invariant.serves.walks;
      writers = c.each.invariant.writers;
    }
