use Rattle.std.proofs.Common.{◌<◌, length, arith}
use Rattle.std.specs.FinMap as texts
use Rattle.gw_interp.proofs.Nexts.{start_within, next_there, next_after, next_first}
use Rattle.gw_interp.proofs.reading.next_rep.Goals as goal

pub prove-unreachable-requires : goal.prove-unreachable-requires
prove-unreachable-requires c =
    let within : c.values_before-at.result < length (texts.entries c.args.segment.now.at) =
    start_within c.args.segment.now c.args.field c.args.after c.args.last c.values_before-at.result c.requires.last c.requires.after c.value_count.ensures.segment c.values_before-at.ensures in
    omega (arith, c.value_count.ensures.count)

pub returns : goal.returns
returns c =
    let place = c.value.result.place in
    record {
      there = next_there c.args.segment.now c.args.field c.args.after c.args.last c.values_before-at.result c.requires.last c.requires.after c.value_count.ensures.segment c.values_before-at.ensures place.field place.rep place.comp place.sub c.value.result.text.now c.value.ensures;
      after = next_after c.args.segment.now c.args.field c.args.after c.args.last c.values_before-at.result c.requires.last c.requires.after c.value_count.ensures.segment c.values_before-at.ensures place.field place.rep place.comp place.sub c.value.result.text.now c.value.ensures;
      first = next_first c.args.segment.now c.args.field c.args.after c.args.last c.values_before-at.result c.requires.last c.requires.after c.value_count.ensures.segment c.values_before-at.ensures place.field place.rep place.comp place.sub c.value.result.text.now c.value.ensures;
    }
