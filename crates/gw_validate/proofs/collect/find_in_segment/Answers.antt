use Rattle.std.proofs.Common.{map}
use Rattle.gw_profile.specs.Seen.{field, profile_value}
use Rattle.gw_validate.proofs.Collecting.{finds_end}
use Rattle.gw_validate.proofs.collect.find_in_segment.Goals as goal

pub returns : goal.returns
returns c =
    finds_end (profile_value c.args.profile.now) c.args.message.now (map field c.args.fields.now) c.args.number c.segment-segment.result _ _ c.loop-spot.spot-index _ _ c.segment-segment.ensures
    (rw c.new-spots.ensures.items at c.in_ok-visit_fields.ensures) c.as_slice-spot-items.ensures.value c.loop-spot-test.false c.loop-spot.invariant.found
