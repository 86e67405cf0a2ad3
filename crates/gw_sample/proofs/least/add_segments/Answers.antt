use Rattle.std.proofs.Common.{◌∷◌, [], ◌∙◌, ap, map}
use Rattle.gw_profile.specs.Seen.{segment_value, field}
use Rattle.gw_profile.specs.Shapes.{nothing, segment}
use Rattle.gw_sample.specs.own.Least.{keys, keys_of, one_of, several_of}
use Rattle.gw_sample.proofs.Added.{none_yet, may_again, begins, placed, added, adds_again}
use Rattle.gw_sample.proofs.least.add_segments.Goals as goal

pub loop-time-init : goal.loop-time-init
loop-time-init c = none_yet (segment (segment_value c.args.segment.now) nothing) c.args.builder.now c.requires

pub add_segment-requires-clause-begun : goal.add_segment-requires-clause-begun
add_segment-requires-clause-begun c =
    let s = segment_value c.args.segment.now in
    begins s c.loop-time.builder (may_again (segment s nothing) (several_of c.loop-time._time (one_of s ∷ [])) c.args.builder.now c.loop-time.builder c.requires c.loop-time.invariant)

pub add_segment-requires-clause-places : goal.add_segment-requires-clause-places
add_segment-requires-clause-places c =
    placed (segment_value c.args.segment.now) c.args.builder.now c.requires (keys c.deref-in-loop-time.result.now)
    (ap keys c.deref-in-loop-time.ensures.value ∙ c.in_ok-places.ensures.keys ∙ ap (λ fields. keys_of (map field fields)) c.deref.ensures.value)

pub loop-time-preserved : goal.loop-time-preserved
loop-time-preserved c =
    let s = segment_value c.args.segment.now in
    let old = c.args.builder.now in
    let may = may_again (segment s nothing) (several_of c.loop-time._time (one_of s ∷ [])) old c.loop-time.builder c.requires c.loop-time.invariant in
    adds_again (one_of s ∷ []) old c.loop-time.builder c.add_segment.new.builder c.loop-time._time c.loop-time.invariant
    (added s c.loop-time.builder may (keys c.deref-in-loop-time.result.now) c.add_segment.new.builder
    (ap keys c.deref-in-loop-time.ensures.value ∙ c.in_ok-places.ensures.keys ∙ ap (λ fields. keys_of (map field fields)) c.deref.ensures.value) c.in_ok-add_segment.ensures)
