use Rattle.std.proofs.Common.{◌≡◌, ◌∙◌, ap, arith, Option, None, Some}
use Rattle.std.proofs.lemmas.Bool.Decides.{nat_tests}
use Rattle.gw_profile.specs.Shapes.{FieldValue}
use Rattle.gw_resolve.specs.Intervals.{is_sure}
use Rattle.gw_resolve.specs.Places.{Known, known}
use Rattle.gw_resolve.specs.Seen.{saturated, scope, place}
use Rattle.gw_resolve.proofs.Saturation.{never_saturated}
use Rattle.gw_leaves.specs.Leaves.{field_presence}
use Rattle.gw_profile.specs.Numbered.{field_of}
use Rattle.gw_leaves.specs.own.Held.{known_value, saturated_known}
use Rattle.gw_leaves.proofs.presence.reference_presence.Goals as goal

-- at the cap it is as much there as above it
at_the_cap : (k : Known) (f : Option FieldValue) → field_presence (saturated_known k) f ≡ field_presence k f
at_the_cap k None = let none = never_saturated k.count in grind arith
at_the_cap k (Some f) = let none = never_saturated k.count in let sure : is_sure (saturated k.count) ≡ is_sure k.count = grind (arith, nat_tests) in grind arith

pub returns : goal.returns
returns c =
    let there = known (scope c.args.sources.scope.now) (place c.args.from.now.place) in
    let number = c.args.from.now.field in
    c.field_presence.ensures ∙ ap (field_presence (known_value c.segment_at-known.result)) c.field_of.ensures
    ∙ ap (λ k. field_presence k (field_of k.fields number)) c.segment_at-known.ensures
    ∙ at_the_cap there (field_of there.fields number)
