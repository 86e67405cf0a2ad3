use Rattle.std.proofs.Common.{List, [], ◌∷◌, ◌++◌, ap, sym, subst, ◌∙◌, map}
use Rattle.gw_er7.specs.Building.{IsBegun}
use Rattle.gw_er7.specs.Message.{SegmentValue}
use Rattle.gw_er7.proofs.Builds.{begun}
use Rattle.gw_profile.specs.Seen.{segment_value, field, forest}
use Rattle.gw_profile.specs.Shapes.{segment}
use Rattle.gw_sample.specs.own.Least.{keys, keys_of, least, Adds}
use Rattle.gw_sample.proofs.Added.{made}
use Rattle.gw_sample.proofs.Headers.{head_begins, head_placed, rest_follows, whole_added, some_segment}
use Rattle.gw_sample.proofs.least.message_of.Goals as goal

pub add_segment-requires-clause-begun : goal.add_segment-requires-clause-begun
add_segment-requires-clause-begun c =
    subst (λ (b : List SegmentValue). IsBegun (b ++ begun c.args.header.now.name ∷ [])) (sym c.new-builder.ensures)
    (head_begins (segment_value c.args.header.now) (forest c.args.rest.now) c.requires)

pub add_segment-requires-clause-places : goal.add_segment-requires-clause-places
add_segment-requires-clause-places c =
    head_placed (segment_value c.args.header.now) (forest c.args.rest.now) c.requires (keys c.deref-2.result.now)
    (ap keys c.deref-2.ensures.value ∙ c.in_ok-places.ensures.keys ∙ ap (λ fields. keys_of (map field fields)) c.deref.ensures.value)

pub add_nodes-requires : goal.add_nodes-requires
add_nodes-requires c =
    rest_follows (segment_value c.args.header.now) (forest c.args.rest.now) c.requires (keys c.deref-2.result.now) c.add_segment.new.builder
    (ap keys c.deref-2.ensures.value ∙ c.in_ok-places.ensures.keys ∙ ap (λ fields. keys_of (map field fields)) c.deref.ensures.value)
    (c.in_ok-add_segment.ensures ∙ ap (λ (b : List SegmentValue). b ++ made c.args.header.now.name (keys c.deref-2.result.now) ∷ []) c.new-builder.ensures)

pub finish-requires : goal.finish-requires
finish-requires c = some_segment c.add_nodes.new.builder c.in_ok-add_nodes.ensures.message

pub returns : goal.returns
returns c =
    subst (Adds (least (segment (segment_value c.args.header.now) (forest c.args.rest.now))) []) (sym c.finish.ensures)
    (whole_added (segment_value c.args.header.now) (forest c.args.rest.now) c.requires (keys c.deref-2.result.now) c.add_segment.new.builder c.add_nodes.new.builder
    (ap keys c.deref-2.ensures.value ∙ c.in_ok-places.ensures.keys ∙ ap (λ fields. keys_of (map field fields)) c.deref.ensures.value)
    (c.in_ok-add_segment.ensures ∙ ap (λ (b : List SegmentValue). b ++ made c.args.header.now.name (keys c.deref-2.result.now) ∷ []) c.new-builder.ensures)
    c.in_ok-add_nodes.ensures)
