use Rattle.std.proofs.Common.{sym, []}
use Rattle.std.proofs.lemmas.List.{get_or-map, length-map}
use Rattle.gw_er7.specs.Message.{numbers}
use Rattle.gw_sample.specs.own.Least.{keys}
use Rattle.gw_sample.proofs.Added.{may_put, put_step}
use Rattle.gw_sample.proofs.least.add_segment.Goals as goal

pub put-requires : goal.put-requires
put-requires c =
    may_put c.args.name c.args.builder.now c.loop-place.builder (keys c.args.places.now) c.loop-place.place-index [] _ c.requires.places
    (rw length-map c.loop-place-test.true) (sym (get_or-map numbers c.args.places.now c.loop-place.place-index _ [] c.loop-place-test.true)) c.loop-place.invariant

pub loop-place-preserved : goal.loop-place-preserved
loop-place-preserved c =
    put_step c.args.name c.args.builder.now c.loop-place.builder (keys c.args.places.now) c.loop-place.place-index [] _ c.requires.places
    (rw length-map c.loop-place-test.true) (sym (get_or-map numbers c.args.places.now c.loop-place.place-index _ [] c.loop-place-test.true)) c.loop-place.invariant
    c.put.new.self c.in_ok-put.ensures.ok
