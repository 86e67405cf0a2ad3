use Rattle.std.proofs.Common.{◌∙◌, ap, arith, ◌<◌, length, ℕ}
use Rattle.std.proofs.lemmas.Result.{IfOk-from_err}
use Rattle.std.specs.declared.vec.Vec.{Vec}
use Rattle.std.specs.Global.{Global}
use Rattle.gw_profile.specs.Seen.{forest}
use Rattle.gw_validate.proofs.Gathered.{number_found, number_passed, numbers_all}
use Rattle.gw_validate.proofs.listing.listed.Goals as goal
use Rattle.gw_validate.proofs.listing.listed.Goals.{then-knows+in_ok-push, else-knows}

pub loop-number-preserved : goal.loop-number-preserved
loop-number-preserved c =
    let lt : c.loop-number.number < length c.args.message.now = omega (arith, c.segment_count-number-end.ensures.count) in
    elim c.if-knows.branch [
      | then-knows+in_ok-push w ↦ ap (λ (v : Vec ℕ Global). v.items) w.found-is ∙
          number_found (forest c.args.profile.now.nodes) c.args.message.now c.loop-number.number lt c.loop-number.found.items c.loop-number.invariant c.name_at.result c.name_at.ensures c.knows.result c.knows.ensures w.if-knows.true w.push.new.self.items w.in_ok-push.ensures.items
      | else-knows w ↦ ap (λ (v : Vec ℕ Global). v.items) w.found-is ∙
          number_passed (forest c.args.profile.now.nodes) c.args.message.now c.loop-number.number lt c.loop-number.found.items c.loop-number.invariant c.name_at.result c.name_at.ensures c.knows.result c.knows.ensures w.if-knows.false
    ]

pub loop-number-init : goal.loop-number-init
loop-number-init c = c.in_ok-found.ensures.items

pub returns : goal.returns
returns c =
    numbers_all (forest c.args.profile.now.nodes) c.args.message.now c.loop-number.number c.segment_count-number-end.result c.loop-number.found.items c.segment_count-number-end.ensures.count c.loop-number-test.false c.loop-number.invariant

pub returns-in_err-push : goal.returns-in_err-push
returns-in_err-push c = IfOk-from_err _ _ c.from_residual-in_err-push.ensures.0
