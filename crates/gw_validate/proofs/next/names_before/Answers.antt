use Rattle.std.proofs.Common.{◌<◌, ◌∙◌, ap, arith, length, List, ℕ}
use Rattle.std.specs.Global.{Global}
use Rattle.std.specs.declared.vec.Vec.{Vec}
use Rattle.gw_profile.specs.Seen.{forest}
use Rattle.gw_validate.proofs.Going.{name_found, name_passed}
use Rattle.gw_validate.proofs.next.names_before.Goals as goal
use Rattle.gw_validate.proofs.next.names_before.Goals.{then-knows+in_ok-push, else-knows}

pub loop-i-preserved : goal.loop-i-preserved
loop-i-preserved c =
    let lt : c.loop-i.i < length c.args.message.now = omega (arith, c.segment_count-i-end.ensures.count) in
    record {
      found = elim c.if-knows.branch [
        | then-knows+in_ok-push w ↦ ap (λ (v : Vec (List ℕ) Global). v.items) w.found-is ∙
            name_found (forest c.args.profile.now.nodes) c.args.message.now c.loop-i.i lt c.loop-i.found.items c.loop-i.invariant.found c.name_at-name.result c.name_at-name.ensures c.knows.result c.knows.ensures w.if-knows.true w.push.new.self.items w.in_ok-push.ensures.items
        | else-knows w ↦ ap (λ (v : Vec (List ℕ) Global). v.items) w.found-is ∙
            name_passed (forest c.args.profile.now.nodes) c.args.message.now c.loop-i.i lt c.loop-i.found.items c.loop-i.invariant.found c.name_at-name.result c.name_at-name.ensures c.knows.result c.knows.ensures w.if-knows.false
      ];
      within = omega arith;
    }
