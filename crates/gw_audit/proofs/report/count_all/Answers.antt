use Rattle.std.proofs.Common.{◌∙◌, ap, arith, rules}
use Rattle.std.specs.Prelude.{count_by}
use Rattle.std.proofs.lemmas.List.{take_all}
use Rattle.gw_gate.specs.Chapters.{all_entries}
use Rattle.gw_audit.specs.Report.{is_of}
use Rattle.gw_audit.proofs.Following.{count_few}
use Rattle.gw_audit.proofs.report.count_all.Goals as goal

pub overflow_add-all : goal.overflow_add-all
overflow_add-all c =
    let few = count_few c.args.kind c.args.parts.now c.loop-part.part-index c.part-item.result _ _ c.loop-part-test.true c.part-item.is c.loop-part.invariant
    (rw c.entries.ensures at c.count-all.ensures) in
    let most = c.requires in
    omega (arith, few, most)

pub returns : goal.returns
returns c = c.loop-part.invariant ∙ ap (λ l. count_by (is_of c.args.kind) (all_entries l)) (take_all c.loop-part.part-index c.args.parts.now (search rules))
