use Rattle.std.proofs.Common.{◌≡◌, suc, inl, inr, true, false, sym, ◌∙◌, arith}
use Rattle.std.proofs.lemmas.Bool.Decides.{leb_tells}
use Rattle.gw_er7.specs.Presence.{RepAt}
use Rattle.gw_validate.proofs.Leasts.{count_once}
use Rattle.gw_validate.proofs.Nexts.{some_counted}
use Rattle.gw_validate.proofs.fields.comes_short.Goals as goal

never : true ≡ false → ⊥
never e = cc

pub returns-then-shape-eq1-clause-no : goal.returns-then-shape-eq1-clause-no
returns-then-shape-eq1-clause-no c = λ no count is.
    let there = c.requires.present c.if-present.true in
    let some = some_counted (RepAt c.args.segment.now.at c.args.shape.now.number) is.last there.0 count there.1 (c.requires.some there.0 there.1) (is.is.within there.0 there.1).1 is.counted in
    omega (arith, some, c.if-shape-eq1.true)

pub returns-clause-no : goal.returns-clause-no
returns-clause-no c = λ no count is.
    let same : count ≡ c.count_reps-count.result = count_once (RepAt c.args.segment.now.at c.args.shape.now.number) count c.count_reps-count.result is c.count_reps-count.ensures in
    elim (leb_tells (suc c.count_reps-count.result) c.from.result) [ inl p ↦ absurd (never (sym p.0 ∙ no)) | inr p ↦ omega (arith, same, p.1, c.from.ensures) ]
