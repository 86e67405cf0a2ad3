use Rattle.std.proofs.Common.{arith, sym, ap, subst, List, ℕ, Option}
use Rattle.std.specs.Prelude.{flat_map}
use Rattle.gw_er7.proofs.Sequences.{first_is}
use Rattle.gw_validate.specs.Fitting.{OccValue}
use Rattle.gw_interp.specs.Occurrences.{below}
use Rattle.gw_interp.specs.own.Borrowed.{occurrence, IsFirstOf}
use Rattle.gw_interp.proofs.Borrowing.{no_children, passed, found_first, none_first}
use Rattle.gw_interp.proofs.places.+first.Goals as goal

pub first_below-returns-in-len1-up-clause-first : goal.first_below-returns-in-len1-up-clause-first
first_below-returns-in-len1-up-clause-first t c =
    let whole = first_is c.args.steps.now c.in-len1-up.len_at_least in
    subst (λ (l : List ℕ). IsFirstOf (below l (occurrence c.args.from.now)) c.first_of_children.result) (sym whole) c.first_of_children.ensures.first

pub first_of_children-returns-then-child-children-clause-first : goal.first_of_children-returns-then-child-children-clause-first
first_of_children-returns-then-child-children-clause-first t c = ap (flat_map (below c.args.steps.now)) (no_children c.args.above.now c.args.child (omega (arith, c.if-child-children.true, c.children.ensures.count)))

pub first_of_children-returns-in-Some-clause-first : goal.first_of_children-returns-in-Some-clause-first
first_of_children-returns-in-Some-clause-first t c =
    found_first c.args.above.now c.args.child c.args.steps.now c.loop-k.k c.child-each.result c.in-Some.first c.children.ensures.lent (omega (arith, c.if-child-children.false, c.children.ensures.count)) c.child-each.ensures.shows c.loop-k.invariant c.in-Some.ensures.first

pub first_of_children-loop-k-preserved : goal.first_of_children-loop-k-preserved
first_of_children-loop-k-preserved t c = passed c.args.above.now c.args.child c.args.steps.now c.loop-k.k c.child-each.result c.child-each.ensures.shows c.loop-k.invariant (subst (λ (o : Option OccValue). IsFirstOf (below c.args.steps.now (occurrence c.child-each.result)) o) c.in_default.is c.first_below.ensures.first)

pub first_of_children-returns-clause-first : goal.first_of_children-returns-clause-first
first_of_children-returns-clause-first t c =
    none_first c.args.above.now c.args.child c.args.steps.now c.loop-k.k c.children.ensures.lent (omega (arith, c.if-child-children.false, c.children.ensures.count)) (omega (arith, c.loop-k-test.false, c.count-k-end.ensures)) c.loop-k.invariant
