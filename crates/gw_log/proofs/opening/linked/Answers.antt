use Rattle.std.proofs.Common.{rules, ◌≡◌, ◌+◌, ◌∙◌, length, ap, arith}
use Rattle.gw_log.specs.Disk.{Files}
use Rattle.gw_log.proofs.Founding.{begins_by, begins_same, link_more, placed_so}
use Rattle.gw_log.proofs.Denying.{handed_on, first_has, next_has, size_is, keep_is, no_head_same}
use Rattle.gw_log.proofs.opening.linked.Goals as goal

pub returns-in_err-start-clause-damaged : goal.returns-in_err-start-clause-damaged
returns-in_err-start-clause-damaged g c = λ honest segment at fault from head records log start end.
    first_has _ _ _ _ _ log _ _ start end
    (c.in_err-start.ensures.damaged honest segment at (handed_on c.from_residual.result _ _ c.from_residual.ensures fault))

pub returns-in_err-next-clause-damaged : goal.returns-in_err-next-clause-damaged
returns-in_err-next-clause-damaged g c = λ honest segment at fault from head records log start end.
    let is = c.loop-number.invariant in
    let next = c.in_err-next.ensures.damaged honest segment at
    (handed_on c.from_residual-in_err-next.result _ _ c.from_residual-in_err-next.ensures fault) in
    next_has _ _ _ _ _ log _ _ start end c.loop-number.number is.low c.loop-number-test.true
    (no_head_same c.args.id (c.loop-number.number + 1) _ _ (c.size.ensures.seen ∙ is.reads.same) next)

pub returns-then-next-size-clause-damaged : goal.returns-then-next-size-clause-damaged
returns-then-next-size-clause-damaged g c = λ honest segment at fault from head records log start end.
    let is = c.loop-number.invariant in
    let size = c.in_ok-size.ensures.size (c.head_of-in-loop-number.ensures.reads.back honest)
    ∙ ap (λ (f : Files). length (f c.loop-number.number)) is.reads.same in
    let before = size_is _ _ _ _ _ log _ _ start end c.loop-number.number _ _ _ is.low c.loop-number-test.true
    (begins_same _ _ _ _ _ _ _ (c.size.ensures.seen ∙ is.reads.same) (c.in_ok-next.ensures.begins honest)) in
    omega (arith, c.if-next-size.true, before, size)

pub returns-then-place-start-clause-damaged : goal.returns-then-place-start-clause-damaged
returns-then-place-start-clause-damaged g c = λ honest segment at fault from head records log start end.
    let is = c.loop-number.invariant in
    let here : c.loop-number.number ≡ c.args.last = omega (arith, is.high, c.loop-number-test.false) in
    keep_is _ _ _ _ _ log _ _ start end c.loop-number.number _ _ _ _ _ _ here (is.begins honest) (is.opens honest) c.if-place-start.true

pub loop-number-preserved : goal.loop-number-preserved
loop-number-preserved g c =
    let is = c.loop-number.invariant in
    let same = c.size.ensures.seen ∙ is.reads.same in
    let begins = λ (honest : g.D.Disk.honest c.head_of-in-loop-number.new.disk).
    begins_same _ _ _ _ _ _ _ same (c.in_ok-next.ensures.begins honest) in
    record {
      low = omega (arith, is.low);
      high = omega (arith, c.loop-number-test.true);
      reads = search rules;
      begins = begins;
      opens = λ honest. is.opens (c.size.ensures.back (c.head_of-in-loop-number.ensures.reads.back honest));
      linked = λ honest.
          let was = c.head_of-in-loop-number.ensures.reads.back honest in
          let size = c.in_ok-size.ensures.size was ∙ ap (λ (f : Files). length (f c.loop-number.number)) is.reads.same in
          link_more _ _ c.loop-number.number (g.D.Disk.seen c.args.disk.now) (is.linked (c.size.ensures.back was)) (placed_so _ c.loop-number.number _ _ _ c.in_ok-size.size (g.D.Disk.seen c.args.disk.now) (begins honest) c.if-next-size.false size);
    }

pub returns-clause-there : goal.returns-clause-there
returns-clause-there g c = λ honest.
    let is = c.loop-number.invariant in
    begins_by _ _ _ _ _ _ _ (is.opens honest) (omega (arith, c.if-place-start.false))
