use Rattle.std.proofs.Common.{arith}
use Rattle.gw_mllp.proofs.Occurs.{found_here, none_behind, none_at_all}
use Rattle.gw_mllp.proofs.reach.find_end.Goals as goal

pub returns-then-is_cr_at : goal.returns-then-is_cr_at
returns-then-is_cr_at c =
    let cr = c.is_cr_at.ensures.0 c.if-is_cr_at.true in
    found_here c.args.bytes.now c.loop-at.from c.in-Some.at c.loop-at.invariant.none c.in-Some.ensures cr.0 cr.1

pub loop-at-preserved : goal.loop-at-preserved
loop-at-preserved c =
    record {
      within = omega (arith, c.in-Some.ensures.0.high);
      none = none_behind c.args.bytes.now c.loop-at.from c.in-Some.at c.loop-at.invariant.none c.in-Some.ensures
          (λ cr. let yes = c.is_cr_at.ensures.1 cr in let no = c.if-is_cr_at.false in absurd cc);
    }

pub returns : goal.returns
returns c = none_at_all c.args.bytes.now c.loop-at.from c.loop-at.invariant.none c.in_default.ensures
