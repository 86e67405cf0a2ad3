use Rattle.std.specs.Prelude.{IfSome}
use Rattle.std.proofs.Common.{sym, subst}
use Rattle.gw_leaves.specs.own.Comparisons.{IsCopyOf, IsFound}
use Rattle.gw_leaves.proofs.compared.Compared.recalled.Goals as goal

pub returns : goal.returns
returns c s are =
    subst (IsFound s c.args.comparison) (sym c.in_ok-try_clone-in-Some-get.ensures)
    (are.copies c.in-Some.key c.in-Some-get.found.now c.in-Some-get.ensures.value s.map c.args.comparison (subst (λ o. IfSome o (IsCopyOf c.args.comparison)) c.in-Some.is c.in_ok-key.ensures))
