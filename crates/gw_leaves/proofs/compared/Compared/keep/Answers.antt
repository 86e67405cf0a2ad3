use Rattle.std.specs.Prelude.{IfSome}
use Rattle.std.proofs.Common.{ap, sym, subst, ◌∙◌}
use Rattle.std.specs.Map.{lookup}
use Rattle.gw_leaves.specs.own.Comparisons.{IsCopyOf, IsFound, copies_eq}
use Rattle.gw_leaves.proofs.Comparing.{copies_more}
use Rattle.gw_leaves.proofs.compared.Compared.keep.Goals as goal

pub returns-in_err-insert : goal.returns-in_err-insert
returns-in_err-insert c s is are = record {
  copies = λ k found e. are.copies k found (e ∙ ap (λ l. lookup (copies_eq k) l) c.in_err-insert.ensures.err);
  lists = are.lists;
}

pub returns : goal.returns
returns c s is are = record {
  copies = copies_more s c.args.comparison c.in-Some.key c.in_ok-found.found c.args.self.now.copies.entries c.insert.new.self.entries c.in_ok-insert.ensures.updates.0 (subst (λ o. IfSome o (IsCopyOf c.args.comparison)) c.in-Some.is c.in_ok-key.ensures)
      (subst (IsFound s c.args.comparison) (sym c.in_ok-found.ensures) is) are.copies;
  lists = are.lists;
}
