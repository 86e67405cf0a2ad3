use Rattle.gw_interp.proofs.Borrowing.{none_walked, one_walked}
use Rattle.std.proofs.Common.{sym, ap, ◌∙◌, ◌∷◌, []}
use Rattle.gw_interp.specs.own.Borrowed.{occurrence}
use Rattle.gw_interp.proofs.places.walked_at.Goals as goal

pub returns-then-out-scope-clause-walked : goal.returns-then-out-scope-clause-walked
returns-then-out-scope-clause-walked c = none_walked c.args.scope.now c.args.out c.if-out-scope.true

pub returns-clause-walked : goal.returns-clause-walked
returns-clause-walked c =
    one_walked c.args.scope.now c.args.out c.index-scope-scope.result c.if-out-scope.false c.index-scope-scope.is ∙ ap (λ o. occurrence o ∷ []) (sym c.reborrow.ensures)
