use Rattle.std.proofs.Common.{◌∙◌, sym, subst}
use Rattle.gw_ledger.specs.Finding.{InJournal}
use Rattle.gw_delivery.specs.Made.{IsMadeAt}
use Rattle.gw_delivery.proofs.Making.{once_in}
use Rattle.gw_delivery.proofs.finder.Finder.made_of.Goals as goal

pub returns : goal.returns
returns g c =
    let before = g.J.Naming.before in
    let bytes = c.in_ok-bytes.bytes.items in
    subst (λ h. InJournal (IsMadeAt c.args.name.now c.args.sight.now.place bytes) before h) (sym (c.again.ensures ∙ c.front.ensures))
    (once_in c.args.name.now c.args.sight.now.place bytes before c.args.sight.now.history c.in_ok-bytes.ensures)
