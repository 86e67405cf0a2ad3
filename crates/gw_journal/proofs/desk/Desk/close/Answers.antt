use Rattle.std.proofs.Common.{◌≡◌, ◌∙◌, ap, subst, sym}
use mathlib.Core.List.{IsPrefix}
use Rattle.gw_journal.specs.Logs.{records_of}
use Rattle.gw_journal.proofs.Logging.{stand_there}
use Rattle.gw_journal.proofs.desk.Desk.close.Goals as goal

pub returns : goal.returns
returns g c =
    let ms : c.receipt.inside.front ≡ c.args.receipt.now.history = ap (λ r. r.history) c.receipt.view_is in
    let p : IsPrefix c.receipt.inside.front c.self.inside.history = subst (λ h. IsPrefix c.receipt.inside.front h) c.front.ensures c.if-not-begins.ensures.begins in
    let q : IsPrefix c.args.receipt.now.history c.self.inside.history = subst (λ h. IsPrefix h c.self.inside.history) ms p in
    stand_there g.S.Storage.stands g.J.Naming.before c.self.inside.storage (records_of c.self.inside.batch.items) c.self.inside.given
    c.self.inside.settled c.self.inside.history c.args.receipt.now.history (c.self.invariant.0 (sym c.is_some.ensures ∙ c.if-is_some.false)) q
