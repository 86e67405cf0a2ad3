use Rattle.std.proofs.Common.{refl, sym, subst}
use mathlib.Core.List.{IsPrefix}
use Rattle.gw_ledger.specs.Finding.{MessageState}
use Rattle.gw_ledger.proofs.Passing.{seen_again}
use Rattle.gw_ledger.proofs.ledger.Ledger.again.Goals as goal

pub put-requires : goal.put-requires
put-requires g c =
    let message : MessageState = record { place = c.message.inside.place; history = c.message.inside.front } in
    record {
      seen = seen_again g.R.Rules.routes g.J.Naming.before message c.args.self.now.desk.history c.args.receiver c.message.invariant
          (subst (λ (m : MessageState). IsPrefix m.history c.args.self.now.desk.history) (sym c.message.view_is) (c.if-not-has_seen.ensures.0 refl));
    }
