use Rattle.std.proofs.Common.{◌≡◌, ◌++◌, ◌∷◌, [], refl, sym, subst}
use Rattle.std.proofs.lemmas.Bool.{false≢true}
use Rattle.gw_journal.specs.Logs.{IsTrue, records_of}
use Rattle.gw_journal.specs.declared.event.Event.TheVariants.{Read}
use Rattle.gw_journal.proofs.Logging.{log_read, synced_more}
use Rattle.gw_journal.proofs.desk.Desk.note.Goals as goal

pub invariant_of-self : goal.invariant_of-self
invariant_of-self g c = (
  (λ broken. absurd (false≢true (sym broken))),
  synced_more g.J.Naming.before c.self.inside.history c.add.new.self c.self.inside.settled c.add.ensures.later c.self.invariant.1,
)

pub invariant_of-self-else-not-add : goal.invariant_of-self-else-not-add
invariant_of-self-else-not-add g c =
    let old = c.self.inside.history in
    let is : c.add.new.self ≡ old ++ Read c.args.place c.args.bytes.now ∷ [] = c.if-not-add.ensures.added refl in
    let same = log_read g.J.Naming.before old c.add.new.self c.args.place c.args.bytes.now is in (
      (λ ok. subst (λ l. IsTrue g.S.Storage.stands c.self.inside.storage (records_of c.self.inside.batch.items) c.self.inside.given c.self.inside.settled l) (sym same) (c.self.invariant.0 ok)),
      synced_more g.J.Naming.before old c.add.new.self c.self.inside.settled c.add.ensures.later c.self.invariant.1,
    )
