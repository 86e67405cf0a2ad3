use Rattle.std.proofs.Common.{◌≡◌, ◌++◌, ◌∷◌, [], Some, refl, sym, subst}
use Rattle.std.proofs.lemmas.Bool.{false≢true}
use Rattle.gw_journal.specs.Logs.{ComesBack, DeskState, DoneState, IsDone, IsTrue, log_in, records_of}
use Rattle.gw_journal.specs.declared.event.Event.TheVariants.{Synced}
use Rattle.gw_journal.proofs.Logging.{true_back, synced_more, synced_now}
use Rattle.gw_journal.proofs.desk.Desk.give_back.Goals as goal

pub invariant_of-self : goal.invariant_of-self
invariant_of-self g c = (
  (λ broken. absurd (false≢true (sym broken))),
  synced_more g.J.Naming.before c.self.inside.history c.add.new.self c.self.inside.settled c.add.ensures.later c.self.invariant.1,
)

pub invariant_of-self-2 : goal.invariant_of-self-2
invariant_of-self-2 g c =
    let desk = c.self.inside in
    let done = c.done.inside in
    let taken : DoneState g.row.S.Denot = record {
      storage = done.storage;
      given = done.given;
      history = done.front;
    } in
    let here : DeskState g.row.S.Denot = record {
      storage = desk.storage;
      batch = records_of desk.batch.items;
      given = desk.given;
      settled = desk.settled;
      history = desk.history;
      fault = desk.fault;
    } in
    let back : ComesBack here taken = subst (λ d. ComesBack d taken) (sym c.self.view_is) (subst (λ j. ComesBack c.args.self.now j) (sym c.done.view_is) (c.if-not-is_ours.ensures.0 refl)) in
    let is : c.add.new.self ≡ desk.history ++ Synced done.given ∷ [] = c.if-not-add.ensures.added refl in
    let all = subst (λ n. IsDone g.S.Storage.stands (record { storage = done.storage; given = n; history = done.front })
    (log_in g.J.Naming.before done.front)) back.given c.done.invariant in
    let now = subst (λ n. c.add.new.self ≡ desk.history ++ Synced n ∷ []) back.given is in (
      (λ ok. subst (λ n. IsTrue g.S.Storage.stands (Some done.storage) (records_of desk.batch.items) desk.given n (log_in g.J.Naming.before c.add.new.self)) (sym back.given)
          (true_back g.S.Storage.stands g.J.Naming.before desk.storage done.storage (records_of desk.batch.items) desk.given desk.settled
          done.front desk.history c.add.new.self back.part now all (c.self.invariant.0 ok))),
      synced_now g.J.Naming.before desk.history c.add.new.self done.given is,
    )
