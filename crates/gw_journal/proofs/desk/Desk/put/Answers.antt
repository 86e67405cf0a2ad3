use Rattle.std.proofs.Common.{rules, ◌≡◌, ◌++◌, ◌+◌, ◌<◌, ◌^◌, ◌∷◌, [], length, refl, sym, ◌∙◌, ap, subst, arith}
use Rattle.std.proofs.lemmas.Bool.{false≢true}
use Rattle.gw_journal.specs.Logs.{Fits, IsAt, log_in, records_of}
use Rattle.gw_journal.specs.declared.event.Event.TheVariants.{Put}
use Rattle.gw_journal.proofs.Logging.{true_put, put_at, synced_more, records_more, records_size}
use Rattle.gw_journal.proofs.desk.Desk.put.Goals as goal

pub invariant_of-self-then-not-add : goal.invariant_of-self-then-not-add
invariant_of-self-then-not-add g c = (
  (λ broken. absurd (false≢true (sym broken))),
  synced_more g.J.Naming.before c.self.inside.history c.add.new.self c.self.inside.settled c.add.ensures.later c.self.invariant.1,
)

pub invariant_of-self-2 : goal.invariant_of-self-2
invariant_of-self-2 g c =
    let old = c.self.inside.history in
    let is : c.add.new.self ≡ old ++ Put c.args.bytes.items ∷ [] = c.if-not-add.ensures.added refl ∙ ap (λ b. old ++ Put b ∷ []) c.deref.ensures.value in
    let more = records_more c.self.inside.batch.items c.reserve.new.self.items c.push_reserved.new.self.items c.args.bytes c.reserve.ensures.items c.push_reserved.ensures.items in
    let room : c.self.inside.given + length (records_of c.self.inside.batch.items) < 2 ^ 62 =
    omega (arith, c.if-place-ge-MOST.false, c.len-2.ensures, c.self.inside.batch.ok, records_size c.self.inside.batch.items) in
    let fits : Fits c.args.bytes.items = record { some = λ none. search rules; short = omega (arith, c.if-len-gt-LONGEST.false, c.len.ensures) } in (
      (λ ok. true_put g.S.Storage.stands g.J.Naming.before c.self.inside.storage (records_of c.self.inside.batch.items)
          (records_of c.push_reserved.new.self.items) c.self.inside.given c.self.inside.settled old c.add.new.self c.args.bytes.items is more room fits (c.self.invariant.0 ok)),
      synced_more g.J.Naming.before old c.add.new.self c.self.inside.settled c.add.ensures.later c.self.invariant.1,
    )

pub returns-clause-put : goal.returns-clause-put
returns-clause-put g c =
    let old = c.self.inside.history in
    let is : c.add.new.self ≡ old ++ Put c.args.bytes.items ∷ [] = c.if-not-add.ensures.added refl ∙ ap (λ b. old ++ Put b ∷ []) c.deref.ensures.value in
    let count : c.len-2.result ≡ length (records_of c.self.inside.batch.items) =
    omega (arith, c.len-2.ensures, c.self.inside.batch.ok, records_size c.self.inside.batch.items) in
    subst (λ h. IsAt (c.self.inside.given + c.len-2.result) c.args.bytes.items (log_in g.J.Naming.before h)) (sym (c.again.ensures ∙ c.front.ensures))
    (put_at g.S.Storage.stands g.J.Naming.before c.self.inside.storage (records_of c.self.inside.batch.items) c.self.inside.given c.self.inside.settled
    (c.self.inside.given + c.len-2.result) old c.add.new.self c.args.bytes.items is (c.self.invariant.0 (search rules)) (ap (λ n. c.self.inside.given + n) count))
