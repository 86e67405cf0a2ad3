use Rattle.std.proofs.Common.{Some, None, ap, sym, ◌∙◌, refl}
use Rattle.std.specs.Arc.{arc_value}
use Rattle.gw_reorder.specs.Calls.{status_of}
use Rattle.gw_gate.specs.Parts.{same_source}
use Rattle.gw_gate.specs.Seen.{conforming_seen, translated_seen}
use Rattle.gw_gate.specs.Journal.{acceptance}
use Rattle.gw_gate.specs.Entries.{entries_seen, start_seen}
use Rattle.gw_gate.specs.Replies.{Puts, reply_to}
use Rattle.gw_gate.specs.own.Books.{under}
use Rattle.gw_gate.specs.own.Desks.{desk_at}
use Rattle.gw_gate.proofs.Accounts.{put_is, put_other}
use Rattle.gw_gate.proofs.books.Books.put_status.Goals as goal

pub returns : goal.returns
returns c =
    let s = c.self.inside in
    let n = c.args.n in
    let t = translated_seen c.args.translated.now in
    ap (λ j. reply_to j (Puts n t)) (sym c.self.view_is)
    ∙ put_is (start_seen s.start) (entries_seen s.journal.items) n t (conforming_seen (arc_value c.in-Some.conforming.now)) (desk_at s.desks.items t.receiver) c.status_at.result (c.self.invariant.desks t.receiver)
    (ap (λ j. acceptance j.entries n) c.self.view_is ∙ c.in-Some.ensures)
    (ap (λ x. same_source t.source (conforming_seen x)) (sym c.deref.ensures) ∙ sym c.is_of.ensures ∙ c.if-not-is_of.false)
    (c.status_at.ensures ∙ ap (λ ds. status_of (desk_at ds c.receiver-receiver.result) n) c.deref-2.ensures.value ∙ ap (λ r. status_of (desk_at s.desks.items r) n) c.receiver-receiver.ensures)

pub returns-then-not-is_of : goal.returns-then-not-is_of
returns-then-not-is_of c =
    let t = translated_seen c.args.translated.now in
    put_other c.args.self.now c.args.n t (Some (under c.args.n (conforming_seen (arc_value c.in-Some.conforming.now)))) c.in-Some.ensures
    (ap (λ x. same_source t.source (conforming_seen x)) (sym c.deref.ensures) ∙ sym c.is_of.ensures ∙ c.if-not-is_of.true)

pub returns-in_default : goal.returns-in_default
returns-in_default c = put_other c.args.self.now c.args.n (translated_seen c.args.translated.now) None c.in_default.ensures refl
