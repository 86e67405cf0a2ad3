use Rattle.std.proofs.Common.{◌≡◌, arith, ap, sym, ◌∙◌, refl, Some}
use Rattle.std.specs.Arc.{arc_value}
use Rattle.gw_reorder.specs.Calls.{status_of}
use Rattle.gw_gate.specs.declared.event.Entry as entry
use Rattle.gw_gate.specs.Seen.{translated_seen}
use Rattle.gw_gate.specs.Replies.{Puts, reply_to, IsKept}
use Rattle.gw_gate.specs.Journal.{is_due, WasKept}
use Rattle.gw_gate.specs.Entries.{entries_seen, start_seen}
use Rattle.gw_gate.specs.own.Desks.{desk_at}
use Rattle.gw_gate.proofs.Fitting.{fits_more, fits_kept}
use Rattle.gw_gate.proofs.Accounts.{kept_waits}
use Rattle.gw_gate.proofs.Answering.{full}
use Rattle.gw_gate.proofs.Leaving.{fits_again, left_short, left_back, left_done}
use Rattle.gw_gate.proofs.books.Books.keep.Goals as goal

pub hold_at-requires : goal.hold_at-requires
hold_at-requires c =
    let s = c.self.inside in
    let t = translated_seen (arc_value c.args.translated) in
    let r : c.receiver-receiver.result ≡ t.receiver = c.receiver-receiver.ensures ∙ ap (λ x. x.receiver) c.deref.ensures in
    ap (λ k. status_of (desk_at s.desks.items k) c.args.n) r
    ∙ (kept_waits (start_seen s.start) (entries_seen s.journal.items) c.args.n t (desk_at s.desks.items t.receiver) (c.self.invariant.desks t.receiver)
    (ap (λ j. reply_to j (Puts c.args.n t)) c.self.view_is ∙ c.requires)).1

pub invariant_of-self-2 : goal.invariant_of-self-2
invariant_of-self-2 c =
    let s = c.self.inside in
    let p = start_seen s.start in
    let t = translated_seen (arc_value c.args.translated) in
    let r : c.receiver-receiver.result ≡ t.receiver = c.receiver-receiver.ensures ∙ ap (λ x. x.receiver) c.deref.ensures in
    let due = (kept_waits p (entries_seen s.journal.items) c.args.n t (desk_at s.desks.items t.receiver) (c.self.invariant.desks t.receiver)
    (ap (λ j. reply_to j (Puts c.args.n t)) c.self.view_is ∙ c.requires)).0 in
    fits_more p s.journal.items c.prepared.new.journal.items c.push_reserved.new.self.items (entry.TheVariants.Kept c.args.n c.in-Ok.copy) _ _
    c.prepared.ensures.same c.push_reserved.ensures.items (λ e. c.if-len-eq-MAX_ENTRIES.false (c.len.ensures ∙ s.journal.ok.0 ∙ e)) c.self.invariant
    (λ room. rw c.in-Ok.ensures
    (fits_kept p (entries_seen s.journal.items) _ c.args.n c.receiver-receiver.result t (desk_at c.hold_at.new.desks.items) (sym r) (ap (is_due (entries_seen s.journal.items) c.args.n) r ∙ due) c.hold_at.ensures.this c.hold_at.ensures.others room c.self.invariant))

pub returns-then-len-eq-MAX_ENTRIES : goal.returns-then-len-eq-MAX_ENTRIES
returns-then-len-eq-MAX_ENTRIES c =
    let s = c.self.inside in
    full (start_seen s.start) s.journal.items c.args.self.now c.self.view_is c.args.takes (Puts c.args.n (translated_seen (arc_value c.args.translated))) _ _ c.requires refl (sym (c.len.ensures ∙ s.journal.ok.0) ∙ c.if-len-eq-MAX_ENTRIES.true)

pub returns-in_default : goal.returns-in_default
returns-in_default c =
    let s = c.self.inside in
    left_back (start_seen s.start) s.journal.items _ c.args.self.now (Puts c.args.n (translated_seen (arc_value c.args.translated))) _ _ c.self.invariant c.self.view_is
    (λ e. c.if-len-eq-MAX_ENTRIES.false (c.len.ensures ∙ s.journal.ok.0 ∙ e)) c.requires refl

pub invariant_of-self : goal.invariant_of-self
invariant_of-self c = fits_again (start_seen c.self.inside.start) c.self.inside.journal.items _ _ c.prepared.ensures.same c.self.invariant

pub returns-in_default-prepared : goal.returns-in_default-prepared
returns-in_default-prepared c =
    let s = c.self.inside in
    left_short (start_seen s.start) s.journal.items c.prepared.new.journal.items _ c.args.self.now (Puts c.args.n (translated_seen (arc_value c.args.translated))) _ _ c.self.invariant c.self.view_is
    (λ e. c.if-len-eq-MAX_ENTRIES.false (c.len.ensures ∙ s.journal.ok.0 ∙ e)) c.prepared.ensures.same c.requires refl

pub push_reserved-requires : goal.push_reserved-requires
push_reserved-requires c = omega (arith, c.in-Ok-prepared.ensures.room)

pub returns : goal.returns
returns c =
    let s = c.self.inside in
    left_done (start_seen s.start) s.journal.items c.prepared.new.journal.items c.push_reserved.new.self.items _ c.args.self.now c.args.takes (Puts c.args.n (translated_seen (arc_value c.args.translated))) IsKept (entry.TheVariants.Kept c.args.n c.in-Ok.copy) _ c.self.invariant c.self.view_is
    (λ e. c.if-len-eq-MAX_ENTRIES.false (c.len.ensures ∙ s.journal.ok.0 ∙ e)) c.prepared.ensures.same c.push_reserved.ensures.items c.in-Ok-prepared.ensures.note
    c.requires (ap (λ x. Some (WasKept c.args.n (translated_seen x))) (sym c.in-Ok.ensures))
