use Rattle.std.proofs.Common.{arith, ap, ◌∙◌, sym, refl, Some}
use Rattle.std.specs.Arc.{arc_value}
use Rattle.gw_gate.specs.declared.event.Entry as entry
use Rattle.gw_gate.specs.Seen.{translated_seen}
use Rattle.gw_gate.specs.Replies.{Releases, reply_to, IsOut, IsNothing}
use Rattle.gw_gate.specs.Entries.{entries_seen, start_seen}
use Rattle.gw_gate.specs.own.Desks.{desk_at}
use Rattle.gw_gate.proofs.Fitting.{fits_more, fits_out}
use Rattle.gw_gate.proofs.Accounts.{out_next}
use Rattle.gw_gate.proofs.Answering.{full, plain}
use Rattle.gw_gate.specs.Journal.{WasOut}
use Rattle.gw_gate.proofs.Leaving.{fits_again, left_short, left_back, left_done}
use Rattle.gw_gate.proofs.books.Books.release.Goals as goal

pub invariant_of-self-2 : goal.invariant_of-self-2
invariant_of-self-2 c =
    let s = c.self.inside in
    let p = start_seen s.start in
    let h = entries_seen s.journal.items in
    let n = c.in-Some.n in
    let r = c.args.receiver in
    let t = translated_seen (arc_value c.in-Some.next.now) in
    let next = out_next p h n r t (desk_at s.desks.items r) (c.self.invariant.desks r) (ap (λ j. reply_to j (Releases r)) c.self.view_is ∙ c.in-Some.ensures) in
    fits_more p s.journal.items c.prepared.new.journal.items c.push_reserved.new.self.items (entry.TheVariants.Out n r c.in-Ok-Ok.copy) _ _
    c.prepared.ensures.same c.push_reserved.ensures.items (λ e. c.if-len-eq-MAX_ENTRIES.false (c.len.ensures ∙ s.journal.ok.0 ∙ e)) c.self.invariant
    (λ room. rw c.in-Ok-Ok.ensures' (fits_out p h _ n r t (desk_at c.release_at.new.desks.items) next c.release_at.ensures.this c.release_at.ensures.others room c.self.invariant))

pub returns-in_default : goal.returns-in_default
returns-in_default c = plain c.args.takes c.args.self.now (Releases c.args.receiver) IsNothing c.in_default.ensures refl refl

pub returns-then-len-eq-MAX_ENTRIES : goal.returns-then-len-eq-MAX_ENTRIES
returns-then-len-eq-MAX_ENTRIES c =
    let s = c.self.inside in
    full (start_seen s.start) s.journal.items c.args.self.now c.self.view_is c.args.takes (Releases c.args.receiver) _ _ c.in-Some.ensures refl (sym (c.len.ensures ∙ s.journal.ok.0) ∙ c.if-len-eq-MAX_ENTRIES.true)

pub returns-in_default-2 : goal.returns-in_default-2
returns-in_default-2 c =
    let s = c.self.inside in
    left_back (start_seen s.start) s.journal.items _ c.args.self.now (Releases c.args.receiver) _ _ c.self.invariant c.self.view_is
    (λ e. c.if-len-eq-MAX_ENTRIES.false (c.len.ensures ∙ s.journal.ok.0 ∙ e)) c.in-Some.ensures refl

pub invariant_of-self : goal.invariant_of-self
invariant_of-self c = fits_again (start_seen c.self.inside.start) c.self.inside.journal.items _ _ c.prepared.ensures.same c.self.invariant

pub returns-in_default-prepared : goal.returns-in_default-prepared
returns-in_default-prepared c =
    let s = c.self.inside in
    left_short (start_seen s.start) s.journal.items c.prepared.new.journal.items _ c.args.self.now (Releases c.args.receiver) _ _ c.self.invariant c.self.view_is
    (λ e. c.if-len-eq-MAX_ENTRIES.false (c.len.ensures ∙ s.journal.ok.0 ∙ e)) c.prepared.ensures.same c.in-Some.ensures refl

pub push_reserved-requires : goal.push_reserved-requires
push_reserved-requires c = omega (arith, c.in-Ok.ensures.room)

pub returns : goal.returns
returns c =
    let s = c.self.inside in
    left_done (start_seen s.start) s.journal.items c.prepared.new.journal.items c.push_reserved.new.self.items _ c.args.self.now c.args.takes (Releases c.args.receiver) _ (entry.TheVariants.Out c.in-Some.n c.args.receiver c.in-Ok-Ok.copy) _ c.self.invariant c.self.view_is
    (λ e. c.if-len-eq-MAX_ENTRIES.false (c.len.ensures ∙ s.journal.ok.0 ∙ e)) c.prepared.ensures.same c.push_reserved.ensures.items c.in-Ok.ensures.note
    (c.in-Some.ensures ∙ ap (λ x. IsOut c.in-Some.n (translated_seen x)) (sym c.in-Ok-Ok.ensures)) (ap (λ x. Some (WasOut c.in-Some.n c.args.receiver (translated_seen x))) (c.in-Ok-Ok.ensures ∙ sym c.in-Ok-Ok.ensures'))
