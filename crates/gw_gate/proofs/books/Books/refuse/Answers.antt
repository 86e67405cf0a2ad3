use Rattle.std.proofs.Common.{◌+◌, ◌∙◌, arith, ap, sym, refl}
use Rattle.gw_gate.specs.declared.event.Entry as entry
use Rattle.gw_gate.specs.Entries.{entries_seen, start_seen}
use Rattle.gw_gate.specs.Replies.{Refuses, IsRefused, reply_to}
use Rattle.gw_gate.proofs.Fitting.{fits_more, fits_refused}
use Rattle.gw_gate.proofs.Answering.{full}
use Rattle.gw_gate.proofs.Leaving.{fits_again, left_short, left_done, refuse_is}
use Rattle.gw_gate.proofs.books.Books.refuse.Goals as goal

pub overflow_add-arrival : goal.overflow_add-arrival
overflow_add-arrival c = let k = c.self.invariant.arrivals.few in let w = c.self.invariant.within in let f = c.self.invariant.starts.few in omega (arith, k, w, f)

pub returns-then-len-eq-MAX_ENTRIES : goal.returns-then-len-eq-MAX_ENTRIES
returns-then-len-eq-MAX_ENTRIES c =
    let s = c.self.inside in
    full (start_seen s.start) s.journal.items c.args.self.now c.self.view_is c.args.takes (Refuses c.args.code) _ _ refl refl (sym (c.len.ensures ∙ s.journal.ok.0) ∙ c.if-len-eq-MAX_ENTRIES.true)

pub invariant_of-self : goal.invariant_of-self
invariant_of-self c = fits_again (start_seen c.self.inside.start) c.self.inside.journal.items _ _ c.prepared.ensures.same c.self.invariant

pub returns-in_default : goal.returns-in_default
returns-in_default c =
    let s = c.self.inside in
    left_short (start_seen s.start) s.journal.items c.prepared.new.journal.items _ c.args.self.now (Refuses c.args.code) _ _ c.self.invariant c.self.view_is
    (λ e. c.if-len-eq-MAX_ENTRIES.false (c.len.ensures ∙ s.journal.ok.0 ∙ e)) c.prepared.ensures.same refl refl

pub push_reserved-requires : goal.push_reserved-requires
push_reserved-requires c = omega (arith, c.in-Ok.ensures.room)

pub invariant_of-self-2 : goal.invariant_of-self-2
invariant_of-self-2 c =
    let s = c.self.inside in
    let p = start_seen s.start in
    fits_more p s.journal.items c.prepared.new.journal.items c.push_reserved.new.self.items (entry.TheVariants.Refused (s.arrivals + 1) c.args.code) _ _
    c.prepared.ensures.same c.push_reserved.ensures.items (λ e. c.if-len-eq-MAX_ENTRIES.false (c.len.ensures ∙ s.journal.ok.0 ∙ e)) c.self.invariant
    (λ room. fits_refused p (entries_seen s.journal.items) _ (s.arrivals + 1) c.args.code room c.self.invariant)

pub returns : goal.returns
returns c =
    let s = c.self.inside in
    let p = start_seen s.start in
    left_done p s.journal.items c.prepared.new.journal.items c.push_reserved.new.self.items _ c.args.self.now c.args.takes (Refuses c.args.code) (IsRefused (s.arrivals + 1)) (entry.TheVariants.Refused (s.arrivals + 1) c.args.code) _ c.self.invariant c.self.view_is
    (λ e. c.if-len-eq-MAX_ENTRIES.false (c.len.ensures ∙ s.journal.ok.0 ∙ e)) c.prepared.ensures.same c.push_reserved.ensures.items c.in-Ok.ensures.note
    (ap (λ j. reply_to j (Refuses c.args.code)) (sym c.self.view_is) ∙ refuse_is p (entries_seen s.journal.items) _ c.args.code c.self.invariant) refl
