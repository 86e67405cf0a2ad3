use Rattle.std.proofs.Common.{arith, ap, sym, refl, ◌∙◌, map}
use Rattle.std.proofs.lemmas.List.{drop-map}
use Rattle.gw_gate.specs.declared.event.Entry as entry
use Rattle.gw_gate.specs.Seen.{conforming_seen}
use Rattle.gw_gate.specs.Entries.{entries_seen, start_seen}
use Rattle.gw_gate.specs.Values.{pair_seen}
use Rattle.gw_gate.proofs.Queue.{left_some}
use Rattle.gw_gate.proofs.Fitting.{fits_more, fits_taken}
use Rattle.gw_gate.proofs.Answering.{full, plain}
use Rattle.gw_gate.specs.Replies.{Takes, IsJob, IsIdle, reply_to}
use Rattle.gw_gate.proofs.Leaving.{fits_again, left_short, left_back, left_done}
use Rattle.gw_gate.proofs.books.Books.take.Goals as goal

pub invariant_of-self-2 : goal.invariant_of-self-2
invariant_of-self-2 c =
    let s = c.self.inside in
    let p = start_seen s.start in
    let h = entries_seen s.journal.items in
    let pair = c.in-Some.pair in
    let left = left_some p h pair.n pair.receiver _ (ap (λ j. reply_to j Takes) c.self.view_is ∙ c.in-Some.ensures) in
    let rest = ap (map pair_seen) c.pop_front.ensures.rest ∙ sym (drop-map pair_seen 1 s.queue.items) in
    fits_more p s.journal.items c.prepared.new.journal.items c.push_reserved.new.self.items (entry.TheVariants.Job pair.n pair.receiver) _ _
    c.prepared.ensures.same c.push_reserved.ensures.items (λ e. c.if-len-eq-MAX_ENTRIES.false (c.len.ensures ∙ s.journal.ok.0 ∙ e)) c.self.invariant
    (λ room. fits_taken p h _ pair.n pair.receiver (map pair_seen c.pop_front.new.self.items) left rest room c.self.invariant)

pub returns-in_default : goal.returns-in_default
returns-in_default c = plain c.args.takes c.args.self.now Takes IsIdle c.in_default.ensures refl refl

pub returns-then-len-eq-MAX_ENTRIES : goal.returns-then-len-eq-MAX_ENTRIES
returns-then-len-eq-MAX_ENTRIES c =
    let s = c.self.inside in
    full (start_seen s.start) s.journal.items c.args.self.now c.self.view_is c.args.takes Takes _ _ c.in-Some.ensures refl (sym (c.len.ensures ∙ s.journal.ok.0) ∙ c.if-len-eq-MAX_ENTRIES.true)

pub returns-in_default-try_clone : goal.returns-in_default-try_clone
returns-in_default-try_clone c =
    let s = c.self.inside in
    left_back (start_seen s.start) s.journal.items _ c.args.self.now Takes _ _ c.self.invariant c.self.view_is
    (λ e. c.if-len-eq-MAX_ENTRIES.false (c.len.ensures ∙ s.journal.ok.0 ∙ e)) c.in-Some.ensures refl

pub invariant_of-self : goal.invariant_of-self
invariant_of-self c = fits_again (start_seen c.self.inside.start) c.self.inside.journal.items _ _ c.prepared.ensures.same c.self.invariant

pub returns-in_default-prepared : goal.returns-in_default-prepared
returns-in_default-prepared c =
    let s = c.self.inside in
    left_short (start_seen s.start) s.journal.items c.prepared.new.journal.items _ c.args.self.now Takes _ _ c.self.invariant c.self.view_is
    (λ e. c.if-len-eq-MAX_ENTRIES.false (c.len.ensures ∙ s.journal.ok.0 ∙ e)) c.prepared.ensures.same c.in-Some.ensures refl

pub push_reserved-requires : goal.push_reserved-requires
push_reserved-requires c = omega (arith, c.in-Ok-prepared.ensures.room)

pub returns : goal.returns
returns c =
    let s = c.self.inside in
    left_done (start_seen s.start) s.journal.items c.prepared.new.journal.items c.push_reserved.new.self.items _ c.args.self.now c.args.takes Takes _ (entry.TheVariants.Job c.in-Some.pair.n c.in-Some.pair.receiver) _ c.self.invariant c.self.view_is
    (λ e. c.if-len-eq-MAX_ENTRIES.false (c.len.ensures ∙ s.journal.ok.0 ∙ e)) c.prepared.ensures.same c.push_reserved.ensures.items c.in-Ok-prepared.ensures.note
    (c.in-Some.ensures ∙ ap (λ x. IsJob c.in-Some.pair.n c.in-Some.pair.receiver (conforming_seen x)) (sym c.in-Ok.ensures)) refl
