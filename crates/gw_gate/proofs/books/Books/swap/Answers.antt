use Rattle.std.proofs.Common.{◌+◌, ◌∙◌, Some, arith, ap, sym, refl}
use Rattle.std.specs.Arc.{arc_value}
use Rattle.gw_gate.specs.declared.event.Entry as entry
use Rattle.gw_gate.specs.Parts.{same_receivers}
use Rattle.gw_gate.specs.Seen.{plan_seen}
use Rattle.gw_gate.specs.Journal.{WasSwapped}
use Rattle.gw_gate.specs.Entries.{entries_seen, start_seen}
use Rattle.gw_gate.specs.Replies.{Swaps, IsSwapped, IsUnlike, reply_to}
use Rattle.gw_gate.proofs.Fitting.{fits_more, fits_swapped}
use Rattle.gw_gate.proofs.Answering.{plain, full}
use Rattle.gw_gate.proofs.Leaving.{fits_again, left_short, left_done, swap_is, unlike_is, left_back}
use Rattle.gw_gate.proofs.books.Books.swap.Goals as goal

pub overflow_add-version : goal.overflow_add-version
overflow_add-version c = let k = c.self.invariant.plans.few in let w = c.self.invariant.within in let f = c.self.invariant.starts.few in omega (arith, k, w, f)

pub invariant_of-self : goal.invariant_of-self
invariant_of-self c = fits_again (start_seen c.self.inside.start) c.self.inside.journal.items _ _ c.prepared.ensures.same c.self.invariant

pub invariant_of-self-2 : goal.invariant_of-self-2
invariant_of-self-2 c =
    let s = c.self.inside in
    let p = start_seen s.start in
    let v = s.version + 1 in
    fits_more p s.journal.items c.prepared.new.journal.items c.push_reserved.new.self.items (entry.TheVariants.Swapped v c.in-Ok.copy) _ _
    c.prepared.ensures.same c.push_reserved.ensures.items (λ e. c.if-len-eq-MAX_ENTRIES.false (c.len.ensures ∙ s.journal.ok.0 ∙ e)) c.self.invariant
    (λ room. rw c.in-Ok.ensures (fits_swapped p (entries_seen s.journal.items) _ v (plan_seen (arc_value c.args.plan)) refl room c.self.invariant))

pub returns-then-not-are_alike : goal.returns-then-not-are_alike
returns-then-not-are_alike c =
    let s = c.self.inside in
    plain c.args.takes c.args.self.now (Swaps (plan_seen (arc_value c.args.plan))) (IsUnlike (plan_seen (arc_value c.args.plan)))
    (ap (λ j. reply_to j (Swaps (plan_seen (arc_value c.args.plan)))) (sym c.self.view_is) ∙ unlike_is (start_seen s.start) (entries_seen s.journal.items) (plan_seen (arc_value c.args.plan))
    (ap (λ x. same_receivers (plan_seen (arc_value c.args.plan)) (plan_seen x)) (sym c.deref-2.ensures) ∙ ap (λ x. same_receivers (plan_seen x) (plan_seen c.deref-2.result.now)) (sym c.deref.ensures) ∙ sym c.are_alike.ensures ∙ c.if-not-are_alike.true)) refl refl

pub returns-then-len-eq-MAX_ENTRIES : goal.returns-then-len-eq-MAX_ENTRIES
returns-then-len-eq-MAX_ENTRIES c =
    let s = c.self.inside in
    full (start_seen s.start) s.journal.items c.args.self.now c.self.view_is c.args.takes (Swaps (plan_seen (arc_value c.args.plan))) _ _ (ap (λ j. reply_to j (Swaps (plan_seen (arc_value c.args.plan)))) (sym c.self.view_is) ∙ swap_is (start_seen s.start) (entries_seen s.journal.items) _ (plan_seen (arc_value c.args.plan)) c.self.invariant
    (ap (λ x. same_receivers (plan_seen (arc_value c.args.plan)) (plan_seen x)) (sym c.deref-2.ensures) ∙ ap (λ x. same_receivers (plan_seen x) (plan_seen c.deref-2.result.now)) (sym c.deref.ensures) ∙ sym c.are_alike.ensures ∙ c.if-not-are_alike.false)) refl (sym (c.len.ensures ∙ s.journal.ok.0) ∙ c.if-len-eq-MAX_ENTRIES.true)

pub returns-in_default : goal.returns-in_default
returns-in_default c =
    let s = c.self.inside in
    left_back (start_seen s.start) s.journal.items _ c.args.self.now (Swaps (plan_seen (arc_value c.args.plan))) _ _ c.self.invariant c.self.view_is
    (λ e. c.if-len-eq-MAX_ENTRIES.false (c.len.ensures ∙ s.journal.ok.0 ∙ e)) (ap (λ j. reply_to j (Swaps (plan_seen (arc_value c.args.plan)))) (sym c.self.view_is) ∙ swap_is (start_seen s.start) (entries_seen s.journal.items) _ (plan_seen (arc_value c.args.plan)) c.self.invariant
    (ap (λ x. same_receivers (plan_seen (arc_value c.args.plan)) (plan_seen x)) (sym c.deref-2.ensures) ∙ ap (λ x. same_receivers (plan_seen x) (plan_seen c.deref-2.result.now)) (sym c.deref.ensures) ∙ sym c.are_alike.ensures ∙ c.if-not-are_alike.false)) refl

pub returns-in_default-prepared : goal.returns-in_default-prepared
returns-in_default-prepared c =
    let s = c.self.inside in
    left_short (start_seen s.start) s.journal.items c.prepared.new.journal.items _ c.args.self.now (Swaps (plan_seen (arc_value c.args.plan))) _ _ c.self.invariant c.self.view_is
    (λ e. c.if-len-eq-MAX_ENTRIES.false (c.len.ensures ∙ s.journal.ok.0 ∙ e)) c.prepared.ensures.same (ap (λ j. reply_to j (Swaps (plan_seen (arc_value c.args.plan)))) (sym c.self.view_is) ∙ swap_is (start_seen s.start) (entries_seen s.journal.items) _ (plan_seen (arc_value c.args.plan)) c.self.invariant
    (ap (λ x. same_receivers (plan_seen (arc_value c.args.plan)) (plan_seen x)) (sym c.deref-2.ensures) ∙ ap (λ x. same_receivers (plan_seen x) (plan_seen c.deref-2.result.now)) (sym c.deref.ensures) ∙ sym c.are_alike.ensures ∙ c.if-not-are_alike.false)) refl

pub push_reserved-requires : goal.push_reserved-requires
push_reserved-requires c = omega (arith, c.in-Ok-prepared.ensures.room)

pub returns : goal.returns
returns c =
    let s = c.self.inside in
    left_done (start_seen s.start) s.journal.items c.prepared.new.journal.items c.push_reserved.new.self.items _ c.args.self.now c.args.takes (Swaps (plan_seen (arc_value c.args.plan))) (IsSwapped (s.version + 1)) (entry.TheVariants.Swapped (s.version + 1) c.in-Ok.copy) _ c.self.invariant c.self.view_is
    (λ e. c.if-len-eq-MAX_ENTRIES.false (c.len.ensures ∙ s.journal.ok.0 ∙ e)) c.prepared.ensures.same c.push_reserved.ensures.items c.in-Ok-prepared.ensures.note
    (ap (λ j. reply_to j (Swaps (plan_seen (arc_value c.args.plan)))) (sym c.self.view_is) ∙ swap_is (start_seen s.start) (entries_seen s.journal.items) _ (plan_seen (arc_value c.args.plan)) c.self.invariant
    (ap (λ x. same_receivers (plan_seen (arc_value c.args.plan)) (plan_seen x)) (sym c.deref-2.ensures) ∙ ap (λ x. same_receivers (plan_seen x) (plan_seen c.deref-2.result.now)) (sym c.deref.ensures) ∙ sym c.are_alike.ensures ∙ c.if-not-are_alike.false)) (ap (λ x. Some (WasSwapped (s.version + 1) (plan_seen x))) (sym c.in-Ok.ensures))
