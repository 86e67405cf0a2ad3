use Rattle.std.proofs.Common.{◌+◌, ◌∙◌, slice_get, ap, sym}
use Rattle.std.proofs.lemmas.Option.{none-some}
use Rattle.std.specs.Arc.{arc_value}
use Rattle.gw_reorder.proofs.Places.{equals, equal_numbers}
use Rattle.gw_gate.specs.Entries.{entries_seen, start_seen}
use Rattle.gw_gate.specs.Seen.{plan_seen}
use Rattle.gw_gate.specs.Journal.{Journal, Start, end}
use Rattle.gw_gate.proofs.Entering.{as_long}
use Rattle.gw_gate.proofs.Releasing.{some_is}
use Rattle.gw_audit.specs.own.Joins.{plans_at}
use Rattle.gw_audit.proofs.Following.{accepted_count, arrived_count, denies, starts_so, turned}
use Rattle.gw_audit.proofs.parts.is_next.Goals as goal

pub returns-in_default : goal.returns-in_default
returns-in_default c =
    let last = turned _ _ _ _ _ _ c.part.invariant.plans c.deref.ensures.value (as_long c.part.inside.entries.now) c.passed-turn.ensures in
    let none = c.in_default.ensures ∙ ap (λ l. slice_get (plans_at l) c.passed-turn.result) c.deref-2.ensures.value in
    absurd (none-some _ (none ∙ last.plan))

pub returns-then-not-is_above : goal.returns-then-not-is_above
returns-then-not-is_above c =
    let last = turned _ _ _ _ _ _ c.part.invariant.plans c.deref.ensures.value (as_long c.part.inside.entries.now) c.passed-turn.ensures in
    rw (← c.part.view_is, ← c.next.view_is)
    (denies c.is_above.result c.if-not-is_above.true c.is_above.ensures
    (λ e. ap (λ (s : Start). s.version) e ∙ last.version))

pub returns-then-not-are_same : goal.returns-then-not-are_same
returns-then-not-are_same c =
    let last = turned _ _ _ _ _ _ c.part.invariant.plans c.deref.ensures.value (as_long c.part.inside.entries.now) c.passed-turn.ensures in
    let q = plan_seen (arc_value c.in-Some.plan.now) in
    let same = some_is q _ (c.in-Some.ensures ∙ ap (λ l. slice_get (plans_at l) c.passed-turn.result) c.deref-2.ensures.value ∙ last.plan) in
    rw (← c.part.view_is, ← c.next.view_is)
    (denies c.are_same.result c.if-not-are_same.true c.are_same.ensures
    (λ e. ap plan_seen c.deref-3.ensures ∙ same ∙ sym (ap (λ (s : Start). s.plan) e) ∙ sym (ap plan_seen c.deref-4.ensures)))

pub returns-then-not-is_above-2 : goal.returns-then-not-is_above-2
returns-then-not-is_above-2 c =
    rw (← c.part.view_is, ← c.next.view_is)
    (denies c.is_above-2.result c.if-not-is_above-2.true c.is_above-2.ensures
    (λ e. ap (λ (s : Start). s.acceptances) e
    ∙ ap (λ n. c.part.inside.start.now.acceptances + n) (accepted_count (entries_seen c.part.inside.entries.now) ∙ sym c.count-accepted.ensures)))

pub returns-then-not-is_above-3 : goal.returns-then-not-is_above-3
returns-then-not-is_above-3 c =
    rw (← c.part.view_is, ← c.next.view_is)
    (denies c.is_above-3.result c.if-not-is_above-3.true c.is_above-3.ensures
    (λ e. ap (λ (s : Start). s.arrivals) e
    ∙ ap (λ n. c.part.inside.start.now.arrivals + n) (arrived_count (entries_seen c.part.inside.entries.now) ∙ sym c.count-arrived.ensures)))

pub returns : goal.returns
returns c =
    let last = turned _ _ _ _ _ _ c.part.invariant.plans c.deref.ensures.value (as_long c.part.inside.entries.now) c.passed-turn.ensures in
    let q = plan_seen (arc_value c.in-Some.plan.now) in
    let same = some_is q _ (c.in-Some.ensures ∙ ap (λ l. slice_get (plans_at l) c.passed-turn.result) c.deref-2.ensures.value ∙ last.plan) in
    let from = ap (λ (k : Journal). k.start.entries) c.next.view_is ∙ sym c.start.ensures in
    let to = c.end.ensures ∙ sym (ap (λ (k : Journal). end k) c.part.view_is) in
    rw (← c.part.view_is, ← c.next.view_is) (
      λ t. starts_so (start_seen c.next.inside.start.now) _
          (c.is_above.ensures.0 c.if-not-is_above.false ∙ sym last.version)
          (sym (ap plan_seen c.deref-4.ensures) ∙ sym (c.are_same.ensures.0 c.if-not-are_same.false) ∙ ap plan_seen c.deref-3.ensures ∙ same)
          (c.is_above-2.ensures.0 c.if-not-is_above-2.false
          ∙ ap (λ n. c.part.inside.start.now.acceptances + n) (c.count-accepted.ensures ∙ sym (accepted_count (entries_seen c.part.inside.entries.now))))
          (c.is_above-3.ensures.0 c.if-not-is_above-3.false
          ∙ ap (λ n. c.part.inside.start.now.arrivals + n) (c.count-arrived.ensures ∙ sym (arrived_count (entries_seen c.part.inside.entries.now))))
          (from ∙ equal_numbers c.start.result c.end.result t ∙ to),
      λ e. equals c.start.result c.end.result (sym from ∙ ap (λ (s : Start). s.entries) e ∙ sym to),
    )
