use Rattle.std.proofs.Common.{◌≡◌, ◌+◌, [], length, map, sym, ap, ◌∙◌, Vec}
use Rattle.std.specs.Arc.{arc_value}
use Rattle.std.specs.declared.alloc.Global.{Global}
use Rattle.gw_gate.specs.declared.event.Entry.{Entry}
use Rattle.gw_gate.specs.Seen.{plan_seen}
use Rattle.gw_gate.specs.Journal.{from, start_after}
use Rattle.gw_gate.specs.Entries.{entries_seen, start_seen}
use Rattle.gw_gate.specs.Values.{pair_seen}
use Rattle.gw_gate.specs.own.Desks.{desk_at}
use Rattle.gw_gate.specs.own.Books.{BooksSeen, journal_of}
use Rattle.gw_gate.proofs.Closed.{closed_fits, few_is, next_is, next_start}
use Rattle.gw_gate.proofs.books.Books.close.Goals as goal

-- the books before
abbrev before : goal.After-replace-entries → BooksSeen
before c =
    let s = c.self.inside in
    record { version = s.version; plan = plan_seen (arc_value s.plan); arrivals = s.arrivals; places = s.places.items; queue = map pair_seen s.queue.items; desk = desk_at s.desks.items }

start_is : (c : goal.After-replace-entries) → start_seen c.replace-start.new.dest ≡ next_start (start_seen c.self.inside.start) (entries_seen c.self.inside.journal.items) (before c)
start_is c =
    let s = c.self.inside in
    let plan : plan_seen (arc_value c.in_ok-plan.plan) ≡ plan_seen (arc_value s.plan) = ap plan_seen c.in_ok-plan.ensures in
    let long : s.start.acceptances + c.len.result ≡ s.start.acceptances + length s.places.items = ap (λ k. s.start.acceptances + k) (c.len.ensures ∙ s.places.ok.0) in
    let end : c.end-entries.result ≡ s.start.entries + length (entries_seen s.journal.items) = c.end-entries.ensures.value ∙ ap (λ j. j.start.entries + length j.entries) (sym c.self.view_is) in
    ap start_seen c.replace-start.ensures.after ∙ (λ i. record { version = s.version; plan = plan i; acceptances = long i; arrivals = s.arrivals; entries = end i })

none_left : (c : goal.After-replace-entries) → entries_seen c.replace-entries.new.dest.items ≡ []
none_left c = ap (λ (v : Vec Entry Global). entries_seen v.items) c.replace-entries.ensures.after ∙ ap entries_seen c.new.ensures.items

pub invariant_of-self : goal.invariant_of-self
invariant_of-self c =
    let s = c.self.inside in
    closed_fits (start_seen s.start) (entries_seen s.journal.items) (before c) (desk_at c.restart_all.new.desks.items) (start_seen c.replace-start.new.dest) (entries_seen c.replace-entries.new.dest.items)
    c.clear.new.self.items (map pair_seen c.clear-2.new.self.items) (start_is c) (none_left c) c.clear.ensures.items (ap (map pair_seen) c.clear-2.ensures.items) c.self.invariant
    (few_is (start_seen s.start) (entries_seen s.journal.items) c.args.self.now c.self.view_is (sym c.is_pending.ensures ∙ c.if-is_pending.false)) c.restart_all.ensures

pub returns : goal.returns
returns c =
    let s = c.self.inside in
    let next = start_is c ∙ next_is (start_seen s.start) (entries_seen s.journal.items) (before c) c.self.invariant in
    let none = none_left c in (
      sym c.is_pending.ensures ∙ c.if-is_pending.false,
      (λ i. journal_of (start_seen (c.replace-start.ensures.value i)) (entries_seen (c.replace-entries.ensures.value i).items)) ∙ c.self.view_is,
      (λ i. journal_of (next i) (none i)) ∙ ap (λ j. from (start_after j)) c.self.view_is,
    )
