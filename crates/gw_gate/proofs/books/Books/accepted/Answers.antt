use Rattle.std.proofs.Common.{◌-◌, Some, None, ap, sym, ◌∙◌, map, slice_get}
use Rattle.std.specs.Option.{option_map}
use Rattle.std.proofs.lemmas.Option.{slice_get-map}
use Rattle.gw_gate.specs.Journal.{acceptance}
use Rattle.gw_gate.specs.Entries.{entry_seen, entries_seen, start_seen}
use Rattle.gw_gate.specs.Values.{pair_seen}
use Rattle.gw_gate.specs.own.Books.{accepted_in, under}
use Rattle.gw_gate.proofs.Lending.{lent_at}
use Rattle.gw_gate.proofs.Queue.{none_before, found_at}
use Rattle.gw_gate.proofs.books.Books.accepted.Goals as goal

pub returns-then-n-self : goal.returns-then-n-self
returns-then-n-self c =
    let s = c.self.inside in
    ap (λ j. acceptance j.entries c.args.n) (sym c.self.view_is) ∙ none_before (start_seen s.start) (entries_seen s.journal.items) s.places.items (map pair_seen s.queue.items) c.self.invariant.queue c.args.n c.if-n-self.true

pub returns-in_default : goal.returns-in_default
returns-in_default c =
    let s = c.self.inside in
    let k = c.args.n - s.start.acceptances in
    let is = ap (λ l. slice_get l k) (sym c.deref.ensures.value) ∙ sym (lent_at c.deref.result.now k None c.in_default.ensures.lookup) in
    ap (λ j. acceptance j.entries c.args.n) (sym c.self.view_is) ∙ found_at (start_seen s.start) (entries_seen s.journal.items) s.places.items (map pair_seen s.queue.items) c.self.invariant.queue c.args.n None c.if-n-self.false is

pub returns-in_default-get : goal.returns-in_default-get
returns-in_default-get c =
    let s = c.self.inside in
    let k = c.args.n - s.start.acceptances in
    let place = c.in-Some.place.now in
    let is = ap (λ l. slice_get l k) (sym c.deref.ensures.value) ∙ sym (lent_at c.deref.result.now k (Some c.in-Some.place) c.in-Some.ensures.lookup) in
    let at = ap (λ l. slice_get l place) (sym c.deref-2.ensures.value) ∙ sym (lent_at c.deref-2.result.now place None c.in_default-get.ensures.lookup) in
    ap (λ j. acceptance j.entries c.args.n) (sym c.self.view_is)
    ∙ found_at (start_seen s.start) (entries_seen s.journal.items) s.places.items (map pair_seen s.queue.items) c.self.invariant.queue c.args.n (Some place) c.if-n-self.false is
    ∙ ap (λ o. option_map (under c.args.n) (accepted_in o)) (slice_get-map entry_seen s.journal.items place ∙ ap (option_map entry_seen) at)

pub returns : goal.returns
returns c =
    let s = c.self.inside in
    let k = c.args.n - s.start.acceptances in
    let place = c.in-Some.place.now in
    let is = ap (λ l. slice_get l k) (sym c.deref.ensures.value) ∙ sym (lent_at c.deref.result.now k (Some c.in-Some.place) c.in-Some.ensures.lookup) in
    let at = ap (λ l. slice_get l place) (sym c.deref-2.ensures.value) ∙ sym (lent_at c.deref-2.result.now place (Some c.in-Some-get.entry) c.in-Some-get.ensures.lookup) in
    ap (λ j. acceptance j.entries c.args.n) (sym c.self.view_is)
    ∙ found_at (start_seen s.start) (entries_seen s.journal.items) s.places.items (map pair_seen s.queue.items) c.self.invariant.queue c.args.n (Some place) c.if-n-self.false is
    ∙ ap (λ o. option_map (under c.args.n) (accepted_in o)) (slice_get-map entry_seen s.journal.items place ∙ ap (option_map entry_seen) at)
    ∙ ap (option_map (under c.args.n)) (sym c.accepted.ensures)
