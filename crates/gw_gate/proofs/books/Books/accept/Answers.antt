use Rattle.std.proofs.Common.{◌≡◌, [], ◌++◌, ◌∷◌, ◌+◌, ◌<◌, All, Some, arith, refl, ap, sym, subst, ◌∙◌, map, length}
use Rattle.std.specs.Arc.{arc_value}
use Rattle.std.specs.declared.alloc.Global.{Global}
use Rattle.std.specs.declared.sync.Arc.{Arc}
use Rattle.gw_gate.specs.declared.event.Entry as entry
use Rattle.gw_gate.specs.Parts.{ConformingSeen, is_under}
use Rattle.gw_gate.specs.Seen.{Conforming, conforming_seen}
use Rattle.gw_gate.specs.Journal.{WasAccepted, pair, current}
use Rattle.gw_gate.specs.Replies.{Arrives, IsAccepted, reply_to}
use Rattle.gw_gate.specs.Entries.{entries_seen, start_seen}
use Rattle.gw_gate.specs.Values.{pair_seen}
use Rattle.gw_gate.specs.own.Desks.{desk_at, due_to}
use Rattle.gw_gate.proofs.Standing.{due_below}
use Rattle.gw_gate.proofs.Fitting.{fits_more, fits_accepted, fits_roomier}
use Rattle.gw_gate.proofs.Accounts.{accept_is, room_left}
use Rattle.gw_gate.proofs.Entering.{as_long}
use Rattle.gw_gate.proofs.Queue.{as_many}
use Rattle.gw_gate.proofs.Answering.{done, full}
use Rattle.gw_gate.proofs.Closed.{accepted_few, accepted_long}
use Rattle.gw_gate.proofs.Leaving.{fits_again, left_short, left_back, accept_row}
use Rattle.gw_gate.proofs.books.Books.accept.Goals as goal

abbrev seen : Arc Conforming Global → ConformingSeen
seen a = conforming_seen (arc_value a)

pub invariant_of-self-then-is_err : goal.invariant_of-self-then-is_err
invariant_of-self-then-is_err c =
    let s = c.self.inside in
    rw (c.prepared.ensures.same, c.make_rooms-grown.ensures.places, c.make_rooms-grown.ensures.queue)
    (fits_roomier (start_seen s.start) (entries_seen s.journal.items) _ (desk_at c.make_rooms-grown.new.desks.items) (λ r. (c.make_rooms-grown.ensures.desks r).same) c.self.invariant)

pub make_due-requires-clause-above : goal.make_due-requires-clause-above
make_due-requires-clause-above c r =
    let s = c.self.inside in
    let h = entries_seen s.journal.items in
    let n = s.start.acceptances + c.len.result in
    let is = ap (λ k. s.start.acceptances + k) (c.len.ensures ∙ s.places.ok.0 ∙ as_many (start_seen s.start) h s.places.items (map pair_seen s.queue.items) c.self.invariant.queue) in
    subst (All (λ m. m < n)) (sym ((c.make_rooms-grown.ensures.desks r).same.due ∙ (c.self.invariant.desks r).due_is)) (due_below h s.start.acceptances r n c.self.invariant.queue.numbered is)

pub invariant_of-self-2 : goal.invariant_of-self-2
invariant_of-self-2 c =
    let s = c.self.inside in
    let p = start_seen s.start in
    let h = entries_seen s.journal.items in
    let n = s.start.acceptances + c.len.result in
    let m = seen c.args.conforming in
    let is = ap (λ k. s.start.acceptances + k) (c.len.ensures ∙ s.places.ok.0 ∙ as_many p h s.places.items (map pair_seen s.queue.items) c.self.invariant.queue) in
    let places : c.push_reserved.new.self.items ≡ s.places.items ++ length h ∷ [] =
    c.push_reserved.ensures.items ∙ ap (λ l. l ++ c.len-place.result ∷ []) c.make_rooms-grown.ensures.places ∙ ap (λ k. s.places.items ++ k ∷ []) (c.len-place.ensures ∙ s.journal.ok.0 ∙ sym (as_long s.journal.items)) in
    let pairs : map pair_seen c.issue_all.new.queue.items ≡ map pair_seen s.queue.items ++ map (pair n) m.receivers =
    c.issue_all.ensures ∙ ap (λ l. map pair_seen l ++ map (pair n) (conforming_seen c.deref-2.result.now).receivers) c.make_rooms-grown.ensures.queue
    ∙ ap (λ x. map pair_seen s.queue.items ++ map (pair n) (conforming_seen x).receivers) c.deref-2.ensures in
    let grown = fits_roomier p h _ (desk_at c.make_rooms-grown.new.desks.items) (λ r. (c.make_rooms-grown.ensures.desks r).same) c.self.invariant in
    fits_more p s.journal.items c.prepared.new.journal.items c.push_reserved-2.new.self.items (entry.TheVariants.Accepted n (s.arrivals + 1) c.in-Ok.copy) _ _
    c.prepared.ensures.same c.push_reserved-2.ensures.items (λ e. c.if-place-eq-MAX_ENTRIES.false (c.len-place.ensures ∙ s.journal.ok.0 ∙ e)) c.self.invariant
    (λ room. rw (c.in-Ok.ensures, places, pairs)
    (fits_accepted p h _ n (s.arrivals + 1) m (desk_at c.make_due.new.desks.items) is
    (λ r. c.make_due.ensures r ∙ ap (λ x. due_to (conforming_seen x) n r (desk_at c.make_rooms-grown.new.desks.items r)) c.deref-3.ensures)
    room grown))

pub returns : goal.returns
returns c =
    let s = c.self.inside in
    let p = start_seen s.start in
    let h = entries_seen s.journal.items in
    let n = s.start.acceptances + c.len.result in
    let a = s.arrivals + 1 in
    let m = seen c.args.conforming in
    let is = ap (λ k. s.start.acceptances + k) (c.len.ensures ∙ s.places.ok.0 ∙ as_many p h s.places.items (map pair_seen s.queue.items) c.self.invariant.queue) in
    done p s.journal.items c.args.self.now c.self.view_is c.args.takes c.prepared.new.journal.items c.push_reserved-2.new.self.items (entry.TheVariants.Accepted n a c.in-Ok.copy) (Arrives m) (IsAccepted n a) _
    (ap (λ j. reply_to j (Arrives m)) (sym c.self.view_is) ∙ accept_is p h _ n a m c.self.invariant is refl (ap (λ j. is_under m (current j).number (current j).plan) c.self.view_is ∙ c.requires))
    (ap (λ x. Some (WasAccepted n a (conforming_seen x))) (sym c.in-Ok.ensures))
    (room_left p s.journal.items _ c.self.invariant (λ e. c.if-place-eq-MAX_ENTRIES.false (c.len-place.ensures ∙ s.journal.ok.0 ∙ e)))
    c.prepared.ensures.same c.push_reserved-2.ensures.items c.in-Ok-prepared.ensures.note

pub returns-then-place-eq-MAX_ENTRIES : goal.returns-then-place-eq-MAX_ENTRIES
returns-then-place-eq-MAX_ENTRIES c =
    let s = c.self.inside in
    full (start_seen s.start) s.journal.items c.args.self.now c.self.view_is c.args.takes (Arrives (conforming_seen (arc_value c.args.conforming))) _ _ (accept_row c.args.self.now (conforming_seen (arc_value c.args.conforming)) c.requires) refl (sym (c.len-place.ensures ∙ s.journal.ok.0) ∙ c.if-place-eq-MAX_ENTRIES.true)

pub returns-in_default : goal.returns-in_default
returns-in_default c =
    let s = c.self.inside in
    left_back (start_seen s.start) s.journal.items _ c.args.self.now (Arrives (conforming_seen (arc_value c.args.conforming))) _ _ c.self.invariant c.self.view_is
    (λ e. c.if-place-eq-MAX_ENTRIES.false (c.len-place.ensures ∙ s.journal.ok.0 ∙ e)) (accept_row c.args.self.now (conforming_seen (arc_value c.args.conforming)) c.requires) refl

pub overflow_add-arrival : goal.overflow_add-arrival
overflow_add-arrival c = let k = c.self.invariant.arrivals.few in let w = c.self.invariant.within in let f = c.self.invariant.starts.few in omega (arith, k, w, f)

pub invariant_of-self : goal.invariant_of-self
invariant_of-self c = fits_again (start_seen c.self.inside.start) c.self.inside.journal.items _ _ c.prepared.ensures.same c.self.invariant

pub returns-in_default-prepared : goal.returns-in_default-prepared
returns-in_default-prepared c =
    let s = c.self.inside in
    left_short (start_seen s.start) s.journal.items c.prepared.new.journal.items _ c.args.self.now (Arrives (conforming_seen (arc_value c.args.conforming))) _ _ c.self.invariant c.self.view_is
    (λ e. c.if-place-eq-MAX_ENTRIES.false (c.len-place.ensures ∙ s.journal.ok.0 ∙ e)) c.prepared.ensures.same (accept_row c.args.self.now (conforming_seen (arc_value c.args.conforming)) c.requires) refl

pub returns-then-is_err : goal.returns-then-is_err
returns-then-is_err c =
    let s = c.self.inside in
    left_short (start_seen s.start) s.journal.items c.prepared.new.journal.items _ c.args.self.now (Arrives (conforming_seen (arc_value c.args.conforming))) _ _ c.self.invariant c.self.view_is
    (λ e. c.if-place-eq-MAX_ENTRIES.false (c.len-place.ensures ∙ s.journal.ok.0 ∙ e)) c.prepared.ensures.same (accept_row c.args.self.now (conforming_seen (arc_value c.args.conforming)) c.requires) refl

pub push_reserved-requires-2 : goal.push_reserved-requires-2
push_reserved-requires-2 c = omega (arith, c.in-Ok-prepared.ensures.room)

pub overflow_add-n : goal.overflow_add-n
overflow_add-n c =
    let s = c.self.inside in
    let ok = s.places.ok in
    let w = c.self.invariant.within in
    let few = c.self.invariant.starts.few in
    let before = c.self.invariant.starts.acceptances in
    let long = accepted_long (start_seen s.start) (entries_seen s.journal.items) _ c.self.invariant in
    let less = accepted_few (entries_seen s.journal.items) in
    omega (arith, w, few, before, long, less, c.len.ensures)
