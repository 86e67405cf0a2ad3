use Rattle.std.proofs.Common.{◌≡◌, [], ◌++◌, ◌∷◌, arith, ap, ◌∙◌, map, sym, refl}
use Rattle.std.proofs.lemmas.List.{map-append}
use Rattle.gw_gate.specs.declared.event.Entry as entry
use Rattle.gw_gate.specs.Journal.{pair}
use Rattle.gw_gate.specs.Entries.{entries_seen, start_seen}
use Rattle.gw_gate.specs.Values.{pair_seen}
use Rattle.gw_gate.proofs.Fitting.{fits_more, fits_issued}
use Rattle.gw_gate.proofs.Answering.{full}
use Rattle.gw_gate.specs.Replies.{Reissues, IsIssued}
use Rattle.gw_gate.proofs.Leaving.{left_short, left_done}
use Rattle.gw_gate.proofs.books.Books.issue.Goals as goal

pub invariant_of-self-2 : goal.invariant_of-self-2
invariant_of-self-2 c =
    let s = c.self.inside in
    let p = start_seen s.start in
    let more : map pair_seen c.push_back_reserved.new.self.items ≡ map pair_seen s.queue.items ++ pair c.args.n c.args.receiver ∷ [] =
    ap (map pair_seen) (c.push_back_reserved.ensures.items ∙ ap (λ l. l ++ record { n = c.args.n; receiver = c.args.receiver } ∷ []) c.reserve.ensures.items) ∙ map-append pair_seen s.queue.items _ in
    fits_more p s.journal.items c.prepared.new.journal.items c.push_reserved.new.self.items (entry.TheVariants.Issued c.args.n c.args.receiver) _ _
    c.prepared.ensures.same c.push_reserved.ensures.items (λ e. c.if-len-eq-MAX_ENTRIES.false (c.len.ensures ∙ s.journal.ok.0 ∙ e)) c.self.invariant
    (λ room. rw more (fits_issued p (entries_seen s.journal.items) _ c.args.n c.args.receiver room c.self.invariant))

pub returns-then-len-eq-MAX_ENTRIES : goal.returns-then-len-eq-MAX_ENTRIES
returns-then-len-eq-MAX_ENTRIES c =
    let s = c.self.inside in
    full (start_seen s.start) s.journal.items c.args.self.now c.self.view_is c.args.takes (Reissues c.args.n c.args.receiver) _ _ c.requires refl (sym (c.len.ensures ∙ s.journal.ok.0) ∙ c.if-len-eq-MAX_ENTRIES.true)

pub invariant_of-self : goal.invariant_of-self
invariant_of-self c = rw c.reserve.ensures.items c.self.invariant

pub returns-then-is_err : goal.returns-then-is_err
returns-then-is_err c =
    let s = c.self.inside in
    left_short (start_seen s.start) s.journal.items s.journal.items _ c.args.self.now (Reissues c.args.n c.args.receiver) _ _ c.self.invariant c.self.view_is
    (λ e. c.if-len-eq-MAX_ENTRIES.false (c.len.ensures ∙ s.journal.ok.0 ∙ e)) refl c.requires refl

pub invariant_of-self-in_default : goal.invariant_of-self-in_default
invariant_of-self-in_default c = rw (c.prepared.ensures.same, c.reserve.ensures.items) c.self.invariant

pub returns-in_default : goal.returns-in_default
returns-in_default c =
    let s = c.self.inside in
    left_short (start_seen s.start) s.journal.items c.prepared.new.journal.items _ c.args.self.now (Reissues c.args.n c.args.receiver) _ _ c.self.invariant c.self.view_is
    (λ e. c.if-len-eq-MAX_ENTRIES.false (c.len.ensures ∙ s.journal.ok.0 ∙ e)) c.prepared.ensures.same c.requires refl

pub push_reserved-requires : goal.push_reserved-requires
push_reserved-requires c = omega (arith, c.in-Ok.ensures.room)

pub returns : goal.returns
returns c =
    let s = c.self.inside in
    left_done (start_seen s.start) s.journal.items c.prepared.new.journal.items c.push_reserved.new.self.items _ c.args.self.now c.args.takes (Reissues c.args.n c.args.receiver) IsIssued (entry.TheVariants.Issued c.args.n c.args.receiver) _ c.self.invariant c.self.view_is
    (λ e. c.if-len-eq-MAX_ENTRIES.false (c.len.ensures ∙ s.journal.ok.0 ∙ e)) c.prepared.ensures.same c.push_reserved.ensures.items c.in-Ok.ensures.note
    c.requires refl
