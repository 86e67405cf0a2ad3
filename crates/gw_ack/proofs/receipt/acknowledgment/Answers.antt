use Rattle.std.proofs.Common.{◌≡◌, ◌+◌, ℕ, List, ◌∷◌, drop, Some, true, false, ap, sym, ◌∙◌}
use Rattle.std.specs.Prelude.{bytes_eq, codes, if◌then◌else◌, slice_get}
use Rattle.std.proofs.lemmas.List.{at_drop_more}
use Rattle.std.proofs.lemmas.Option.{get_or_from_slice_get, slice_get_within}
use Rattle.gw_er7.specs.Message.{SegmentValue}
use Rattle.gw_ack.specs.Acknowledged.{first_named}
use Rattle.gw_ack.proofs.receipt.acknowledgment.Goals as goal

next : (name : List ℕ) (ss : List SegmentValue) (i : ℕ) (s : SegmentValue) → slice_get ss i ≡ Some s
    → first_named name (drop i ss) ≡ (if bytes_eq s.name name then Some s else first_named name (drop (i + 1) ss))
next name ss i s is =
    at_drop_more (first_named name) ss i s (slice_get_within ss i s is)
    ∙ ap (λ (x : SegmentValue). first_named name (x ∷ drop (i + 1) ss)) (get_or_from_slice_get ss i s s is)

pub returns-then-eq : goal.returns-then-eq
returns-then-eq c =
    let named : bytes_eq c.segment-segment.result.name (codes "MSA") ≡ true = rw (← c.name.ensures.value) (sym c.eq.ensures ∙ c.if-eq.true) in
    let found = next (codes "MSA") c.args.message.now c.loop-i.i c.segment-segment.result c.segment-segment.ensures in
    rw (c.loop-i.invariant ∙ (rw named at found)) c.in_msa.ensures

pub loop-i-preserved : goal.loop-i-preserved
loop-i-preserved c =
    let named : bytes_eq c.segment-segment.result.name (codes "MSA") ≡ false = rw (← c.name.ensures.value) (sym c.eq.ensures ∙ c.if-eq.false) in
    let found = next (codes "MSA") c.args.message.now c.loop-i.i c.segment-segment.result c.segment-segment.ensures in
    c.loop-i.invariant ∙ (rw named at found)
