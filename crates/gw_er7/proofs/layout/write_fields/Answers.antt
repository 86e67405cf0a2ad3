use Rattle.std.proofs.Common.{ap, arith, List, ℕ, ◌+◌, ◌++◌, ◌∷◌, drop, ◌∙◌}
use Rattle.std.proofs.lemmas.List.{drop_more}
use Rattle.gw_er7.specs.View.{Held, entries_of}
use Rattle.gw_er7.proofs.Flat.{fields}
use Rattle.gw_er7.proofs.Steps.{stepped}
use Rattle.gw_er7.proofs.layout.write_fields.Goals as goal

pub loop-i-init : goal.loop-i-init
loop-i-init c = ap (λ (x : List ℕ). c.args.out.now.items ++ x) (fields c.args.first c.args.values.now c.requires.from c.requires.ordered)

pub loop-i-preserved : goal.loop-i-preserved
loop-i-preserved c =
    let values = c.args.values.now in
    let i = c.loop-i.i in
    let h : Held = record { place = c.at-value.result.place; text = c.at-value.result.text.now } in
    let next = drop_more values i h (omega (arith, c.loop-i-test.true, c.len-i-end.ensures)) ∙ ap (λ (x : Held). x ∷ drop (i + 1) values) (c.at-value.ensures h) in
    stepped (entries_of (drop i values)) (entries_of (drop (i + 1) values)) h.place h.text c.loop-i.here c.loop-i.out.items _ c.extend_from_slice.new.self.items _ (ap entries_of next) c.in_ok-write_gaps.ensures c.in_ok-extend_from_slice.ensures.items c.loop-i.invariant
