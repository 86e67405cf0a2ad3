use Rattle.std.proofs.Common.{◌++◌, List, length, take, drop, arith, ap, sym, subst, ◌∙◌}
use Rattle.std.proofs.lemmas.List.{length-append}
use Rattle.std.proofs.lemmas.List.Sorted.{length_permutation}
use Rattle.std.specs.List.Sorted.{IsPermutation}
use Rattle.gw_er7.proofs.Lying.{sorted_parts, written_back}
use Rattle.gw_er7.proofs.spans.sort_spans_from.Goals as goal

pub returns : goal.returns
returns g c =
    let xs = c.args.spans.now.items in
    let front = c.split_at_mut-tail.result.0.now in
    let back = c.split_at_mut-tail.result.1.now in
    let new = c.sort_spans.new.spans in
    let items = c.deref_mut.ensures.value in
    let cut = c.split_at_mut-tail.ensures in
    let long = length_permutation back new c.sort_spans.ensures.permutation in
    sorted_parts (λ l. (g.N.Width.said l).place) c.args.first xs front new _ c.requires
    (cut.front ∙ ap (take c.args.first) items)
    (subst (λ (zs : List g.row.N.Denot). IsPermutation zs new) (cut.back ∙ ap (drop c.args.first) items) c.sort_spans.ensures.permutation)
    c.sort_spans.ensures.sorted
    (written_back xs (front ++ new) c.args.spans.now.len (sym c.deref_mut.ensures.len ∙ ap length items) (omega (arith, length-append front new, long, cut.front_len, cut.back_len) ∙ c.deref_mut.ensures.len))
