use Rattle.std.proofs.Common.{◌∙◌, ap, sym, ◌++◌, ◌∷◌, [], None}
use Rattle.gw_maplang.specs.Shapes.{row_of}
use Rattle.gw_maplang.specs.Lawful.{firsts}
use Rattle.gw_maplang.specs.Columns.{value_in}
use Rattle.gw_maplang.specs.Fault.{is_among}
use Rattle.gw_maplang.specs.Seen.{items_all}
use Rattle.gw_maplang.proofs.Columned.{row_new, row_next}
use Rattle.gw_maplang.proofs.columns.rows_in.Goals as goal

pub put_row-requires : goal.put_row-requires
put_row-requires c =
    (λ i. is_among (c.deref.ensures.value i) (firsts (c.loop-i.invariant i).rows))
    ∙ row_new c.args.k c.args.rows.now.entries c.loop-i.i (c.in-Some.first.now, c.in-Some.seconds.now) c.requires (sym c.in-Some.ensures.entry)

pub loop-i-preserved : goal.loop-i-preserved
loop-i-preserved c =
    let second = c.value_in.ensures ∙ ap (λ vs. value_in c.args.k (items_all vs)) c.deref-in-loop-i.ensures.value in
    let next = row_next c.args.k c.args.rows.now.entries c.loop-i.i (c.in-Some.first.now, c.in-Some.seconds.now) (sym c.in-Some.ensures.entry) in
    c.in_ok-put_row.ensures
    ∙ (λ j. record { rows = (c.loop-i.invariant j).rows ++ row_of (c.deref.ensures.value j) (second j) ∷ []; other = (c.loop-i.invariant j).other })
    ∙ (λ j. record { rows = sym next j; other = None })
