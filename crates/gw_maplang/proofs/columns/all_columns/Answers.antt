use Rattle.std.proofs.Common.{◌∙◌, ◌++◌, sym, subst}
use Rattle.gw_maplang.specs.Columns.{columns}
use Rattle.gw_maplang.specs.own.Widths.{LawfulWide, wide_named}
use Rattle.gw_maplang.proofs.Columned.{lawful_at, columns_next}
use Rattle.gw_maplang.proofs.columns.all_columns.Goals as goal

pub with_columns-requires : goal.with_columns-requires
with_columns-requires c =
    subst (λ name. LawfulWide (wide_named name c.in-Some.wide.now)) (sym c.deref.ensures.value)
    (lawful_at c.args.tables.now.entries c.loop-i.i (c.in-Some.name.now, c.in-Some.wide.now) (sym c.in-Some.ensures.entry) c.requires.each)

pub loop-i-preserved : goal.loop-i-preserved
loop-i-preserved c =
    c.in_ok-all.ensures
    ∙ (λ j. (c.loop-i.invariant j) ++ columns c.args.second (wide_named (c.deref.ensures.value j) c.in-Some.wide.now))
    ∙ sym (columns_next c.args.second c.args.tables.now.entries c.loop-i.i (c.in-Some.name.now, c.in-Some.wide.now) (sym c.in-Some.ensures.entry))
