use Rattle.std.proofs.Common.{Some, None, ℕ, refl, sym, ap, subst, ◌∙◌}
use Rattle.std.specs.Prelude.{unwrap_or, ◌&&◌}
use Rattle.std.specs.Arc.{arc_value}
use Rattle.std.specs.Global.{Vec}
use Rattle.gw_profile.specs.Lengths.{measure}
use Rattle.gw_resolve.specs.Naming.{no_rows}
use Rattle.gw_leaves.specs.Context.{ContextValue}
use Rattle.gw_leaves.specs.declared.comparison.Found.{Found}
use Rattle.gw_leaves.specs.own.Comparisons.{Comparison, IsFound, fits, is_lacking, is_within, rows_named, some_unrowed, values_named}
use Rattle.gw_leaves.specs.Texts.{rows_value}
use Rattle.gw_leaves.proofs.Inserted.{any_map}
use Rattle.gw_leaves.proofs.context.MapContext.some_unrowed.Goals as goal

pub returns-in-Some : goal.returns-in-Some
returns-in-Some c =
    let f = c.in-Some.found.now in
    let asked : Comparison = ((Some c.args.rows, Some c.args.listed), None) in
    let is = subst (λ s. IsFound s asked (arc_value f)) c.self.view_is (c.self.invariant asked f c.in-Some.ensures.value) in
    c.is_within.ensures ∙ ap (λ (x : Found). is_within c.args.len x.unrowed) c.deref.ensures ∙ is.unrowed c.args.rows.now refl c.args.len

pub returns : goal.returns
returns c =
    c.some_unrowed.ensures
    ∙ sym (any_map (λ (v : Vec ℕ). v.items) (λ t. fits c.args.len (measure c.count-count.result t) && is_lacking (rows_value c.table.result) t) c.values_of-texts.result.now)
    ∙ (λ i. some_unrowed (c.count-count.ensures i) c.args.len (unwrap_or (c.table.ensures i) no_rows) (c.values_of-texts.ensures i))
    ∙ ap (λ (x : ContextValue). some_unrowed x.source.count c.args.len (rows_named x.map.tables c.args.rows.now) (values_named x.source.tables (Some c.args.listed.now))) c.self.view_is
