use Rattle.std.proofs.Common.{◌∙◌, ap, sym, Some}
use Rattle.std.specs.Option.{option_map, option_copied}
use Rattle.gw_maplang.specs.Columns.{WideRows}
use Rattle.gw_maplang.proofs.Tables.{width_found}
use Rattle.gw_maplang.proofs.context.width_of.Goals as goal

pub returns-in-None : goal.returns-in-None
returns-in-None c =
    ap (λ o. option_map (λ (t : WideRows). t.width) (option_copied o)) (sym c.in-None.is) ∙ ap (option_map (λ (t : WideRows). t.width)) c.get.ensures.value
    ∙ width_found c.args.name.now c.args.tables.now.entries

pub returns-in-Some : goal.returns-in-Some
returns-in-Some c =
    ap Some c.width.ensures ∙ ap (λ o. option_map (λ (t : WideRows). t.width) (option_copied o)) (sym c.in-Some.is) ∙ ap (option_map (λ (t : WideRows). t.width)) c.get.ensures.value
    ∙ width_found c.args.name.now c.args.tables.now.entries
