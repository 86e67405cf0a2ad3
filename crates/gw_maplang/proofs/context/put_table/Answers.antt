use Rattle.std.proofs.Common.{◌∙◌, ap, List, ℕ, map, ◌++◌, ◌∷◌, []}
use Rattle.gw_maplang.specs.Fault.{is_among, wide_names}
use Rattle.gw_maplang.specs.Seen.{wide_table}
use Rattle.gw_maplang.proofs.Tables.{wide_put}
use Rattle.gw_maplang.proofs.context.put_table.Goals as goal

pub returns : goal.returns
returns c =
    ap (map wide_table) c.in_ok-insert.ensures.entries
    ∙ wide_put c.args.tables.now.entries c.in_ok-name.name c.new.result (ap (λ (bytes : List ℕ). is_among bytes (wide_names (map wide_table c.args.tables.now.entries))) c.in_ok-name.ensures.items ∙ c.requires)
    ∙ (λ i. map wide_table c.args.tables.now.entries ++ record { name = c.in_ok-name.ensures.items i; width = (c.new.ensures i).width; rows = (c.new.ensures i).rows; other = (c.new.ensures i).other } ∷ [])
