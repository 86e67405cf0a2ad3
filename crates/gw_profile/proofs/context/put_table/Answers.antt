use Rattle.gw_profile.proofs.Kept.{table_put}
use Rattle.gw_profile.specs.Fault.{is_among}
use Rattle.gw_profile.specs.WellFormed.{table_names}
use Rattle.gw_profile.specs.Seen.{table}
use Rattle.std.proofs.Common.{◌∙◌, ap, List, ℕ, map, ◌++◌, ◌∷◌, []}
use Rattle.gw_profile.proofs.context.put_table.Goals as goal

pub returns : goal.returns
returns c =
    ap (map table) c.in_ok-insert.ensures.entries
    ∙ table_put c.args.tables.now.entries c.in_ok-name.name c.args.found (ap (λ (bytes : List ℕ). is_among bytes (table_names (map table c.args.tables.now.entries))) c.in_ok-name.ensures.items ∙ c.requires)
    ∙ ap (λ (bytes : List ℕ). map table c.args.tables.now.entries ++ record { name = bytes; values = c.args.found } ∷ []) c.in_ok-name.ensures.items
