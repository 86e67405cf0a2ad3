use Rattle.gw_maplang.proofs.Tables.{table_found}
use Rattle.std.proofs.Common.{◌∙◌, ap}
use Rattle.gw_maplang.specs.Shapes.{table_of}
use Rattle.gw_maplang.specs.Seen.{Contents}
use Rattle.gw_maplang.proofs.map.Map.table.Goals as goal

pub returns : goal.returns
returns c = c.get.ensures.value ∙ table_found c.args.name.now c.self.inside.tables.entries ∙ ap (λ (m : Contents). table_of c.args.name.now m.tables) c.self.view_is
