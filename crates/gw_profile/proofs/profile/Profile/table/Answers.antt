use Rattle.gw_profile.proofs.Kept.{table_found}
use Rattle.std.proofs.Common.{◌∙◌, ap}
use Rattle.gw_profile.specs.Value.{table_of}
use Rattle.gw_profile.specs.Seen.{Contents}
use Rattle.gw_profile.proofs.profile.Profile.table.Goals as goal

pub returns : goal.returns
returns c = c.get.ensures.value ∙ table_found c.args.name.now c.self.inside.tables.entries ∙ ap (λ (p : Contents). table_of c.args.name.now p.tables) c.self.view_is
