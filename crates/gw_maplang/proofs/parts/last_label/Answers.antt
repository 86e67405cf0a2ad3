use Rattle.std.proofs.Common.{◌∙◌, sym}
use Rattle.gw_maplang.proofs.Paths.{last_found}
use Rattle.gw_maplang.proofs.parts.last_label.Goals as goal

pub returns-in-Some : goal.returns-in-Some
returns-in-Some c = c.as_slice.ensures.value ∙ last_found c.args.path.now c.in-Some.label.now (sym c.in-Some.ensures.value)
