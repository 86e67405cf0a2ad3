use Rattle.gw_profile.proofs.Kept.{among_map}
use Rattle.std.proofs.Common.{◌∙◌, ap, ℕ}
use Rattle.gw_profile.specs.Fault.{is_among}
use Rattle.std.specs.Global.{Vec}
use Rattle.gw_profile.proofs.table.Table.has_by_hash.Goals as goal

pub returns : goal.returns
returns c = c.contains.ensures ∙ among_map (λ (v : Vec ℕ). v.items) c.args.value.now c.self.inside.values.keys ∙ ap (is_among c.args.value.now) c.self.view_is
