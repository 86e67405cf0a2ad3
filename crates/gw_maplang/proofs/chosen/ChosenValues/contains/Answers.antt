use Rattle.std.proofs.Common.{◌∙◌, ap, ℕ}
use Rattle.std.specs.Global.{Vec}
use Rattle.gw_profile.proofs.Kept.{among_map}
use Rattle.gw_maplang.specs.Fault.{is_among}
use Rattle.gw_maplang.proofs.chosen.ChosenValues.contains.Goals as goal

pub returns : goal.returns
returns c = c.contains.ensures ∙ among_map (λ (v : Vec ℕ). v.items) c.args.value.now c.self.inside.found.keys ∙ c.self.invariant c.args.value.now ∙ ap (is_among c.args.value.now) c.self.view_is
