use Rattle.gw_profile.proofs.Kept.{among_map}
use Rattle.std.proofs.Common.{◌∙◌, Bor, List, ℕ}
use Rattle.gw_profile.proofs.context.has_label.Goals as goal

pub returns : goal.returns
returns c = c.contains.ensures ∙ among_map (λ (k : Bor (List ℕ)). k.now) c.args.label.now c.args.labels.now.keys
