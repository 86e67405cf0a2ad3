use Rattle.gw_profile.proofs.Kept.{key_put}
use Rattle.gw_profile.specs.Seen.{now_all}
use Rattle.std.proofs.Common.{◌∙◌, ap, Bor, List, ℕ}
use Rattle.gw_profile.proofs.context.put_label.Goals as goal

pub returns : goal.returns
returns c = ap now_all c.in_ok-insert.ensures.keys ∙ key_put (λ (k : Bor (List ℕ)). k.now) c.args.labels.now.keys c.args.label c.requires
