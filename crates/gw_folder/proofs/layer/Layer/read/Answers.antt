use Rattle.std.proofs.Common.{rules, ◌≡◌, ◌-◌, ◌++◌, take, drop, length, ◌∙◌}
use Rattle.gw_folder.proofs.Overs.{read_over}
use Rattle.gw_folder.proofs.layer.Layer.read.Goals as goal

pub returns : goal.returns
returns c =
    let out : c.extend_from_slice.new.self.items ≡ c.args.front.items ++ take (c.args.len - length c.args.front.items) (drop (c.args.at - c.self.inside.keep) c.self.inside.tail.items) = search rules in
    rw (← c.self.view_is) (λ file long is. out ∙ read_over _ _ _ _ _ file long is)
