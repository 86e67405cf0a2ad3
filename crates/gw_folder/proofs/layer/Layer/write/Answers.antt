use Rattle.std.proofs.Common.{rules, ◌-◌, ◌≤◌}
use Rattle.gw_log.specs.Disk.{IsWritten}
use Rattle.gw_folder.proofs.Overs.{written_over}
use Rattle.gw_folder.proofs.layer.Layer.write.Goals as goal

pub returns-clause-ok : goal.returns-clause-ok
returns-clause-ok c =
    let is : IsWritten (c.args.at - c.self.inside.keep) c.args.bytes.now c.self.inside.tail.items c.in_ok-self-inside.field-0.items = search rules in
    let low : c.self.inside.keep ≤ c.args.at = search rules in
    rw (← c.self.view_is) (λ file long. written_over _ _ _ _ _ file low long is)
