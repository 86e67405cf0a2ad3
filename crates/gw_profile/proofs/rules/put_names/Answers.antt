use Rattle.std.proofs.Common.{[]}
use Rattle.gw_profile.proofs.Follows.{put_more}
use Rattle.gw_profile.proofs.rules.put_names.Goals as goal

pub loop-name-preserved : goal.loop-name-preserved
loop-name-preserved c = λ x.
    put_more x c.args.names.now c.loop-name.name-index [] c.args.held.now.keys c.loop-name.held.keys c.insert.new.self.keys c.loop-name-test.true (c.in_ok-insert.ensures.updates.0 x) (c.loop-name.invariant x)
