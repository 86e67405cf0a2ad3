use Rattle.std.proofs.lemmas.Result.{IfOk-weaker}
use Rattle.gw_profile.specs.Seen.{profile_value}
use Rattle.gw_validate.proofs.Deciding.{first_exact, first_least}
use Rattle.gw_validate.proofs.verdict.first_breach.Goals as goal

pub returns-clause-exact : goal.returns-clause-exact
returns-clause-exact c = IfOk-weaker c.least.result _ _ (first_exact (profile_value c.args.profile.now) c.args.message.now) c.least.ensures

pub returns-clause-breach : goal.returns-clause-breach
returns-clause-breach c = IfOk-weaker c.least.result _ _ (first_least (profile_value c.args.profile.now) c.args.message.now) c.least.ensures
