use Rattle.gw_gate.specs.Headline.{IsTranslated}
use Rattle.gw_gate.specs.Meaning.{Makes}
use Rattle.gw_gate.proofs.Lasting.{lawful_run, lawful_step}
use Rattle.gw_gate.proofs.laws.lawful_stays.Goals as goal

pub returns-clause-run : goal.returns-clause-run
returns-clause-run c = lawful_run (IsTranslated Makes)

pub returns-clause-step : goal.returns-clause-step
returns-clause-step c = lawful_step (IsTranslated Makes)
