use Rattle.gw_due.specs.Views as view
use Rattle.gw_due.proofs.starting.go_on.Goals as goal

pub returns-in-Ok-after-clause-ok : goal.returns-in-Ok-after-clause-ok
returns-in-Ok-after-clause-ok c = record {
  entry = view.entry c.in-Ok.entry;
  fits = c.in-Ok.ensures.found.0;
  spells = c.in-Ok.ensures.found.1;
  allowed = c.in-Ok-after.ensures.allowed;
  is = c.in-Ok-after.ensures.ok;
}
