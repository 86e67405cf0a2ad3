use Rattle.gw_due.proofs.EventForms.{one_record}
use Rattle.gw_due.proofs.laws.one_spelling.Goals as goal

pub returns : goal.returns
returns c = one_record
