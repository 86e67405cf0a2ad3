use Rattle.gw_ledger.proofs.Marking.{least_young, young_stays}
use Rattle.gw_ledger.proofs.laws.what_is_young_stays.Goals as goal

pub returns-clause-young : goal.returns-clause-young
returns-clause-young c = young_stays

pub returns-clause-least : goal.returns-clause-least
returns-clause-least c = least_young
