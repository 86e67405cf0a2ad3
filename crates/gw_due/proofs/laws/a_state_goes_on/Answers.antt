use Rattle.std.proofs.lemmas.List.Sums.{fold-append}
use Rattle.gw_due.specs.State.{after, nothing}
use Rattle.gw_due.proofs.laws.a_state_goes_on.Goals as goal

pub returns : goal.returns
returns c = fold-append after nothing
