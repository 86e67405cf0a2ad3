use Rattle.gw_resolve.specs.Naming.{resolved}
use Rattle.gw_interp.proofs.Checked.{allowed}
use Rattle.gw_interp.proofs.Makes.{makes_some}
use Rattle.gw_interp.proofs.Once.{means_once}
use Rattle.gw_interp.proofs.laws.a_yes_gives_one_conforming_message.Goals as goal

pub returns : goal.returns
returns c = λ source target map ws wt lawful none m tree is_message conforms is_tree.
    let items = resolved source target map in
    let some = makes_some source target items (allowed source target map ws wt lawful none) m tree is_message conforms is_tree in
    (some.0, some.1, λ other is_other means. means_once target items m tree other some.0 is_other some.1.is_message means some.1.means)
