use Rattle.gw_validate.proofs.Judged.{message_tree, tree_message}
use Rattle.gw_validate.proofs.laws.conforms_by_tree.Goals as goal

pub returns : goal.returns
returns c = λ p m wf. (λ h. message_tree p m wf.determined h, λ t. tree_message p m wf.determined t.tree t.is t.met)
