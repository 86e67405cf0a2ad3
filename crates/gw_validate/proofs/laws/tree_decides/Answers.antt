use Rattle.gw_validate.proofs.Judged.{message_decided, tree_message}
use Rattle.gw_validate.proofs.laws.tree_decides.Goals as goal

pub returns : goal.returns
returns c = λ p m t wf is. (λ h. message_decided p m wf.determined t is h, λ a. tree_message p m wf.determined t is a)
