use Rattle.gw_interp.proofs.Makes.{makes_some}
use Rattle.gw_interp.proofs.laws.allowed_maps_make_a_message.Goals as goal

pub returns : goal.returns
returns c = λ source target map ws wt lawful typed m tree is_message conforms is_tree.
    makes_some source target map (record { source_formed = ws; target_formed = wt; lawful = lawful; typed = typed }) m tree is_message conforms is_tree
