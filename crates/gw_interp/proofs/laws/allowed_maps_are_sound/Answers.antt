use Rattle.gw_interp.proofs.Sound.{sound}
use Rattle.gw_interp.proofs.laws.allowed_maps_are_sound.Goals as goal

pub returns : goal.returns
returns c = λ source target map ws wt lawful typed m tree is_message conforms is_tree made means.
    sound source target map (record { source_formed = ws; target_formed = wt; lawful = lawful; typed = typed }) m tree conforms is_tree made means
