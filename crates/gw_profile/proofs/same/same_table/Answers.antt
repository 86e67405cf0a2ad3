use Rattle.std.proofs.Common.{refl}
use Rattle.gw_profile.proofs.Sames.{tables_same}
use Rattle.gw_profile.proofs.same.same_table.Goals as goal

pub returns : goal.returns
returns c = tables_same _ _ c.are_same.result _ _ (c.if-not-same_bytes.ensures.0 refl) c.are_same.ensures
