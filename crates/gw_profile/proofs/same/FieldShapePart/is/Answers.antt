use Rattle.std.proofs.Common.{refl}
use Rattle.gw_profile.proofs.Sames.{field_same}
use Rattle.gw_profile.proofs.same.FieldShapePart.is.Goals as goal

pub returns : goal.returns
returns c =
    field_same c.args.self.now c.args.other.now c.are_same.result _ _ c.deref.ensures.value c.deref-2.ensures.value c.if-self-other.false
    (c.if-not-same_usage.ensures.0 refl) (c.if-not-same_card.ensures.0 refl) c.are_same.ensures
