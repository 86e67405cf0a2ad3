use Rattle.std.proofs.Common.{◌∙◌, refl, sym}
use Rattle.gw_profile.proofs.Sames.{segment_same}
use Rattle.gw_profile.proofs.same.same_segment.Goals as goal

pub returns : goal.returns
returns c =
    segment_same c.args.one.now c.args.other.now c.are_same.result _ _ c.deref-3.ensures.value c.deref-4.ensures.value (c.if-not-same_bytes.ensures.0 refl)
    (sym c.deref.ensures.value ∙ c.if-not-same_bytes-2.ensures.0 refl ∙ c.deref-2.ensures.value) (c.if-not-same_usage.ensures.0 refl) (c.if-not-same_card.ensures.0 refl) c.are_same.ensures
