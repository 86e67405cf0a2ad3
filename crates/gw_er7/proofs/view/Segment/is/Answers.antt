use Rattle.std.proofs.Common.{refl, sym}
use Rattle.gw_er7.proofs.Sames.{segments_same}
use Rattle.gw_er7.proofs.view.Segment.is.Goals as goal

pub returns : goal.returns
returns c =
    segments_same c.self.inside.name c.other.inside.name c.self.inside.values c.other.inside.values _ _ c.same_values.result _ _ (sym c.self.view_is) (sym c.other.view_is) c.self.invariant.sorted c.other.invariant.sorted
    refl refl (c.if-not-same_bytes.ensures.0 refl) c.same_values.ensures
