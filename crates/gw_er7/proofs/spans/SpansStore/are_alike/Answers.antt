use Rattle.std.proofs.Common.{refl}
use Rattle.gw_er7.proofs.Widths.{alike_same}
use Rattle.gw_er7.proofs.spans.SpansStore.are_alike.Goals as goal

pub returns-then-same_spans : goal.returns-then-same_spans
returns-then-same_spans g c = λ yes.
    alike_same g.N.Width.said c.self.inside.narrow.items c.other.inside.narrow.items _ _ _ _ _ _ c.deref.ensures.value c.deref-2.ensures.value (c.if-same_spans.ensures.0 refl) (c.are_alike.ensures yes) c.self.view_is c.other.view_is
