use Rattle.std.proofs.Common.{[], ◌∷◌}
use Rattle.std.specs.FinMap as texts
use Rattle.gw_ack.proofs.Copying.{IsCopying}
use Rattle.gw_ack.proofs.copies.push_repetition.Given as goal

abbrev pub invariant-loop-i : goal.invariant-loop-i
invariant-loop-i l = IsCopying (texts.entries l.segment.at) l.field l.i (l.here.comp ∷ l.here.sub ∷ []) l.fn.out.items l.out.items
