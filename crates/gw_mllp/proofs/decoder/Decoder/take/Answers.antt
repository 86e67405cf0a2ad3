use Rattle.std.proofs.Common.{[]}
use Rattle.gw_mllp.specs.Stream.{Within, Overlong}
use Rattle.gw_mllp.specs.Taken.{contents}
use Rattle.gw_mllp.proofs.Reaching.{lone_stays_open}
use Rattle.gw_mllp.proofs.Steps.{adds_none, goes_open, goes_long}
use Rattle.gw_mllp.proofs.decoder.Decoder.take.Goals as goal

pub returns-in_ok-push-in-Some-clause-ok : goal.returns-in_ok-push-in-Some-clause-ok
returns-in_ok-push-in-Some-clause-ok c =
    let lone = rw c.deref.ensures.value at c.in-Some.ensures in
    rw (← c.self.view_is, c.in-Within.is, c.in_ok-push-in-Some.ensures.items, ← lone.whole)
    (adds_none (contents c.self.inside.waiting.items) (Within c.in-Within.content.items) _ c.args.piece.now
    (goes_open [] c.in-Within.content.items c.args.piece.now (lone_stays_open c.in-Within.content.items c.args.piece.now c.in-Some.byte lone)))

pub returns-in-Overlong-clause-ok : goal.returns-in-Overlong-clause-ok
returns-in-Overlong-clause-ok c =
    rw (← c.self.view_is, c.in-Overlong.is) (adds_none (contents c.self.inside.waiting.items) Overlong Overlong c.args.piece.now (goes_long [] c.args.piece.now))
