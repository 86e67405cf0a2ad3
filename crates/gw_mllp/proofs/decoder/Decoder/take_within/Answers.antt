use Rattle.std.proofs.Common.{[]}
use Rattle.gw_mllp.specs.Stream.{Within, Overlong}
use Rattle.gw_mllp.specs.Taken.{contents}
use Rattle.gw_mllp.proofs.Steps.{adds_none, goes_open, goes_over}
use Rattle.gw_mllp.proofs.decoder.Decoder.take_within.Goals as goal

pub returns-in_ok-extend_from_slice-in-Open-clause-ok : goal.returns-in_ok-extend_from_slice-in-Open-clause-ok
returns-in_ok-extend_from_slice-in-Open-clause-ok c =
    rw (← c.self.view_is, c.in-Within.is, c.in_ok-extend_from_slice-in-Open.ensures.items)
    (adds_none (contents c.self.inside.waiting.items) (Within c.in-Within.content.items) _ c.args.piece.now
    (goes_open [] c.in-Within.content.items c.args.piece.now (rw c.deref.ensures.value at c.in-Open.ensures)))

pub returns-in-TooLong-clause-ok : goal.returns-in-TooLong-clause-ok
returns-in-TooLong-clause-ok c =
    rw (← c.self.view_is, c.in-Within.is)
    (adds_none (contents c.self.inside.waiting.items) (Within c.in-Within.content.items) Overlong c.args.piece.now
    (goes_over [] c.in-Within.content.items c.args.piece.now (rw c.deref.ensures.value at c.in-TooLong.ensures)))
