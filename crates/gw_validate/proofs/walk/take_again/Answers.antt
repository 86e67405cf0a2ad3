use Rattle.std.proofs.Common.{◌∙◌, sym, refl}
use Rattle.gw_validate.proofs.Names.{names_equal}
use Rattle.gw_validate.proofs.Joined.{advance_again}
use Rattle.gw_validate.proofs.walk.take_again.Goals as goal

pub returns-clause-taken : goal.returns-clause-taken
returns-clause-taken c =
    advance_again c.index-frame.result.now c.less_one.result c.args.name c.args.stack.now.items _ c.len-depth.result (c.len-depth.ensures ∙ c.args.stack.now.ok.0) c.if-depth-eq0.false c.in-Seg.segment c.deref.result c.index-frame.ensures c.in-Seg.is c.deref.ensures.value (sym c.if-not-has_room.ensures) (names_equal _ _ (sym c.if-not-same_name.ensures)) c.less_one.ensures.min c.less_one.ensures.max refl
