use Rattle.std.proofs.Common.{sym, ◌∙◌}
use Rattle.gw_er7.proofs.Slices.{value_at, inside_at}
use Rattle.gw_er7.proofs.values.Values.at.Goals as goal

pub text_at-requires : goal.text_at-requires
text_at-requires c =
    let v = c.self.inside in
    inside_at v.bytes.now v.from v.to v.spans.now c.args.i c.at.result c.args.self.now c.self.invariant.within c.self.view_is c.requires (c.at.ensures c.at.result)

pub returns : goal.returns
returns c = λ other.
    let v = c.self.inside in
    value_at v.bytes.now v.from v.to v.spans.now c.args.i c.at.result c.args.self.now c.self.invariant.within c.self.view_is c.requires (c.at.ensures c.at.result) other ∙ sym c.text_at.ensures
