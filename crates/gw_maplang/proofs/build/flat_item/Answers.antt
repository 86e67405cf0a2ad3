use Rattle.gw_maplang.proofs.Rows.{flat_items}
use Rattle.gw_maplang.proofs.build.flat_item.Goals as goal

pub returns : goal.returns
returns c = λ rest. flat_items (record { line = c.args.line; walk = c.args.from; items = c.args.items }) rest
