use Rattle.gw_maplang.proofs.Rows.{group_items}
use Rattle.gw_maplang.proofs.build.group_item.Goals as goal

pub returns : goal.returns
returns c = λ rest. group_items (record { line = c.args.line; label = c.args.label; walk = c.args.from; items = c.args.items }) rest
