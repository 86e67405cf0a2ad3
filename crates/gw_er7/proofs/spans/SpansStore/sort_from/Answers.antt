use Rattle.std.proofs.Common.{rules}
use Rattle.gw_er7.proofs.Widths.{alike_sorted}
use Rattle.gw_er7.proofs.spans.SpansStore.sort_from.Goals as goal

pub returns-else-is_empty : goal.returns-else-is_empty
returns-else-is_empty g c =
    let old = c.self.inside in
    alike_sorted g.N.Width.said c.args.first old.narrow.items c.sort_spans_from.new.spans.items (g.L.Store.spans old.others) c.args.self.now c.self.invariant (search rules) c.self.view_is c.sort_spans_from.ensures
