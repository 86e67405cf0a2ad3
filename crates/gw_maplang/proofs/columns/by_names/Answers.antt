use Rattle.gw_maplang.proofs.Columned.{put_next}
use Rattle.gw_maplang.proofs.columns.by_names.Goals as goal

pub loop-name-preserved-in_ok-insert : goal.loop-name-preserved-in_ok-insert
loop-name-preserved-in_ok-insert c = record {
  whole = put_next c.loop-name.tables.entries c.insert.new.self.entries c.loop-name.left.items c.pop.new.self.items c.reverse.new.self.items (c.in-Some.name, c.in-Some.table) c.in-Some.ensures.items c.in_ok-insert.ensures.entries c.loop-name.invariant.whole c.loop-name.invariant.distinct;
  distinct = c.loop-name.invariant.distinct;
}

pub loop-name-preserved-in_ok-insert-2 : goal.loop-name-preserved-in_ok-insert-2
loop-name-preserved-in_ok-insert-2 c = record {
  whole = put_next c.loop-name.tables.entries c.insert.new.self.entries c.loop-name.left.items c.pop.new.self.items c.reverse.new.self.items (c.in-Some.name, c.in-Some.table) c.in-Some.ensures.items c.in_ok-insert.ensures.entries c.loop-name.invariant.whole c.loop-name.invariant.distinct;
  distinct = c.loop-name.invariant.distinct;
}

pub loop-name-preserved : goal.loop-name-preserved
loop-name-preserved c = record {
  whole = put_next c.loop-name.tables.entries c.insert.new.self.entries c.loop-name.left.items c.pop.new.self.items c.reverse.new.self.items (c.in-Some.name, c.in-Some.table) c.in-Some.ensures.items c.in_ok-insert.ensures.entries c.loop-name.invariant.whole c.loop-name.invariant.distinct;
  distinct = c.loop-name.invariant.distinct;
}
