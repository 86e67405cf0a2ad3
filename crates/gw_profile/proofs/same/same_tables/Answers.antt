use Rattle.std.proofs.Common.{◌∙◌, refl, sym, arith}
use Rattle.gw_profile.specs.Seen.{table}
use Rattle.gw_profile.proofs.Sames.{entry_more}
use Rattle.gw_profile.proofs.same.same_tables.Goals as goal

pub loop-i-preserved : goal.loop-i-preserved
loop-i-preserved c = record {
  long = c.loop-i.invariant.long;
  rest =
      entry_more table c.args.tables.now.entries c.args.others.now.entries c.loop-i.i (omega arith) c.loop-i.invariant.long
      (sym c.table_at.ensures ∙ c.if-not-same_some.ensures.0 refl ∙ c.table_at-in-loop-i.ensures) c.loop-i.invariant.rest;
}
