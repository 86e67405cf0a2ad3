use Rattle.std.proofs.Common.{ap}
use Rattle.gw_profile.specs.Fault as Fault
use Rattle.gw_profile.specs.Seen.{line}
use Rattle.gw_profile.proofs.Kept.{new_table, new_label}
use Rattle.gw_profile.proofs.reader.ReaderState.take_in.Goals as goal

pub tables_below-requires-clause-new : goal.tables_below-requires-clause-new
tables_below-requires-clause-new c =
    new_table _ (line c.args.tested.whole) c.requires.taken _ c.requires.agreed.has_names

pub levels_below-requires : goal.levels_below-requires
levels_below-requires c =
    new_label _ (line c.args.tested.whole) c.requires.taken _ (ap (λ (l : Fault.Levels). l.labels) c.requires.agreed.has_levels)
