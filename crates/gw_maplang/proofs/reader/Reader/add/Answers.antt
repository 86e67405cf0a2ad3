use Rattle.std.proofs.Common.{ap, ◌∙◌, sym, subst, ℕ, List}
use Rattle.gw_maplang.specs.declared.context as Held
use Rattle.gw_maplang.specs.Columns.{WideTable}
use Rattle.gw_maplang.specs.Fault as Fault
use Rattle.gw_maplang.specs.Seen.{line, HasRoom, IsNewTable, IsNewField, IsNewPlace}
use Rattle.gw_maplang.proofs.Kept.{new_table, new_field, new_place, has_room}
use Rattle.gw_maplang.proofs.reader.Reader.add.Goals as goal

pub open_parts_below-open_parts-requires : goal.open_parts_below-open_parts-requires
open_parts_below-open_parts-requires c =
    subst (λ (d : ℕ). HasRoom d (line c.args.whole))
    (sym (ap (λ (s : Held.OpenParts.OpenParts). s.depth) c.self.invariant.has_open_parts ∙ ap Fault.depth c.self.view_is)) (has_room _ (line c.args.whole) c.requires)

pub take_in-requires-clause-table : goal.take_in-requires-clause-table
take_in-requires-clause-table c =
    subst (λ (ts : List WideTable). IsNewTable ts (line c.args.whole)) (sym (c.self.invariant.has_tables ∙ ap Fault.wide_tables c.self.view_is)) (new_table _ (line c.args.whole) c.requires)

pub take_in-requires-clause-field : goal.take_in-requires-clause-field
take_in-requires-clause-field c =
    subst (λ s. IsNewField s (line c.args.whole)) (sym (c.self.invariant.has_segment ∙ ap Fault.open_segment c.self.view_is)) (new_field _ (line c.args.whole) c.requires)

pub take_in-requires-clause-place : goal.take_in-requires-clause-place
take_in-requires-clause-place c =
    subst (λ r. IsNewPlace r (line c.args.whole)) (sym (c.self.invariant.has_rule ∙ ap Fault.open_rule c.self.view_is)) (new_place _ (line c.args.whole) c.requires)
