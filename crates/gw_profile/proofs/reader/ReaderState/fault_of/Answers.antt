use Rattle.std.proofs.Common.{◌∙◌, sym, ap, Bool, ◌∷◌, []}
use Rattle.std.specs.Prelude.{not, ◌||◌}
use Rattle.gw_lines.specs.Reading.{first_of}
use Rattle.gw_profile.specs.declared.fault.ProfileFault.TheVariants.{Syntax, Duplicate}
use Rattle.gw_profile.specs.declared.form.Line as declared
use Rattle.gw_profile.specs.Fault.{begun, tables, is_among, tests}
use Rattle.gw_profile.specs.Seen.{line, made, now_all, said}
use Rattle.gw_profile.proofs.Kept.{table_told}
use Rattle.gw_profile.proofs.reader.ReaderState.fault_of.Goals as goal

pub returns-in-Table : goal.returns-in-Table
returns-in-Table c =
    c.table_fault.ensures
    ∙ ap (λ (r : Bool). first_of ((not (begun (said c.args.self.now)), Syntax c.args.at) ∷ (is_among c.in-Table.name.now (tables (said c.args.self.now)) || r, Duplicate c.args.at) ∷ []))
    (table_told c.args.found.now c.is_none.result (now_all c.in-Table.field-1.items) c.is_none.ensures (c.requires.found ∙ ap (λ (w : declared.Line). made (line w)) c.in-Table.is))
    ∙ ap (λ (w : declared.Line). first_of (tests (said c.args.self.now) c.args.at (line w))) (sym c.in-Table.is)
