use Rattle.std.proofs.Common.{◌∙◌, sym, ap, subst, map, List}
use Rattle.gw_profile.specs.Shapes.{TableValue}
use Rattle.gw_profile.specs.Seen.{table, said}
use Rattle.gw_profile.specs.own.Building.{built_value}
use Rattle.gw_profile.specs.WellFormed.{WellFormed}
use Rattle.gw_profile.proofs.WellFormed.{whole_is}
use Rattle.gw_profile.proofs.reader.ReaderForm.finish.Goals as goal

pub of-requires : goal.of-requires
of-requires c =
    subst (λ (ts : List TableValue). WellFormed (built_value c.in_ok-name.field-0 ts)) (sym c.self.invariant.has_tables ∙ ap (map table) (sym c.into_tables.ensures))
    (whole_is (said c.self.inside.state) c.args.at _ c.self.invariant.taken c.in_ok-name.ensures)
