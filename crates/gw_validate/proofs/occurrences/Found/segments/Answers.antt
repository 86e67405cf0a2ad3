use Rattle.std.proofs.Common.{◌∙◌, sym, ap, Some}
use Rattle.gw_validate.specs.own.Occurring.{numbers_of}
use Rattle.gw_validate.proofs.occurrences.Found.segments.Goals as goal

pub returns-in_default : goal.returns-in_default
returns-in_default c = ap (numbers_of c.args.listed.now) c.in_default.ensures

pub returns-in-Segments : goal.returns-in-Segments
returns-in-Segments c = c.part.ensures ∙ ap (numbers_of c.args.listed.now) (ap Some (sym c.in-Segments.is) ∙ c.in-Some.ensures)
