use Rattle.std.proofs.Common.{◌∙◌, sym, ap, Some}
use Rattle.gw_validate.specs.own.Occurring.{found_of}
use Rattle.gw_validate.proofs.Rows.{found_groups}
use Rattle.gw_validate.proofs.occurrences.Found.groups.Goals as goal

pub returns-in_default : goal.returns-in_default
returns-in_default c = ap found_of c.in_default.ensures

pub returns-in-Segments : goal.returns-in-Segments
returns-in-Segments c = ap found_of (ap Some (sym c.in-Segments.is) ∙ c.in-Some.ensures)

pub returns-in-OneGroup : goal.returns-in-OneGroup
returns-in-OneGroup c = c.from_ref.ensures.value ∙ ap found_of (ap Some (sym c.in-OneGroup.is) ∙ c.in-Some.ensures)

pub returns-in-Groups : goal.returns-in-Groups
returns-in-Groups c = c.deref.ensures.value ∙ sym (found_groups c.in-Groups.found) ∙ ap found_of (ap Some (sym c.in-Groups.is) ∙ c.in-Some.ensures)
