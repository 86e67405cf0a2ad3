use Rattle.gw_profile.specs.Seen.{field}
use Rattle.gw_check.specs.Collected.{fields_at, field_missed}
use Rattle.gw_resolve.proofs.Listing.{Tells}
use Rattle.gw_check.proofs.overlooked.add_fields.Given as goal

abbrev pub invariant-loop-field : goal.invariant-loop-field
invariant-loop-field l = Tells (field_missed l.known l.at) field (fields_at l.initial.found.items) (fields_at l.found.items) l.field-index l.fields
