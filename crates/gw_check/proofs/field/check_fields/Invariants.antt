use Rattle.gw_profile.specs.Seen.{field}
use Rattle.gw_check.specs.own.Seen.{field_failures}
use Rattle.gw_resolve.specs.Seen.{failures}
use Rattle.gw_resolve.proofs.Listing.{Tells}
use Rattle.gw_check.proofs.field.check_fields.Given as goal

abbrev pub invariant-loop-field : goal.invariant-loop-field
invariant-loop-field l = Tells (field_failures l.sources l.holder l.rules) field (failures l.initial.found.items) (failures l.found.items) l.field-index l.fields
