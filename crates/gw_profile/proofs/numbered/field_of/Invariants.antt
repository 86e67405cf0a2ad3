use Rattle.std.proofs.Common.{◌≡◌, drop, map}
use Rattle.gw_profile.specs.Seen.{field}
use Rattle.gw_profile.specs.Numbered as spec
use Rattle.gw_profile.proofs.numbered.field_of.Given as goal

abbrev pub invariant-loop-field : goal.invariant-loop-field
invariant-loop-field l = spec.field_of (map field l.fields) l.number ≡ spec.field_of (map field (drop l.field-index l.fields)) l.number
