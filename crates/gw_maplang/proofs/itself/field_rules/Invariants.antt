use Rattle.std.proofs.Common.{◌≡◌, ◌++◌, drop, map}
use Rattle.gw_profile.specs.Seen.{field}
use Rattle.gw_maplang.specs.Identity.{field_rules}
use Rattle.gw_maplang.specs.Seen.{rule}
use Rattle.gw_maplang.proofs.itself.field_rules.Given as goal

abbrev pub invariant-loop-field : goal.invariant-loop-field
invariant-loop-field l = map rule l.rules.items ++ field_rules l.label (map field (drop l.field-index l.fields)) ≡ field_rules l.label (map field l.fields)
