use Rattle.std.proofs.Common.{◌≡◌, map, min, take}
use Rattle.std.specs.List.{sum_by}
use Rattle.gw_profile.specs.Seen.{field}
use Rattle.gw_sample.specs.FewestTexts.{of_field}
use Rattle.gw_sample.proofs.fewest_texts.count_fields.Given as goal

abbrev pub invariant-loop-field : goal.invariant-loop-field
invariant-loop-field l = l.count ≡ min (sum_by of_field (map field (take l.field-index l.fields))) 524289
