use Rattle.std.proofs.Common.{◌≡◌, map, take}
use Rattle.gw_profile.specs.Seen.{field}
use Rattle.gw_sample.specs.own.Least.{keys, keys_of}
use Rattle.gw_sample.proofs.least.places_of.Given as goal

abbrev pub invariant-loop-field : goal.invariant-loop-field
invariant-loop-field l = keys l.places.items ≡ keys_of (map field (take l.field-index l.fields))
