use Rattle.std.proofs.Common.{◌≡◌, ◌++◌}
use Rattle.gw_profile.specs.Seen.{field}
use Rattle.gw_sample.specs.own.Least.{keys, reps_keys}
use Rattle.gw_sample.proofs.least.add_field.Given as goal

abbrev pub invariant-loop-rep : goal.invariant-loop-rep
invariant-loop-rep l = keys l.places.items ≡ keys l.fn.places.items ++ reps_keys (field l.field) l.rep
