use Rattle.std.proofs.Common.{◌≡◌, ◌++◌, map, take}
use Rattle.std.specs.List.{flat_map}
use Rattle.gw_profile.specs.Seen.{comp}
use Rattle.gw_sample.specs.own.Least.{keys, comp_keys}
use Rattle.gw_sample.proofs.least.add_comps.Given as goal

abbrev pub invariant-loop-comp : goal.invariant-loop-comp
invariant-loop-comp l = keys l.places.items ≡ keys l.fn.places.items ++ flat_map (comp_keys l.field l.rep) (map comp (take l.comp-index l.comps))
