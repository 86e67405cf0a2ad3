use Rattle.std.proofs.Common.{◌≡◌, ◌++◌, map, take}
use Rattle.std.specs.List.{flat_map}
use Rattle.gw_profile.specs.Seen.{sub}
use Rattle.gw_sample.specs.own.Least.{keys, sub_keys}
use Rattle.gw_sample.proofs.least.add_subs.Given as goal

abbrev pub invariant-loop-sub : goal.invariant-loop-sub
invariant-loop-sub l =
    keys l.places.items ≡ keys l.fn.places.items ++ flat_map (sub_keys l.at.field l.at.rep l.at.comp) (map sub (take l.sub-index l.subs))
