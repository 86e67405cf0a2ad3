use Rattle.std.proofs.Common.{◌≡◌, take, map}
use Rattle.gw_profile.specs.Lengths.{measure}
use Rattle.gw_leaves.specs.own.Comparisons.{sized}
use Rattle.gw_leaves.proofs.listing.measured.Given as goal

abbrev pub invariant-loop-text : goal.invariant-loop-text
invariant-loop-text l = map sized l.made.items ≡ map (λ v. (measure l.count v.items, v.items)) (take l.text-index l.texts)
