use Rattle.std.proofs.Common.{◌≡◌, take}
use Rattle.gw_profile.specs.Seen.{forest}
use Rattle.gw_validate.specs.Conforming.{numbers}
use Rattle.gw_validate.proofs.listing.listed.Given as goal

abbrev pub invariant-loop-number : goal.invariant-loop-number
invariant-loop-number l = l.found.items ≡ numbers (forest l.profile.nodes) (take l.number l.message)
