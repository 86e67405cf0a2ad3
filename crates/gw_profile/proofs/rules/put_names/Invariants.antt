use Rattle.std.proofs.Common.{◌≡◌, take, ℕ, List}
use Rattle.std.specs.Prelude.{◌||◌}
use Rattle.gw_profile.specs.Fault.{is_among}
use Rattle.gw_profile.proofs.rules.put_names.Given as goal

abbrev pub invariant-loop-name : goal.invariant-loop-name
invariant-loop-name l = (x : List ℕ) → is_among x l.held.keys ≡ is_among x l.initial.held.keys || is_among x (take l.name-index l.names)
