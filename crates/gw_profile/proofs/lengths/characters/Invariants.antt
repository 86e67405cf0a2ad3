use Rattle.std.proofs.Common.{◌≡◌, ◌≤◌, take}
use Rattle.std.specs.Prelude.{count_by}
use Rattle.gw_profile.specs.Lengths.{begins_character}
use Rattle.gw_profile.proofs.lengths.characters.Given as goal

abbrev pub invariant-loop-octet : goal.invariant-loop-octet
invariant-loop-octet l = record {
  few : l.count ≤ l.octet-index;
  counted : l.count ≡ count_by begins_character (take l.octet-index l.text);
}
