use Rattle.std.proofs.Common.{◌≡◌, drop}
use Rattle.gw_profile.specs.Seen.{forest}
use Rattle.gw_check.specs.Elements.{fields_below, fields_in}
use Rattle.gw_check.proofs.elements.fields_in.Given as goal

abbrev pub invariant-loop-next : goal.invariant-loop-next
invariant-loop-next l = fields_below (forest l.level) l.number (drop l.next-index l.rest) ≡ fields_in (forest l.nodes) l.at
