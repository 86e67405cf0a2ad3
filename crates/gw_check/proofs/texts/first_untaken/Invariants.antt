use Rattle.std.proofs.Common.{◌≡◌, drop}
use Rattle.std.specs.Prelude.{◌&&◌, not, find}
use Rattle.gw_leaves.specs.Leaves.{is_short}
use Rattle.gw_leaves.specs.Texts.{items_all}
use Rattle.gw_check.specs.Elements.{takes}
use Rattle.gw_check.proofs.texts.first_untaken.Given as goal

abbrev pub invariant-loop-text : goal.invariant-loop-text
invariant-loop-text l = find (λ text. is_short l.count l.len text && not (takes l.taker text)) (items_all l.all) ≡ find (λ text. is_short l.count l.len text && not (takes l.taker text)) (items_all (drop l.text-index l.all))
