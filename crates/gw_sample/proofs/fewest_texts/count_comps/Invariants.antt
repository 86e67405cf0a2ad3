use Rattle.std.proofs.Common.{◌≡◌, map, min, take}
use Rattle.std.specs.List.{sum_by}
use Rattle.gw_profile.specs.Seen.{comp}
use Rattle.gw_sample.specs.FewestTexts.{of_comp}
use Rattle.gw_sample.proofs.fewest_texts.count_comps.Given as goal

abbrev pub invariant-loop-comp : goal.invariant-loop-comp
invariant-loop-comp l = l.count ≡ min (sum_by of_comp (map comp (take l.comp-index l.comps))) 524289
