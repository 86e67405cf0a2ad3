use Rattle.std.proofs.Common.{◌≡◌, map, min, take}
use Rattle.std.specs.List.{sum_by}
use Rattle.gw_profile.specs.Seen.{sub}
use Rattle.gw_sample.specs.FewestTexts.{of_sub}
use Rattle.gw_sample.proofs.fewest_texts.count_subs.Given as goal

abbrev pub invariant-loop-sub : goal.invariant-loop-sub
invariant-loop-sub l = l.count ≡ min (sum_by of_sub (map sub (take l.sub-index l.subs))) 524289
