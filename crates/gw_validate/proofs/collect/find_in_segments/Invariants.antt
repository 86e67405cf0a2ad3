use Rattle.std.proofs.Common.{◌<◌, ℕ, List, [], length, drop}
use Rattle.std.specs.List.{AllByRecursion}
use Rattle.gw_profile.specs.Seen.{profile_value}
use Rattle.gw_validate.specs.declared.fields.Spot.{Spot}
use Rattle.gw_validate.specs.own.Finding.{Finds}
use Rattle.gw_validate.specs.own.Least.{ShapeRises, BreachAt}
use Rattle.gw_validate.specs.own.Taking.{paired, shape_of}
use Rattle.gw_validate.proofs.collect.find_in_segments.Given as goal

abbrev pub invariant-loop-i : goal.invariant-loop-i
invariant-loop-i l = record {
  rises : AllByRecursion (λ fields. ShapeRises (shape_of fields)) (drop l.i l.shapes);
  within : AllByRecursion (λ k. k < length l.message) (drop l.i l.numbers);
  on : (c : List (ℕ × Spot)) → Finds (BreachAt (profile_value l.profile) l.message) (paired (drop l.i l.numbers) (drop l.i l.shapes)) l.found.items c → Finds (BreachAt (profile_value l.profile) l.message) (paired l.numbers l.shapes) [] c;
}
