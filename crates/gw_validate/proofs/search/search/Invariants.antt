use Rattle.std.proofs.Common.{◌<◌, length, drop, Option, ℕ, List}
use Rattle.std.specs.List.{AllByRecursion}
use Rattle.gw_profile.specs.Seen.{profile_value}
use Rattle.gw_validate.specs.own.Least.{ShapeRises, Searched, BreachAt}
use Rattle.gw_validate.specs.own.Taking.{paired, shape_of}
use Rattle.gw_validate.proofs.search.search.Given as goal

abbrev pub invariant-loop-i : goal.invariant-loop-i
invariant-loop-i l = record {
  rises : AllByRecursion (λ fields. ShapeRises (shape_of fields)) (drop l.i l.shapes);
  within : AllByRecursion (λ k. k < length l.message) (drop l.i l.numbers);
  on : (r : Option (ℕ × List ℕ)) → Searched (BreachAt (profile_value l.profile) l.message) (paired (drop l.i l.numbers) (drop l.i l.shapes)) r → Searched (BreachAt (profile_value l.profile) l.message) (paired l.numbers l.shapes) r;
}
