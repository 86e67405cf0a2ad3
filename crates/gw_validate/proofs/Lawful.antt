-- What a profile keeps, in the words of the search.
use Rattle.std.proofs.Common.{ℕ, suc, ◌<◌, Bool, true, false, List, [], ◌∷◌, map, arith}
use Rattle.std.specs.Prelude.{if◌then◌else◌, bytes_eq, codes}
use Rattle.std.specs.List.{AllByRecursion}
use Rattle.gw_profile.specs.Shapes.{Forest, nothing, segment, group, SubValue, CompValue, FieldValue, SegmentValue}
use Rattle.gw_profile.specs.WellFormed.{Rising, LawfulComp, LawfulField, LawfulSegment, EachSegment}
use Rattle.gw_profile.specs.Fault.{least_field}
use Rattle.gw_validate.specs.own.Least.{Rises, CompRises, FieldRises, ShapeRises, EachRises}

module _ {A : Type 0} (number : A → ℕ) where
  rises : (k low high : ℕ) (xs : List A) → k < low → Rising low high (map number xs) → Rises number k xs
  rises k low high [] lt r = tt
  rises k low high (x ∷ xs) lt r = (omega (arith, r.0), rises (number x) (suc (number x)) high xs (omega arith) r.2)

comps_rise : (tables : List (List ℕ)) (cs : List CompValue) → AllByRecursion (LawfulComp tables) cs → AllByRecursion CompRises cs
comps_rise tables [] a = tt
comps_rise tables (c ∷ cs) a = (rises (λ (s : SubValue). s.number) 0 1 99 c.subs (omega arith) a.0.rising, comps_rise tables cs a.1)

fields_rise : (tables : List (List ℕ)) (fs : List FieldValue) → AllByRecursion (LawfulField tables) fs → AllByRecursion FieldRises fs
fields_rise tables [] a = tt
fields_rise tables (f ∷ fs) a =
    (record { comps = rises (λ (c : CompValue). c.number) 0 1 99 f.comps (omega arith) a.0.rising; each = comps_rise tables f.comps a.0.each }, fields_rise tables fs a.1)

shape_rises : (tables : List (List ℕ)) (low : ℕ) (s : SegmentValue) → 0 < low → Rising low 999 (map (λ (f : FieldValue). f.number) s.fields) → AllByRecursion (LawfulField tables) s.fields → ShapeRises s.fields
shape_rises tables low s lt r a = record { rises = rises (λ (f : FieldValue). f.number) 0 low 999 s.fields lt r; each = fields_rise tables s.fields a }

some_least : (b : Bool) → 0 < (if b then 3 else 1)
some_least true = omega arith
some_least false = omega arith

pub each_rises : (tables : List (List ℕ)) (f : Forest) → EachSegment (LawfulSegment tables) f → EachRises f
each_rises tables nothing a = tt
each_rises tables (segment s rest) a =
    (shape_rises tables (least_field s.name) s (some_least (bytes_eq s.name (codes "MSH"))) a.0.rising a.0.each, each_rises tables rest a.1)
each_rises tables (group g nodes rest) a = (each_rises tables nodes a.0, each_rises tables rest a.1)
