-- What a line that was taken keeps, given the lines above it.
use Rattle.std.proofs.Common.{◌≡◌, ℕ, ◌<◌, ◌≤◌, Bool, true, false, List, length, Option, Some, None, subst, arith}
use Rattle.std.specs.Prelude.{◌==◌, not, nat_le, IfSome}
use Rattle.std.specs.Option.{is_some}
use Rattle.std.proofs.lemmas.Bool.Decides.{nat_tests}
use Rattle.gw_lines.specs.Reading.{first_of}
use Rattle.gw_profile.specs.Among.{Among, Distinct}
use Rattle.gw_profile.specs.Line.{Line, Leaf, Begins, Table, Segment, Field, Comp, Sub, Group, End, Counts, agrees, is_forbidden}
use Rattle.gw_profile.specs.Fault.{Parent, parents, begun, tables, levels, is_among, has_repeat, is_unknown, names_unknown, begins_tests, table_tests, segment_tests, group_tests, end_tests, part_tests, tests, grammar, just_begun, counts_tests}
use Rattle.gw_lines.specs.Grammar.{Taken}
use Rattle.gw_lines.proofs.Taken.{clear_of, taken_by}
use Rattle.gw_profile.proofs.Facts.{neither, not_false, no_clash, le_is, lt_is}
use Rattle.gw_profile.proofs.Among.{among_is, not_among, distinct_is}
use Rattle.gw_profile.proofs.Shaped.{Shaped, form_is}

abbrev pub LeafKnown : Option Leaf → List (List ℕ) → Type 0
LeafKnown None names = Unit {0}
LeafKnown (Some leaf) names = IfSome leaf.table (λ name. Among name names)

abbrev pub PartPasses : ℕ → Option Leaf → Option Parent → List (List ℕ) → Type 0
PartPasses number leaf None names = ⊥
PartPasses number leaf (Some parent) names = (parent.shut ≡ false) × (parent.least ≤ number) × (parent.last < number) × LeafKnown leaf names

abbrev pub Passes : List Line → Line → Type 0
Passes above (Begins name) = begun above ≡ false
Passes above (Table name values) = (begun above ≡ true) × (Among name (tables above) → ⊥) × Distinct values
Passes above (Segment name label renamed usage card) = (begun above ≡ true) × (agrees usage card ≡ true) × (Among label (levels above).labels → ⊥)
Passes above (Field number usage card leaf) = PartPasses number leaf (parents above).segment (tables above) × (agrees usage card ≡ true)
Passes above (Comp number usage leaf) = PartPasses number leaf (parents above).field (tables above) × (is_some usage ≡ true)
Passes above (Sub number usage leaf) = PartPasses number leaf (parents above).comp (tables above) × (is_some usage ≡ true)
Passes above (Group at label usage card) =
    (begun above ≡ true) × (agrees usage card ≡ true) × (is_forbidden usage ≡ false) × (Among label (levels above).labels → ⊥) × (length (levels above).outer < 8)
Passes above End = 0 < length (levels above).outer
Passes above Counts = just_begun above ≡ true

pub record Keeps (above : List Line) (line : Line) : Type 0 where
  pub shaped : Shaped line
  pub passes : Passes above line

known_is : (leaf : Option Leaf) (names : List (List ℕ)) → names_unknown leaf names ≡ false → LeafKnown leaf names
known_is None names e = tt
known_is (Some leaf) names e = by leaf.table e
  where
    by : (table : Option (List ℕ)) → is_unknown table names ≡ false → IfSome table (λ name. Among name names)
    by None e = tt
    by (Some name) e = (among_is name names).0 (not_false (is_among name names) e)

part_passes : (at number : ℕ) (lawful : Bool) (leaf : Option Leaf) (parent : Option Parent) (names : List (List ℕ)) → first_of (part_tests at number lawful leaf parent names) ≡ None → PartPasses number leaf parent names × (lawful ≡ true)
part_passes at number lawful leaf None names e = absurd (no_clash (clear_of (part_tests at number lawful leaf None names) e).0)
part_passes at number lawful leaf (Some parent) names e =
    let c = clear_of (part_tests at number lawful leaf (Some parent) names) e in
    let m = neither parent.shut (not (nat_le parent.least number)) c.0 in
    ((m.0, le_is parent.least number (not_false _ m.1), lt_is number parent.last c.1.1.0, known_is leaf names c.1.1.1.0), not_false lawful c.1.0)

not_zero : (n : ℕ) → (n == 0) ≡ false → 0 < n
not_zero n e = grind (arith, nat_tests)

pub passes_is : (above : List Line) (at : ℕ) (line : Line) → first_of (tests above at line) ≡ None → Passes above line
passes_is above at (Begins name) e = (clear_of (begins_tests above at) e).0
passes_is above at (Table name values) e =
    let c = clear_of (table_tests above at name values) e in
    let d = neither (is_among name (tables above)) (has_repeat values) c.1.0 in
    (not_false _ c.0, not_among name (tables above) d.0, distinct_is values d.1)
passes_is above at (Segment name label renamed usage card) e =
    let c = clear_of (segment_tests above at label usage card) e in
    (not_false _ c.0, not_false _ c.1.0, not_among label (levels above).labels c.1.1.0)
passes_is above at (Field number usage card leaf) e = part_passes at number (agrees usage card) leaf (parents above).segment (tables above) e
passes_is above at (Comp number usage leaf) e = part_passes at number (is_some usage) leaf (parents above).field (tables above) e
passes_is above at (Sub number usage leaf) e = part_passes at number (is_some usage) leaf (parents above).comp (tables above) e
passes_is above at (Group line label usage card) e =
    let c = clear_of (group_tests above at label usage card) e in
    let u = neither (not (agrees usage card)) (is_forbidden usage) c.1.0 in
    (not_false _ c.0, not_false _ u.0, u.1, not_among label (levels above).labels c.1.1.0, lt_is 8 (length (levels above).outer) c.1.1.1.0)
passes_is above at Counts e = not_false _ (clear_of (counts_tests above at) e).0
passes_is above at End e = not_zero (length (levels above).outer) (clear_of (end_tests above at) e).0

pub taken_keeps : (above : List Line) (line : Line) → Taken grammar above line → Keeps above line
taken_keeps above line t =
    let k = taken_by grammar above t.at t.words line t.taken in
    record { shaped = subst (λ o. IfSome o Shaped) k.0 (form_is t.at t.words); passes = passes_is above t.at line k.1 }
