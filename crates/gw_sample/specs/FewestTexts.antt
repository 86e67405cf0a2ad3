-- How many texts have to come (HL7 v2.5.1 chapter 2, 2.12: usage and cardinality). A text makes present each element that it is in.
use Rattle.std.specs.Prelude.{ℕ, ◌+◌, ◌*◌, max, if◌then◌else◌}
use Rattle.std.specs.List.{sum_by}
use Rattle.gw_profile.specs.Shapes.{SubValue, CompValue, FieldValue, SegmentValue, Forest, nothing, segment, group}
use Rattle.gw_validate.specs.Breaches.{is_required}

abbrev pub of_sub : SubValue → ℕ
of_sub s = if is_required s.usage then 1 else 0

-- those of the subcomponents in it, or one that makes it present
abbrev pub of_comp : CompValue → ℕ
of_comp k = if is_required k.usage then max 1 (sum_by of_sub k.subs) else 0

-- in each repetition those of the components in it, or one
abbrev pub of_field : FieldValue → ℕ
of_field v = v.card.min * max 1 (sum_by of_comp v.comps)

abbrev pub of_segment : SegmentValue → ℕ
of_segment s = s.card.min * sum_by of_field s.fields

-- the texts that have to come in a message
abbrev pub fewest_texts : Forest → ℕ
fewest_texts nothing = 0
fewest_texts (segment s rest) = of_segment s + fewest_texts rest
fewest_texts (group g nodes rest) = g.card.min * fewest_texts nodes + fewest_texts rest
