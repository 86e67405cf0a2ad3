-- Fields, components and subcomponents by their numbers.
use Rattle.std.specs.Prelude.{ℕ, ◌==◌, List, Option, Some, None, find, option_map}
use denote.Ref.{Bor}
use Rattle.gw_profile.specs.declared.shape.SubShape.{SubShape}
use Rattle.gw_profile.specs.declared.shape.CompShape.{CompShape}
use Rattle.gw_profile.specs.declared.shape.FieldShape.{FieldShape}
use Rattle.gw_profile.specs.Seen.{field, comp, sub}
use Rattle.gw_profile.specs.Shapes.{SubValue, CompValue, FieldValue}

-- the first of this number
abbrev pub field_of : List FieldValue → ℕ → Option FieldValue
field_of fields number = find (λ f. f.number == number) fields

-- none of a field or component that isn't listed
abbrev pub comp_of : Option FieldValue → ℕ → Option CompValue
comp_of None number = None
comp_of (Some f) number = find (λ c. c.number == number) f.comps

abbrev pub sub_of : Option CompValue → ℕ → Option SubValue
sub_of None number = None
sub_of (Some c) number = find (λ s. s.number == number) c.subs

-- ---- as the program borrows them

abbrev pub some_field : Option (Bor FieldShape) → Option FieldValue
some_field f = option_map (λ b. field b.now) f

abbrev pub some_comp : Option (Bor CompShape) → Option CompValue
some_comp c = option_map (λ b. comp b.now) c

abbrev pub some_sub : Option (Bor SubShape) → Option SubValue
some_sub s = option_map (λ b. sub b.now) s
