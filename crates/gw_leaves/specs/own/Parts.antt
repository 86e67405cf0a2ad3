-- Where the texts of leaves stand in their field.
use Rattle.std.specs.Prelude.{ℕ, Bool, ◌==◌, ◌&&◌, ◌||◌, not, List}
use Rattle.std.specs.List.{list_any, list_all}
use Rattle.gw_resolve.specs.Resolved.{At}
use Rattle.gw_leaves.specs.declared.parts.Part.{Part}
use Rattle.gw_leaves.specs.declared.parts.Part.TheVariants.{Field, Comp, Sub}
use Rattle.gw_leaves.specs.Leaves.{Sources, at_presence, is_always, is_absent}

-- what is at this place is in the part, and is always there
abbrev pub is_sure_in : Part → ℕ → ℕ → Bool → Bool
is_sure_in Field comp sub always = always
is_sure_in (Comp part) comp sub always = comp == part && always
is_sure_in (Sub part inner) comp sub always = comp == part && sub == inner && always

-- it isn't beside the part, or is never there
abbrev pub is_not_beside : Part → ℕ → ℕ → Bool → Bool
is_not_beside Field comp sub never = never
is_not_beside (Comp part) comp sub never = comp == part || never
is_not_beside (Sub part inner) comp sub never = not (comp == part) || sub == inner || never

abbrev pub some_sure : Sources → Part → List At → Bool
some_sure s part leaves = list_any (λ a. is_sure_in part a.comp a.sub (is_always (at_presence s a))) leaves

abbrev pub none_beside : Sources → Part → List At → Bool
none_beside s part leaves = list_all (λ a. is_not_beside part a.comp a.sub (is_absent (at_presence s a))) leaves

-- some place of the part always has a text, or none beside it ever has
abbrev pub is_sure : Sources → Part → List At → Bool
is_sure s part leaves = some_sure s part leaves || none_beside s part leaves
