-- The plan that a text spells.
use Rattle.std.specs.Prelude.{ℕ, zero, suc, ◌+◌, if◌then◌else◌, List, [], ◌∷◌, length, Option, Some, None, Result, Ok, Err}
use Rattle.std.specs.List.{list_any, before_first}
use Rattle.gw_lines.specs.Words.{Word, words, lines}
use Rattle.gw_lines.specs.Reading.{◌>>=◌, is_too_large}
use Rattle.gw_plan.specs.declared.fault.PlanFault.{PlanFault}
use Rattle.gw_plan.specs.declared.fault.PlanFault.TheVariants.{Syntax, TooLarge}
use Rattle.gw_plan.specs.Shapes.{PlanValue}
use Rattle.gw_plan.specs.declared.form.Kind.{Kind}
use Rattle.gw_plan.specs.Line.{Line, Opens, form, is_stop}
use Rattle.gw_plan.specs.Draft.{Draft, nothing, takes, plan_of}
use Rattle.gw_plan.specs.Inner.{Inner, takes_part}

-- the inner text after a `begin` line of this number, among the lines that follow
abbrev pub inner : ℕ → List (List ℕ) → Inner
inner at more = record { at = at; lines = before_first is_stop more; stopped = list_any is_stop more }

-- how many lines an inner text has, with its `stop` line
abbrev pub lines_of_inner : List (List ℕ) → ℕ
lines_of_inner more = length (before_first is_stop more) + 1

-- a plan, with how many of the lines that follow say it with the line that was read
abbrev pub Taken : Type 0
Taken = Result (Draft × ℕ) PlanFault

abbrev pub and_lines : ℕ → Result Draft PlanFault → Taken
and_lines count (Ok d) = Ok (d, count)
and_lines count (Err fault) = Err fault

-- begin profile, begin map: an inner text comes after the first line
abbrev pub takes_inner : Draft → ℕ → Kind → List (List ℕ) → Taken
takes_inner d at kind more = if d.begun then and_lines (lines_of_inner more) (takes_part d kind (inner at more)) else Err (Syntax at)

abbrev pub takes_line : Draft → ℕ → Option Line → List (List ℕ) → Taken
takes_line d at None more = Err (Syntax at)
takes_line d at (Some (Opens kind)) more = takes_inner d at kind more
takes_line d at (Some line) more = and_lines 0 (takes d at line)

-- a line is broken, or passed over, or taken with those of its inner text
abbrev pub takes_words : Draft → ℕ → Option (List Word) → List (List ℕ) → Taken
takes_words d at None more = Err (Syntax at)
takes_words d at (Some []) more = Ok (d, 0)
takes_words d at (Some (w ∷ ws)) more = takes_line d at (form (w ∷ ws)) more

-- a line is skipped that was taken with one above
abbrev pub takes_next : Draft → ℕ → ℕ → List ℕ → List (List ℕ) → Taken
takes_next d (suc skip) at line more = Ok (d, skip)
takes_next d zero at line more = takes_words d at (words line) more

-- the lines in turn, the first of this number behind those that are skipped, or the fault of the first that has one
abbrev pub reads : Draft → ℕ → ℕ → List (List ℕ) → Result Draft PlanFault
reads d skip at [] = Ok d
reads d skip at (line ∷ more) = takes_next d skip at line more >>= λ next. reads next.0 next.1 (at + 1) more

-- the whole; at is the number of the line after the last
abbrev pub begun : Draft → ℕ → Result Draft PlanFault
begun d at = if d.begun then Ok d else Err (Syntax at)

abbrev pub most_bytes : ℕ
most_bytes = 4194304

abbrev pub most_lines : ℕ
most_lines = 40000

-- what all lines of the text say together
abbrev pub drafted : List ℕ → Result Draft PlanFault
drafted text =
    if is_too_large most_bytes most_lines text then Err TooLarge
    else reads nothing 0 1 (lines text) >>= λ d. begun d (length (lines text) + 1)

-- the plan that the text spells, or its one fault
abbrev pub spelled : List ℕ → Result PlanValue PlanFault
spelled text = drafted text >>= λ d. Ok (plan_of d)
