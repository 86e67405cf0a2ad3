-- What a line that was taken keeps, given the lines above it.
use Rattle.std.proofs.Common.{ℕ, List, subst}
use Rattle.std.specs.Prelude.{IfSome}
use Rattle.gw_profile.proofs.Facts.{lt_is}
use Rattle.gw_maplang.specs.Line.{Line, Begins, Language, Table, Rows, Else, Segment, Makes, At, Or, Each, End, Drops}
use Rattle.gw_maplang.specs.Fault.{tests, wide_tables, open_segment, open_rule, depth}
use Rattle.gw_lines.specs.Grammar.{Taken}
use Rattle.gw_lines.proofs.Taken.{Clear, clear_of, taken_by}
use Rattle.gw_maplang.specs.Fault.{grammar}
use Rattle.gw_maplang.specs.Seen.{IsNewTable, IsNewField, IsNewPlace, HasRoom}
use Rattle.gw_maplang.proofs.Shaped.{Shaped, form_is}

pub record Keeps (above : List Line) (line : Line) : Type 0 where
  pub at : ℕ
  pub shaped : Shaped line
  pub clear : Clear (tests above at line)

pub taken_keeps : (above : List Line) (line : Line) → Taken grammar above line → Keeps above line
taken_keeps above line t =
    let k = taken_by grammar above t.at t.words line t.taken in
    record { at = t.at; shaped = subst (λ o. IfSome o Shaped) k.0 (form_is t.at t.words); clear = clear_of (tests above t.at line) k.1 }

-- ---- what is new

pub new_table : (above : List Line) (line : Line) → Taken grammar above line → IsNewTable (wide_tables above) line
new_table above line t = by line (taken_keeps above line t)
  where
    by : (l : Line) → Keeps above l → IsNewTable (wide_tables above) l
    by (Begins at name source target) k = tt
    by Language k = tt
    by (Table name) k = k.clear.1.0
    by (Rows row) k = k.clear.1.1.0
    by (Else values) k = tt
    by (Segment at label source) k = tt
    by (Makes rule) k = tt
    by (At leaf) k = tt
    by (Or other) k = tt
    by (Each at label walk) k = tt
    by End k = tt
    by (Drops drop) k = tt

pub new_field : (above : List Line) (line : Line) → Taken grammar above line → IsNewField (open_segment above) line
new_field above line t = by line (taken_keeps above line t)
  where
    by : (l : Line) → Keeps above l → IsNewField (open_segment above) l
    by (Begins at name source target) k = tt
    by Language k = tt
    by (Table name) k = tt
    by (Rows row) k = tt
    by (Else values) k = tt
    by (Segment at label source) k = tt
    by (Makes rule) k = k.clear.1.1.1.0
    by (At leaf) k = tt
    by (Or other) k = tt
    by (Each at label walk) k = tt
    by End k = tt
    by (Drops drop) k = tt

pub new_place : (above : List Line) (line : Line) → Taken grammar above line → IsNewPlace (open_rule above) line
new_place above line t = by line (taken_keeps above line t)
  where
    by : (l : Line) → Keeps above l → IsNewPlace (open_rule above) l
    by (Begins at name source target) k = tt
    by Language k = tt
    by (Table name) k = tt
    by (Rows row) k = tt
    by (Else values) k = tt
    by (Segment at label source) k = tt
    by (Makes rule) k = tt
    by (At leaf) k = k.clear.1.1.1.0
    by (Or other) k = tt
    by (Each at label walk) k = tt
    by End k = tt
    by (Drops drop) k = tt

pub has_room : (above : List Line) (line : Line) → Taken grammar above line → HasRoom (depth above) line
has_room above line t = by line (taken_keeps above line t)
  where
    by : (l : Line) → Keeps above l → HasRoom (depth above) l
    by (Begins at name source target) k = tt
    by Language k = tt
    by (Table name) k = tt
    by (Rows row) k = tt
    by (Else values) k = tt
    by (Segment at label source) k = tt
    by (Makes rule) k = tt
    by (At leaf) k = tt
    by (Or other) k = tt
    by (Each at label walk) k = lt_is 16 (depth above) k.clear.1.1.0
    by End k = tt
    by (Drops drop) k = tt
