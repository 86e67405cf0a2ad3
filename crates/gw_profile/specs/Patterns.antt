-- What was expected at a line that is no line of a profile.
use Rattle.std.specs.Prelude.{ℕ, if◌then◌else◌, List, [], Option, Some, None, bytes_eq, codes}
use Rattle.gw_lines.specs.Expected.{keyword_of, line_at}

-- the pattern of the lines with this keyword, or all keywords where it is none
abbrev pub pattern : List ℕ → List ℕ
pattern keyword =
    if bytes_eq keyword (codes "profile") then codes "profile NAME, as the first line"
    else if bytes_eq keyword (codes "table") then codes "table NAME VALUE .."
    else if bytes_eq keyword (codes "segment") then codes "segment SEG [as LABEL] USAGE CARD"
    else if bytes_eq keyword (codes "field") then codes "field N USAGE CARD [leaf] [len N] [table NAME], below a segment"
    else if bytes_eq keyword (codes "comp") then codes "comp N USAGE [leaf] [len N] [table NAME], below a field"
    else if bytes_eq keyword (codes "sub") then codes "sub N USAGE [len N] [table NAME], below a component"
    else if bytes_eq keyword (codes "group") then codes "group LABEL USAGE CARD"
    else if bytes_eq keyword (codes "end") then codes "end, of a group"
    else if bytes_eq keyword (codes "count") then codes "count characters, directly below profile NAME"
    else codes "profile, count, table, segment, field, comp, sub, group or end"

-- the pattern, and what stands there
abbrev pub expected_at : Option (List ℕ) → List ℕ × List ℕ
expected_at None = (codes "profile NAME, or the end of a group", [])
expected_at (Some line) = (pattern (keyword_of line), line)

abbrev pub expected : List ℕ → ℕ → List ℕ × List ℕ
expected text at = expected_at (line_at text at)
