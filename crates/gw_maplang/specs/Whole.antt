-- The whole map, after all of its lines.
use Rattle.std.specs.Prelude.{ℕ, ◌==◌, Bool, not, ◌||◌, if◌then◌else◌, List, [], reverse, Result, Ok, Err}
use Rattle.gw_lines.specs.Reading.{adding, spelled_by}
use Rattle.gw_maplang.specs.declared.fault.MapFault.{MapFault}
use Rattle.gw_maplang.specs.declared.fault.MapFault.TheVariants.{Syntax, TooLarge}
use Rattle.gw_maplang.specs.Shapes.{MapValue}
use Rattle.gw_maplang.specs.Line.{Line}
use Rattle.gw_maplang.specs.Fault.{begun, tables, depth, takes}
use Rattle.gw_maplang.specs.Value.{levels, drops, head}

-- some group or flat is open, or nothing was said
abbrev pub is_unclosed : List Line → Bool
is_unclosed all = not (begun all) || not (depth all == 0)

-- the map that these lines spell, the last first
abbrev pub map_of : List Line → MapValue
map_of all =
    record {
      name = (head (reverse all)).name;
      source = (head (reverse all)).source;
      target = (head (reverse all)).target;
      line = (head (reverse all)).line;
      tables = tables all;
      items = (levels (reverse all)).here;
      drops = drops (reverse all);
    }

-- the same where no part is open; at is the line after the last
abbrev pub whole : List Line → ℕ → Result MapValue MapFault
whole all at = if is_unclosed all then Err (Syntax at) else Ok (map_of all)

abbrev pub most_bytes : ℕ
most_bytes = 1048576

abbrev pub most_lines : ℕ
most_lines = 10000

-- the map that the text spells, or its one fault
abbrev pub spelled : List ℕ → Result MapValue MapFault
spelled text = spelled_by most_bytes most_lines TooLarge Syntax (adding takes) whole [] text
