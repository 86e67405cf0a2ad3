use Rattle.std.proofs.Common.{◌≡◌, List, map, reverse, ap, sym, subst, ◌∙◌}
use Rattle.std.proofs.lemmas.List.{reverse-reverse}
use Rattle.gw_maplang.specs.declared.form.Line as declared
use Rattle.gw_maplang.specs.Fault as faults
use Rattle.gw_maplang.specs.Line.{Line}
use Rattle.gw_maplang.specs.Lawful.{Lawful}
use Rattle.gw_maplang.specs.Shapes.{Items, TableValue, DropValue, MapValue}
use Rattle.gw_maplang.specs.Value.{Head, head, levels, drops}
use Rattle.gw_maplang.specs.own.Building.{head_value}
use Rattle.gw_maplang.specs.Seen.{line, above}
use Rattle.gw_maplang.specs.Whole.{map_of}
use Rattle.gw_maplang.specs.Columns.{all_columns}
use Rattle.gw_maplang.specs.own.Widths.{LawfulWides}
use Rattle.gw_maplang.proofs.Formed.{formed, tables_lawful}
use Rattle.gw_maplang.proofs.whole.map_of.Goals as goal

-- a map of what lines say is the map that they spell, the last first
of_parts : (lines : List Line) (h : Head) (tables : List TableValue) (items : Items) (left : List DropValue) → h ≡ head lines → tables ≡ faults.tables (reverse lines) → items ≡ (levels lines).here → left ≡ drops lines →
    ◌≡◌ {A = MapValue} (record { name = h.name; source = h.source; target = h.target; line = h.line; tables = tables; items = items; drops = left }) (map_of (reverse lines))
of_parts lines h tables items left first said inner behind =
    let back = sym (reverse-reverse lines) in
    let h' : h ≡ head (reverse (reverse lines)) = first ∙ ap head back in
    let i' : items ≡ (levels (reverse (reverse lines))).here = inner ∙ ap (λ (l : List Line). (levels l).here) back in
    let d' : left ≡ drops (reverse (reverse lines)) = behind ∙ ap drops back in
    λ k. record { name = (h' k).name; source = (h' k).source; target = (h' k).target; line = (h' k).line; tables = said k; items = i' k; drops = d' k }

pub invariant_of-result : goal.invariant_of-result
invariant_of-result c =
    let lines = map line c.args.lines.items in
    let first = c.in_ok-line.ensures ∙ ap (λ (l : List declared.Line). head (map line l)) c.deref.ensures.value in
    subst Lawful (sym (of_parts lines (head_value c.in_ok-line.field-0) _ _ _ first (c.in_ok-tables.ensures ∙ (λ i. all_columns (c.requires.second i) (c.requires.tables i))) c.in_ok-items.ensures.items c.in_ok-items.ensures.drops)) (formed (above c.args.lines.items) c.requires.taken c.requires.closed)

pub returns : goal.returns
returns c =
    let lines = map line c.args.lines.items in
    let first = c.in_ok-line.ensures ∙ ap (λ (l : List declared.Line). head (map line l)) c.deref.ensures.value in
    of_parts lines (head_value c.in_ok-line.field-0) _ _ _ first (c.in_ok-tables.ensures ∙ (λ i. all_columns (c.requires.second i) (c.requires.tables i))) c.in_ok-items.ensures.items c.in_ok-items.ensures.drops

pub columns-requires : goal.columns-requires
columns-requires c = subst LawfulWides (sym c.requires.tables) (tables_lawful (above c.args.lines.items) c.requires.taken)
