use Rattle.std.proofs.Common.{List, subst}
use Rattle.gw_lines.specs.Reading.{Gives, adding, spelled_by}
use Rattle.gw_lines.proofs.Texts.{gives_text}
use Rattle.gw_maplang.specs.declared.fault.MapFault.TheVariants.{Memory, Syntax, TooLarge}
use Rattle.gw_maplang.specs.Line.{Line}
use Rattle.gw_maplang.specs.Fault.{takes}
use Rattle.gw_maplang.specs.Seen.{map_value}
use Rattle.gw_maplang.specs.Whole.{whole, most_bytes, most_lines}
use Rattle.gw_maplang.proofs.text.parse.Goals as goal

pub returns : goal.returns
returns c =
    subst (λ (start : List Line). Gives Memory map_value c.read_text.result (spelled_by most_bytes most_lines TooLarge Syntax (adding takes) whole start c.args.text.now))
    c.new.ensures (gives_text Memory TooLarge map_value whole _ _ _ c.read_text.result c.read_text.ensures)
