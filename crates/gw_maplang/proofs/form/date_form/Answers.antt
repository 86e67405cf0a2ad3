use Rattle.std.proofs.Common.{sym, ap, ◌∙◌, map}
use Rattle.std.specs.Option.{option_map}
use Rattle.gw_lines.specs.Seen.{word}
use Rattle.gw_maplang.specs.Line.{plain_at, date_digits}
use Rattle.gw_maplang.proofs.Dates.{with_length}
use Rattle.gw_maplang.proofs.form.date_form.Goals as goal

pub returns-in-Some : goal.returns-in-Some
returns-in-Some c =
    with_length (plain_at date_digits (map word c.args.words.now)) c.date_from.result _ _
    (sym (ap (option_map (λ w. (w.0, map word w.1.now))) c.in-Some.is) ∙ c.date_digits_at.ensures) c.date_from.ensures
