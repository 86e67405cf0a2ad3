use Rattle.std.proofs.Common.{refl, sym, ap, ◌∙◌, ◌++◌, ◌∷◌, ◌+◌, take, get_or, List, ℕ}
use Rattle.std.proofs.lemmas.List.{take_rest}
use Rattle.std.proofs.lemmas.List.Quantifiers.{position-Some}
use Rattle.gw_er7.specs.own.Separators.{separators, is_separator}
use Rattle.gw_er7.proofs.Separated.{found_none, found_before, found_whole}
use Rattle.gw_er7.proofs.fields.cut_at_separator.Goals as goal

pub returns-in-None : goal.returns-in-None
returns-in-None c = record { whole = refl; clear = found_none (is_separator (separators c.args.classes.now)) c.args.bytes.now (sym c.first_separator.ensures ∙ c.in-None.is) }

pub returns-in-Some : goal.returns-in-Some
returns-in-Some c =
    let bytes = c.args.bytes.now in
    let at = c.in-Some.at in
    let found = sym c.first_separator.ensures ∙ c.in-Some.is in
    record {
      whole = found_whole (is_separator (separators c.args.classes.now)) bytes at found ∙ ap (λ (x : List ℕ). take at bytes ++ get_or bytes at 0 ∷ x) (sym (take_rest bytes (at + 1)));
      clear = found_before (is_separator (separators c.args.classes.now)) bytes at found;
      separates = (position-Some (is_separator (separators c.args.classes.now)) bytes at 0 found).1;
    }
