use Rattle.std.proofs.Common.{◌≡◌, ◌∙◌, sym, ap, List, [], ◌∷◌, Some, Bool, map, codes}
use Rattle.std.specs.Prelude.{if◌then◌else◌}
use Rattle.gw_lines.specs.Words.{Word}
use Rattle.gw_lines.specs.Seen.{word}
use Rattle.gw_lines.specs.Spelled.{is_keyword}
use Rattle.gw_lines.specs.Parts.{first_word}
use Rattle.gw_plan.specs.Line.{form, keyword_form, accept_form, route_form, fixed_form}
use Rattle.gw_plan.proofs.Keys.{none_some, some_same}
use Rattle.gw_plan.proofs.form.form.Goals as goal

form_is : (words : List Word) (keyword : Word) (more : List Word) → first_word words ≡ Some (keyword, more) → form words ≡ keyword_form keyword more
form_is [] keyword more e = none_some _ (λ _. first_word []) e
form_is (w ∷ words) keyword more e = ap (λ (p : Word × List Word). keyword_form p.0 p.1) (some_same e)

pub returns : goal.returns
returns c =
    let keyword = word c.in-Some.keyword in
    let more = map word c.in-Some.more.now in
    c.fixed_form.ensures
    ∙ sym (form_is _ _ _ (sym c.in-Some.ensures)
    ∙ ap (λ (b : Bool). if b then accept_form more else (if is_keyword (codes "route") keyword then route_form more else fixed_form keyword more)) (sym c.is.ensures ∙ c.if-is.false)
    ∙ ap (λ (b : Bool). if b then route_form more else fixed_form keyword more) (sym c.is-2.ensures ∙ c.if-is-2.false))
