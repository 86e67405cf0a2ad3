-- What closed lines give.
use Rattle.std.proofs.Common.{◌≡◌, ℕ, Bool, true, false, List, reverse, Result, Err, subst, refl, sym, ap, ◌∙◌}
use Rattle.std.specs.Prelude.{if◌then◌else◌}
use Rattle.std.proofs.lemmas.List.{reverse-reverse}
use Rattle.gw_profile.specs.Line.{Line}
use Rattle.gw_lines.specs.Reading.{Gives}
use Rattle.gw_profile.specs.declared.build.Built.{Built}
use Rattle.gw_profile.specs.declared.fault.ProfileFault.{ProfileFault}
use Rattle.gw_profile.specs.declared.fault.ProfileFault.TheVariants.{Memory, Syntax}
use Rattle.gw_profile.specs.Shapes.{TableValue, ProfileValue}
use Rattle.gw_profile.specs.own.Building.{built_value}
use Rattle.gw_profile.specs.Seen.{kept}
use Rattle.gw_profile.proofs.Kept.{kept_lines}
use Rattle.gw_profile.specs.Value.{tables}
use Rattle.gw_profile.specs.Whole.{is_unclosed, ruled, whole}

if_false : {A : Type 0} (b : Bool) (x y : A) → b ≡ false → (if b then x else y) ≡ y
if_false true x y e = absurd (cc)
if_false false x y e = refl

-- lines that are closed give what they spell from the first on
pub ruled_whole : (lines all : List Line) (at : ℕ) (r : Result Built ProfileFault) → all ≡ reverse lines → is_unclosed all ≡ false → Gives Memory (λ b. built_value b (tables lines)) r (ruled lines) → Gives Memory (λ b. built_value b (kept all)) r (whole all at)
ruled_whole lines all at r e closed g =
    let t : tables lines ≡ kept all = sym (kept_lines lines) ∙ ap kept (sym e) in
    let w : ruled lines ≡ whole all at = ap ruled (sym (reverse-reverse lines)) ∙ ap (λ (l : List Line). ruled (reverse l)) (sym e) ∙ sym (if_false (is_unclosed all) (Err (Syntax at)) (ruled (reverse all)) closed) in
    subst (λ (ts : List TableValue). Gives Memory (λ b. built_value b ts) r (whole all at)) t
    (subst (λ (x : Result ProfileValue ProfileFault). Gives Memory (λ b. built_value b (tables lines)) r x) w g)
