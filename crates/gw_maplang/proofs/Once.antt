-- Whether one line stands above, by the number of lines.
use Rattle.std.proofs.Common.{◌≡◌, ◌≤◌, true, false, List, [], ◌∷◌, length, map, refl, arith}
use Rattle.std.proofs.lemmas.List.{length-reverse}
use Rattle.gw_maplang.specs.declared.form.Line as declared
use Rattle.gw_maplang.specs.Line.{Line}
use Rattle.gw_maplang.specs.Fault.{just_begun}
use Rattle.gw_maplang.specs.Seen.{line, above}

pub once : (lines : List declared.Line) → length lines ≡ 1 → just_begun (above lines) ≡ true
once [] e = absurd (omega (arith, e))
once (x ∷ []) e = refl
once (x ∷ y ∷ lines) e = absurd (omega (arith, e))

several : (lines : List Line) → 2 ≤ length lines → just_begun lines ≡ false
several [] l = absurd (omega (arith, l))
several (x ∷ []) l = absurd (omega (arith, l))
several (x ∷ y ∷ lines) l = refl

pub not_once : (lines : List declared.Line) → (length lines ≡ 1 → ⊥) → just_begun (above lines) ≡ false
not_once [] n = refl
not_once (x ∷ []) n = absurd (n refl)
not_once (x ∷ y ∷ lines) n = several (above (x ∷ y ∷ lines)) (let long = length-reverse (map line (x ∷ y ∷ lines)) in omega (arith, long))
