-- A text that was made of pieces, one after another.
use Rattle.std.proofs.Common.{◌≡◌, ℕ, List, ◌++◌, append_assoc, refl, ap, ◌∙◌}
use Rattle.gw_page.specs.Rows.{Extends}

pub three : (o a b c t₁ t₂ t₃ : List ℕ) → t₁ ≡ o ++ a → t₂ ≡ t₁ ++ b → t₃ ≡ t₂ ++ c → t₃ ≡ o ++ (a ++ b ++ c)
three o a b c t₁ t₂ t₃ e₁ e₂ e₃ = rw (e₃, e₂, e₁) (simp (append_assoc) refl)

pub four : (o a b c d t₁ t₂ t₃ t₄ : List ℕ)
    → t₁ ≡ o ++ a → t₂ ≡ t₁ ++ b → t₃ ≡ t₂ ++ c → t₄ ≡ t₃ ++ d → t₄ ≡ o ++ (a ++ b ++ c ++ d)
four o a b c d t₁ t₂ t₃ t₄ e₁ e₂ e₃ e₄ = rw (e₄, e₃, e₂, e₁) (simp (append_assoc) refl)

pub five : (o a b c d e t₁ t₂ t₃ t₄ t₅ : List ℕ)
    → t₁ ≡ o ++ a → t₂ ≡ t₁ ++ b → t₃ ≡ t₂ ++ c → t₄ ≡ t₃ ++ d → t₅ ≡ t₄ ++ e
    → t₅ ≡ o ++ (a ++ b ++ c ++ d ++ e)
five o a b c d e t₁ t₂ t₃ t₄ t₅ e₁ e₂ e₃ e₄ e₅ = rw (e₅, e₄, e₃, e₂, e₁) (simp (append_assoc) refl)

pub six : (o a b c d e f t₁ t₂ t₃ t₄ t₅ t₆ : List ℕ)
    → t₁ ≡ o ++ a → t₂ ≡ t₁ ++ b → t₃ ≡ t₂ ++ c → t₄ ≡ t₃ ++ d → t₅ ≡ t₄ ++ e → t₆ ≡ t₅ ++ f
    → t₆ ≡ o ++ (a ++ b ++ c ++ d ++ e ++ f)
six o a b c d e f t₁ t₂ t₃ t₄ t₅ t₆ e₁ e₂ e₃ e₄ e₅ e₆ = rw (e₆, e₅, e₄, e₃, e₂, e₁) (simp (append_assoc) refl)

-- what goes on twice
pub further : (a b c : List ℕ) → Extends a b → Extends b c → Extends a c
further a b c first then = (first.0 ++ then.0, then.1 ∙ ap (λ t. t ++ then.0) first.1 ∙ append_assoc a first.0 then.0)
