-- Patterns of keywords: what a keyword that was compared gives.
use Rattle.std.proofs.Common.{◌≡◌, ◌∙◌, Bool, true, List, ℕ, sym, ap}
use Rattle.std.specs.Prelude.{bytes_eq}
use Rattle.std.proofs.lemmas.Slice.Eq.{bytes_eq-Decides}

-- where the keyword is this word, its pattern is the word's
pub of_word : {A : Type 0} (pattern : List ℕ → A) (keyword word said : List ℕ) (same : Bool) → said ≡ word → same ≡ bytes_eq keyword said → same ≡ true → pattern word ≡ pattern keyword
of_word pattern keyword word said same is compared holds = ap pattern (sym ((bytes_eq-Decides keyword word).0 (sym (compared ∙ ap (bytes_eq keyword) is) ∙ holds)))
