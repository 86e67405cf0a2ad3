-- What was written part by part.
use Rattle.std.proofs.Common.{◌≡◌, ℕ, List, ◌++◌, Result, Ok, Err, ap, ◌∙◌, append_assoc}
use Rattle.std.specs.Prelude.{OnOk}

-- one part behind another, which may not have been written
pub followed : {A E : Type 0} (r : Result A E) (old a m b new : List ℕ) → m ≡ old ++ a → OnOk r (new ≡ m ++ b) → OnOk r (new ≡ old ++ (a ++ b))
followed (Ok x) old a m b new first last = last ∙ ap (λ l. l ++ b) first ∙ append_assoc old a b
followed (Err e) old a m b new first last = tt

-- the same of three parts
pub followed_two : {A E : Type 0} (r : Result A E) (old a m b n c new : List ℕ) → m ≡ old ++ a → n ≡ m ++ b → OnOk r (new ≡ n ++ c) → OnOk r (new ≡ old ++ (a ++ (b ++ c)))
followed_two r old a m b n c new first second last = followed r old a m (b ++ c) new first (followed r m b n c new second last)
