-- Where no byte passes a test, there is no first that does.
use Rattle.std.proofs.Common.{◌≡◌, ℕ, ◌<◌, ◌≤◌, ◌⊎◌, inl, inr, Bool, false, cond, List, length, None, Some, sym, ap, ◌∙◌}
use Rattle.std.specs.List.{list_any, position, position_or_len}
use Rattle.std.proofs.lemmas.Bool.{cases_lt, le-ltb, true≢false}
use Rattle.std.proofs.lemmas.List.Folds.{list_any_at}
use Rattle.std.proofs.lemmas.List.Sums.{passes_at_first}

pub none_first : (p : ℕ → Bool) (xs : List ℕ) → list_any p xs ≡ false → position p xs ≡ None
none_first p xs e = by (cases_lt (position_or_len p xs) (length xs))
  where
    by : (position_or_len p xs < length xs) ⊎ (length xs ≤ position_or_len p xs) → position p xs ≡ None
    by (inl lt) = absurd (true≢false (sym (list_any_at p xs (position_or_len p xs) 0 lt (passes_at_first p xs 0 lt)) ∙ e))
    by (inr le) = ap (λ (b : Bool). cond b (Some (position_or_len p xs)) None) (le-ltb (position_or_len p xs) (length xs) le)
