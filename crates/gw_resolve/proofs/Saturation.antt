-- Counts that end at the cap.
use Rattle.std.proofs.Common.{◌≡◌, inl, inr, ℕ, zero, suc, ◌+◌, ◌*◌, ◌≤◌, ◌<◌, Option, Some, None, refl, sym, ap, ◌∙◌, arith, ap₂}
use Rattle.std.specs.Prelude.{min, option_map}
use Rattle.std.proofs.lemmas.Bool.Decides.{leb_tells, nat_tests}
use Rattle.std.proofs.Math.Nat.{mul_comm, mul-le-mul_right}
use Rattle.gw_resolve.specs.Intervals.{Interval, add, multiply, sum, product, is_never}
use Rattle.gw_resolve.specs.Seen.{cap, saturated}

-- from the cap on all are one
least_product : (a b : ℕ) → min (a * min b cap) cap ≡ min (a * b) cap
least_product zero b = omega arith
least_product (suc a) b =
    elim (leb_tells b cap) [
      | inl k ↦ let h = k.1 in let same : min b cap ≡ b = omega (arith, h) in ap (λ n. min (suc a * n) cap) same
      | inr k ↦
          let h = k.1 in
          let top : min b cap ≡ cap = omega (arith, h) in
          let one : 1 ≤ suc a = omega arith in
          let more : 1 * b ≤ suc a * b = mul-le-mul_right b one in
          let most : 1 * cap ≤ suc a * cap = mul-le-mul_right cap one in
          ap (λ n. min (suc a * n) cap) top ∙ omega (arith, h, more, most)
    ]

-- where the one has no limit and the other isn't 0
no_limit : (n : ℕ) → 0 < n → (multiply None (Some n) ≡ None) × (multiply (Some n) None ≡ None)
no_limit zero h = absurd (omega (arith, h))
no_limit (suc n) h = (refl, refl)

both_limits : (a b : ℕ) → multiply (Some a) (Some b) ≡ Some (a * b)
both_limits zero b = let none : 0 ≡ 0 * b = omega arith in ap Some none
both_limits (suc a) b = refl

abbrev interval_of : ℕ → Option ℕ → Interval
interval_of least greatest = record { least = least; greatest = greatest }

pub product_saturated : (a b : Interval) → saturated (product (saturated a) (saturated b)) ≡ saturated (product a b)
product_saturated a b = ap₂ interval_of (least_both a.least b.least) (greatest_both a.greatest b.greatest)
  where
    least_both : (x y : ℕ) → min (min x cap * min y cap) cap ≡ min (x * y) cap
    least_both x y =
        least_product (min x cap) y
        ∙ ap (λ n. min n cap) (mul_comm (min x cap) y)
        ∙ least_product y x
        ∙ ap (λ n. min n cap) (mul_comm y x)

    greatest_both : (x y : Option ℕ) → option_map (λ n. min n cap) (multiply (option_map (λ n. min n cap) x) (option_map (λ n. min n cap) y)) ≡ option_map (λ n. min n cap) (multiply x y)
    greatest_both None None = refl
    greatest_both None (Some zero) = refl
    greatest_both None (Some (suc b)) = ap (option_map (λ n. min n cap)) (no_limit (min (suc b) cap) (omega arith)).0
    greatest_both (Some zero) None = refl
    greatest_both (Some (suc a)) None = ap (option_map (λ n. min n cap)) (no_limit (min (suc a) cap) (omega arith)).1
    greatest_both (Some a) (Some b) =
        ap (option_map (λ n. min n cap)) (both_limits (min a cap) (min b cap)) ∙ ap Some (least_both a b) ∙ sym (ap (option_map (λ n. min n cap)) (both_limits a b))

pub sum_saturated : (a b : Interval) → saturated (sum (saturated a) (saturated b)) ≡ saturated (sum a b)
sum_saturated a b =
    let least : min (min a.least cap + min b.least cap) cap ≡ min (a.least + b.least) cap = omega arith in
    ap₂ interval_of least (go a.greatest b.greatest)
  where
    go : (x y : Option ℕ) → option_map (λ n. min n cap) (add (option_map (λ n. min n cap) x) (option_map (λ n. min n cap) y)) ≡ option_map (λ n. min n cap) (add x y)
    go None y = refl
    go (Some x) None = refl
    go (Some x) (Some y) = ap Some (omega arith)

-- ---- comparisons with a profile's numbers

pub never_saturated : (i : Interval) → is_never (saturated i).greatest ≡ is_never i.greatest
never_saturated i = go i.greatest
  where
    go : (g : Option ℕ) → is_never (option_map (λ n. min n cap) g) ≡ is_never g
    go None = refl
    go (Some n) = grind (arith, nat_tests)
