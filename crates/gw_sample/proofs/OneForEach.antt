-- As many texts are put as have to come.
use Rattle.std.specs.Prelude.{max}
use Rattle.std.proofs.Common.{◌≡◌, ℕ, zero, suc, ◌*◌, Bool, true, false, List, [], ◌∷◌, length, map, take, ◌≤◌, sym, ap, refl, ◌∙◌, arith, length-append, if◌then◌else◌}
use Rattle.std.specs.List.{flat_map, sum_by}
use Rattle.std.proofs.Math.Nat.{suc-mul}
use Rattle.std.proofs.lemmas.List.{length-map, take_all}
use Rattle.std.proofs.lemmas.List.Sums.{sum_by-cons}
use Rattle.gw_profile.specs.Shapes.{SubValue, CompValue, FieldValue}
use Rattle.gw_validate.specs.Breaches.{is_required}
use Rattle.gw_sample.specs.FewestTexts.{of_sub, of_comp, of_field}
use Rattle.gw_sample.specs.own.Least.{Key, or_else, sub_keys, comp_keys, rep_keys, reps_keys, field_keys, keys_of}

flat_long : {X A : Type 0} (F : X → List A) (n : X → ℕ) → ((x : X) → length (F x) ≡ n x) → (xs : List X) → length (flat_map F xs) ≡ sum_by n xs
flat_long F n h [] = refl
flat_long F n h (x ∷ xs) =
    let rest = flat_long F n h xs in
    omega (arith, rest, h x, length-append (F x) (flat_map F xs), sum_by-cons n x xs)

if_long : {A : Type 0} (b : Bool) (l : List A) (n : ℕ) → length l ≡ n → length (if b then l else []) ≡ (if b then n else 0)
if_long true l n e = e
if_long false l n e = refl

sub_long : (f r c : ℕ) (s : SubValue) → length (sub_keys f r c s) ≡ of_sub s
sub_long f r c s = if_long (is_required s.usage) ((f ∷ r ∷ c ∷ s.number ∷ []) ∷ []) 1 refl

or_long : (key : Key) (ks : List Key) (n : ℕ) → length ks ≡ n → length (or_else key ks) ≡ max 1 n
or_long key [] n e = omega (arith, e)
or_long key (k ∷ ks) n e = omega (arith, e)

comp_long : (f r : ℕ) (k : CompValue) → length (comp_keys f r k) ≡ of_comp k
comp_long f r k =
    let key = f ∷ r ∷ k.number ∷ 100 ∷ [] in
    let subs = flat_map (sub_keys f r k.number) k.subs in
    if_long (is_required k.usage) (or_else key subs) (max 1 (sum_by of_sub k.subs))
    (or_long key subs (sum_by of_sub k.subs) (flat_long (sub_keys f r k.number) of_sub (sub_long f r k.number) k.subs))

rep_long : (v : FieldValue) (r : ℕ) → length (rep_keys v r) ≡ max 1 (sum_by of_comp v.comps)
rep_long v r =
    or_long (v.number ∷ r ∷ 100 ∷ 1 ∷ []) (flat_map (comp_keys v.number r) v.comps) (sum_by of_comp v.comps)
    (flat_long (comp_keys v.number r) of_comp (comp_long v.number r) v.comps)

reps_long : (v : FieldValue) (k : ℕ) → length (reps_keys v k) ≡ k * max 1 (sum_by of_comp v.comps)
reps_long v zero = omega arith
reps_long v (suc k) =
    let before = reps_long v k in
    let last = rep_long v (suc k) in
    let more = suc-mul k (max 1 (sum_by of_comp v.comps)) in
    omega (arith, before, last, more, length-append (reps_keys v k) (rep_keys v (suc k)))

keys_long : (vs : List FieldValue) → length (keys_of vs) ≡ sum_by of_field vs
keys_long = flat_long field_keys of_field (λ v. reps_long v v.card.min)

pub one_for_each : {P X : Type 0} (numbers : P → Key) (seen : X → FieldValue) (places : List P) (xs : List X) (i : ℕ) → length xs ≤ i
    → map numbers places ≡ keys_of (map seen (take i xs)) → length places ≡ sum_by of_field (map seen xs)
one_for_each numbers seen places xs i le e =
    sym (length-map places numbers) ∙ ap length e ∙ keys_long (map seen (take i xs)) ∙ ap (λ l. sum_by of_field (map seen l)) (take_all i xs le)
