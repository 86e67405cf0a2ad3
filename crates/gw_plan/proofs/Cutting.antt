-- Words before the word `from`, one by one.
use Rattle.std.proofs.Common.{◌≡◌, ℕ, suc, ◌+◌, ◌-◌, ◌<◌, ◌≤◌, List, ◌∷◌, map, length, get_or, take, drop, drop-cons, Option, Some, None, Bool, true, false, sym, ap, ap₂, ◌∙◌, arith}
use Rattle.std.specs.Prelude.{if◌then◌else◌}
use Rattle.std.specs.List.{position_from}
use Rattle.std.proofs.lemmas.List.{drop_all, take_all, take-map, drop-map, length-drop}
use Rattle.gw_lines.specs.Seen.{word}
use Rattle.gw_lines.specs.declared.words.Word.{Word}
use Rattle.gw_plan.specs.Line.{is_from, cut_at, cut_at_from}

module _ (words : List Word) (i : ℕ) (d : Word) (low : i < length words) (all : Option ℕ) (so_far : position_from is_from i (map word (drop i words)) ≡ all) where
  next : map word (drop i words) ≡ word (get_or words i d) ∷ map word (drop (i + 1) words)
  next =
      let index : suc i ≡ i + 1 = omega arith in
      ap (map word) (drop-cons words i d low) ∙ ap (λ k. word (get_or words i d) ∷ map word (drop k words)) index

  told : (b : Bool) → is_from (word (get_or words i d)) ≡ b → (if b then Some i else position_from is_from (i + 1) (map word (drop (i + 1) words))) ≡ all
  told b is = sym (ap (position_from is_from i) next ∙ ap (λ x. if x then Some i else position_from is_from (i + 1) (map word (drop (i + 1) words))) is) ∙ so_far

  pub further : is_from (word (get_or words i d)) ≡ false → position_from is_from (i + 1) (map word (drop (i + 1) words)) ≡ all
  further is = told false is

  pub found : is_from (word (get_or words i d)) ≡ true → Some i ≡ all
  found is = told true is

pub cut_here : (words front back : List Word) (i : ℕ) → Some i ≡ position_from is_from 0 (map word words) → front ≡ take i words → back ≡ drop i words → Some (map word front, map word back) ≡ cut_at_from (map word words)
cut_here words front back i is ef eb =
    ap₂ (λ a b. Some (a, b)) (ap (map word) ef ∙ sym (take-map word i words)) (ap (map word) eb ∙ sym (drop-map word i words)) ∙ ap (cut_at (map word words)) is

-- all words from one on are those that it leaves behind
pub from_there : (words : List Word) (i : ℕ) → take (length words - i) (drop i words) ≡ drop i words
from_there words i = take_all (length words - i) (drop i words) (omega (arith, length-drop i words))

pub never_cut : (words : List Word) (i : ℕ) → length words ≤ i → position_from is_from i (map word (drop i words)) ≡ position_from is_from 0 (map word words) → None ≡ cut_at_from (map word words)
never_cut words i last so_far = ap (cut_at (map word words)) (sym (ap (λ l. position_from is_from i (map word l)) (drop_all i words last)) ∙ so_far)
