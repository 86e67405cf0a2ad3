use Rattle.std.proofs.Common.{◌≡◌, ℕ, suc, ◌+◌, ◌<◌, inl, inr, Bool, true, false, List, [], ◌∷◌, length, map, drop, drop-cons, get_or, Option, None, Some, refl, sym, ap, ◌∙◌, arith}
use Rattle.std.specs.Prelude.{◌==◌}
use Rattle.std.specs.Global.{Vec}
use Rattle.std.specs.Option.{option_map}
use Rattle.std.proofs.lemmas.Bool.Decides.{eqb_tells}
use denote.Ref.{Bor}
use Rattle.gw_lines.specs.Seen.{word}
use Rattle.gw_lines.specs.Words as specs
use Rattle.gw_lines.specs.Words.{words}
use Rattle.gw_lines.specs.declared.words.Word.{Word}
use Rattle.gw_plan.specs.Inner.{said_or, first_said}
use Rattle.gw_plan.specs.Seen.{now_all}
use Rattle.gw_plan.proofs.inner.first_said.Goals as goal

is_zero : (count : ℕ) → (count == 0) ≡ true → count ≡ 0
is_zero count none = elim (eqb_tells count 0) [ inl h ↦ h.1 | inr h ↦ absurd (let n : false ≡ true = sym h.0 ∙ none in cc) ]

some_said : (at count : ℕ) (ws : List Word) (next : Option (ℕ × List specs.Word)) → count ≡ length ws → (count == 0) ≡ false → Some (at, map word ws) ≡ said_or at (Some (map word ws)) next
some_said at count [] next len some = let h : true ≡ false = sym (ap (λ n. n == 0) len) ∙ some in absurd (cc)
some_said at count (w ∷ ws) next len some = refl

none_there : (at count : ℕ) (ws : List Word) (next : Option (ℕ × List specs.Word)) → count ≡ length ws → (count == 0) ≡ true → next ≡ said_or at (Some (map word ws)) next
none_there at count [] next len none = refl
none_there at count (w ∷ ws) next len none = absurd (omega (arith, len, is_zero count none))

-- the lines from this one on, whose words were found
module _ (first i : ℕ) (lines : List (Bor (List ℕ))) (line : Bor (List ℕ)) (found : Option (Vec Word)) (low : i < length lines) (is : option_map (λ v. map word v.items) found ≡ words (get_or lines i line).now) (so_far : first_said (first + i) (now_all (drop i lines)) ≡ first_said first (now_all lines)) where
  abbrev behind : Option (ℕ × List specs.Word)
  behind = first_said (first + (i + 1)) (now_all (drop (i + 1) lines))

  by_these : (o : Option (Vec Word)) → found ≡ o → said_or (first + i) (option_map (λ v. map word v.items) o) behind ≡ first_said first (now_all lines)
  by_these o same =
      let at : first + (i + 1) ≡ first + i + 1 = omega arith in
      let index : i + 1 ≡ suc i = omega arith in
      ap (λ x. said_or (first + i) (option_map (λ v. map word v.items) x) behind) (sym same) ∙ ap (λ x. said_or (first + i) x behind) is
      ∙ ap (λ n. said_or (first + i) (words (get_or lines i line).now) (first_said n (now_all (drop (i + 1) lines)))) at
      ∙ ap (λ k. said_or (first + i) (words (get_or lines i line).now) (first_said (first + i + 1) (now_all (drop k lines)))) index
      ∙ ap (λ l. first_said (first + i) (now_all l)) (sym (drop-cons lines i line low)) ∙ so_far

  said_here : (ws : Vec Word) (empty : Bool) → found ≡ Some ws → empty ≡ (ws.len == 0) → empty ≡ false → Some (first + i, map word ws.items) ≡ first_said first (now_all lines)
  said_here ws empty same is_empty e = some_said (first + i) ws.len ws.items behind ws.ok.0 (sym is_empty ∙ e) ∙ by_these (Some ws) same

  said_behind : (ws : Vec Word) (empty : Bool) → found ≡ Some ws → empty ≡ (ws.len == 0) → empty ≡ true → behind ≡ first_said first (now_all lines)
  said_behind ws empty same is_empty e = none_there (first + i) ws.len ws.items behind ws.ok.0 (sym is_empty ∙ e) ∙ by_these (Some ws) same

pub returns-in_default : goal.returns-in_default
returns-in_default c = by_these c.args.first c.loop-i.i c.args.lines.now _ c.in_ok-words.field-0 c.loop-i-test.true c.in_ok-words.ensures c.loop-i.invariant None c.in_default.is

pub returns-then-not-is_empty : goal.returns-then-not-is_empty
returns-then-not-is_empty c =
    said_here c.args.first c.loop-i.i c.args.lines.now _ c.in_ok-words.field-0 c.loop-i-test.true c.in_ok-words.ensures c.loop-i.invariant c.in-Some.words _ c.in-Some.is c.is_empty.ensures c.if-not-is_empty.true

pub loop-i-preserved : goal.loop-i-preserved
loop-i-preserved c =
    said_behind c.args.first c.loop-i.i c.args.lines.now _ c.in_ok-words.field-0 c.loop-i-test.true c.in_ok-words.ensures c.loop-i.invariant c.in-Some.words _ c.in-Some.is c.is_empty.ensures c.if-not-is_empty.false
