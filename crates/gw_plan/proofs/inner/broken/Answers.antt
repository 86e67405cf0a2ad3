use Rattle.std.proofs.Common.{◌≡◌, ℕ, suc, ◌+◌, ◌<◌, Bool, true, false, List, length, drop, drop-cons, get_or, Some, sym, ap, ◌∙◌, arith}
use Rattle.std.specs.Prelude.{if◌then◌else◌, is_some}
use denote.Ref.{Bor}
use Rattle.gw_lines.specs.Words.{words}
use Rattle.gw_plan.specs.declared.fault.PlanFault.TheVariants.{Syntax}
use Rattle.gw_plan.specs.Inner.{broken}
use Rattle.gw_plan.specs.Seen.{now_all}
use Rattle.gw_plan.proofs.inner.broken.Goals as goal

-- the lines from this one on, which was looked at
module _ (first i : ℕ) (lines : List (Bor (List ℕ))) (line : Bor (List ℕ)) (lawful : Bool) (low : i < length lines) (is : lawful ≡ is_some (words (get_or lines i line).now)) (so_far : broken (first + i) (now_all (drop i lines)) ≡ broken first (now_all lines)) where
  by_this : (b : Bool) → lawful ≡ b → (if b then broken (first + (i + 1)) (now_all (drop (i + 1) lines)) else Some (Syntax (first + i))) ≡ broken first (now_all lines)
  by_this b same =
      let at : first + (i + 1) ≡ first + i + 1 = omega arith in
      let index : i + 1 ≡ suc i = omega arith in
      ap (λ x. if x then broken (first + (i + 1)) (now_all (drop (i + 1) lines)) else Some (Syntax (first + i))) (sym same ∙ is)
      ∙ ap (λ n. if is_some (words (get_or lines i line).now) then broken n (now_all (drop (i + 1) lines)) else Some (Syntax (first + i))) at
      ∙ ap (λ k. if is_some (words (get_or lines i line).now) then broken (first + i + 1) (now_all (drop k lines)) else Some (Syntax (first + i))) index
      ∙ ap (λ l. broken (first + i) (now_all l)) (sym (drop-cons lines i line low)) ∙ so_far

pub returns-then-not-branch : goal.returns-then-not-branch
returns-then-not-branch c = by_this c.args.first c.loop-i.i c.args.lines.now _ _ c.loop-i-test.true c.in_ok-is_lawful.ensures c.loop-i.invariant false c.if-not-branch.true

pub loop-i-preserved : goal.loop-i-preserved
loop-i-preserved c = by_this c.args.first c.loop-i.i c.args.lines.now _ _ c.loop-i-test.true c.in_ok-is_lawful.ensures c.loop-i.invariant true c.if-not-branch.false
