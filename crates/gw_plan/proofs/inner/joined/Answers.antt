use Rattle.std.proofs.Common.{◌≡◌, ℕ, suc, ◌+◌, ◌<◌, List, [], ◌∷◌, ◌++◌, length, drop, drop-cons, get_or, sym, ap, ◌∙◌, arith}
use Rattle.std.proofs.lemmas.List.{append_assoc}
use denote.Ref.{Bor}
use Rattle.gw_plan.specs.Joined.{joined}
use Rattle.gw_plan.specs.Seen.{now_all}
use Rattle.gw_plan.proofs.inner.joined.Goals as goal

-- one more line, with its end
one_more : (lines : List (Bor (List ℕ))) (i : ℕ) (line : Bor (List ℕ)) (old mid new whole : List ℕ) → i < length lines → mid ≡ old ++ (get_or lines i line).now → new ≡ mid ++ 10 ∷ [] →
    old ++ joined (now_all (drop i lines)) ≡ whole → new ++ joined (now_all (drop (i + 1) lines)) ≡ whole
one_more lines i line old mid new whole low put ended so_far =
    let bytes = (get_or lines i line).now in
    let rest = joined (now_all (drop (i + 1) lines)) in
    let index : suc i ≡ i + 1 = omega arith in
    let front : drop i lines ≡ get_or lines i line ∷ drop (i + 1) lines = drop-cons lines i line low ∙ ap (λ k. get_or lines i line ∷ drop k lines) index in
    ap (λ l. l ++ rest) (ended ∙ ap (λ l. l ++ 10 ∷ []) put ∙ append_assoc old bytes (10 ∷ [])) ∙ append_assoc old (bytes ++ 10 ∷ []) rest
    ∙ ap (λ l. old ++ joined (now_all l)) (sym front) ∙ so_far

pub loop-line-preserved : goal.loop-line-preserved
loop-line-preserved c =
    one_more c.args.lines.now c.loop-line.line-index _ c.loop-line.text.items c.extend_from_slice.new.self.items c.push.new.self.items _ c.loop-line-test.true c.in_ok-extend_from_slice.ensures.items c.in_ok-push.ensures.items c.loop-line.invariant
