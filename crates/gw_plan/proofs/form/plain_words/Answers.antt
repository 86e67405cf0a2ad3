use Rattle.std.proofs.Common.{◌≡◌, ℕ, suc, ◌+◌, ◌<◌, List, [], ◌∷◌, ◌++◌, length, map, drop, drop-cons, get_or, Option, None, Some, refl, sym, ap, ◌∙◌, arith}
use Rattle.std.specs.Option.{option_map}
use Rattle.std.proofs.lemmas.List.{append_assoc, map-append}
use denote.Ref.{Bor}
use Rattle.gw_lines.specs.Parts.{◌>>=◌}
use Rattle.gw_lines.specs.Seen.{word}
use Rattle.gw_lines.specs.Spelled.{plain_bytes}
use Rattle.gw_lines.specs.declared.words.Word.{Word}
use Rattle.gw_plan.specs.Line.{plain_words}
use Rattle.gw_plan.specs.Seen.{now_all}
use Rattle.gw_plan.proofs.form.plain_words.Goals as goal

-- the bytes of all words, where those of the first are these and those behind are these
abbrev all_of : Option (List ℕ) → Option (List (List ℕ)) → Option (List (List ℕ))
all_of first behind = do
  bytes ← first
  more ← behind
  Some (bytes ∷ more)

behind_some : (old : List (List ℕ)) (bytes : List ℕ) (behind : Option (List (List ℕ))) → option_map (λ more. old ++ more) (all_of (Some bytes) behind) ≡ option_map (λ more. (old ++ bytes ∷ []) ++ more) behind
behind_some old bytes None = refl
behind_some old bytes (Some more) = ap Some (sym (append_assoc old (bytes ∷ []) more))

module _ (words : List Word) (i : ℕ) (next : Word) (old : List (List ℕ)) (first : Option (List ℕ)) (low : i < length words) (said : first ≡ plain_bytes (word (get_or words i next))) (so_far : option_map (λ more. old ++ more) (plain_words (map word (drop i words))) ≡ plain_words (map word words)) where
  behind : option_map (λ more. old ++ more) (all_of first (plain_words (map word (drop (i + 1) words)))) ≡ plain_words (map word words)
  behind =
      let index : i + 1 ≡ suc i = omega arith in
      ap (λ o. option_map (λ more. old ++ more) (all_of o (plain_words (map word (drop (i + 1) words))))) said
      ∙ ap (λ k. option_map (λ more. old ++ more) (all_of (plain_bytes (word (get_or words i next))) (plain_words (map word (drop k words))))) index
      ∙ ap (λ l. option_map (λ more. old ++ more) (plain_words (map word l))) (sym (drop-cons words i next low)) ∙ so_far

  one_more : (bytes : List ℕ) (new : List (List ℕ)) → first ≡ Some bytes → new ≡ old ++ bytes ∷ [] → option_map (λ more. new ++ more) (plain_words (map word (drop (i + 1) words))) ≡ plain_words (map word words)
  one_more bytes new is more =
      ap (λ l. option_map (λ m. l ++ m) (plain_words (map word (drop (i + 1) words)))) more ∙ sym (behind_some old bytes (plain_words (map word (drop (i + 1) words))))
      ∙ ap (λ o. option_map (λ m. old ++ m) (all_of o (plain_words (map word (drop (i + 1) words))))) (sym is) ∙ behind

  none_more : first ≡ None → None ≡ plain_words (map word words)
  none_more is = ap (λ o. option_map (λ m. old ++ m) (all_of o (plain_words (map word (drop (i + 1) words))))) (sym is) ∙ behind

pub loop-next-preserved : goal.loop-next-preserved
loop-next-preserved c =
    one_more c.args.words.now c.loop-next.next-index _ (now_all c.loop-next.all.items) _ c.loop-next-test.true c.plain.ensures c.loop-next.invariant c.in-Some.bytes.now (now_all c.push.new.self.items)
    (ap (option_map (λ (b : Bor (List ℕ)). b.now)) c.in-Some.is) (ap now_all c.in_ok-push.ensures.items ∙ map-append (λ (b : Bor (List ℕ)). b.now) c.loop-next.all.items (c.in-Some.bytes ∷ []))

pub returns-in_default : goal.returns-in_default
returns-in_default c =
    none_more c.args.words.now c.loop-next.next-index _ (now_all c.loop-next.all.items) _ c.loop-next-test.true c.plain.ensures c.loop-next.invariant (ap (option_map (λ (b : Bor (List ℕ)). b.now)) c.in_default.is)
