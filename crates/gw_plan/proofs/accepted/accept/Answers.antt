use Rattle.std.proofs.Common.{◌≡◌, ℕ, ◌+◌, ◌<◌, List, [], ◌∷◌, ◌++◌, length, take, get_or, sym, ap, ◌∙◌}
use Rattle.std.specs.Global.{Vec}
use Rattle.std.proofs.lemmas.List.{append_assoc, map-append, take_more}
use denote.Ref.{Bor}
use Rattle.gw_plan.specs.Seen.{now_all, bytes_all}
use Rattle.gw_plan.proofs.accepted.accept.Goals as goal

-- one more word, of which the copy has the bytes
one_more : (words : List (Bor (List ℕ))) (i : ℕ) (first : List (List ℕ)) (old new : List (Vec ℕ)) (word : Bor (List ℕ)) (copy : Vec ℕ) → i < length words → copy.items ≡ (get_or words i word).now → new ≡ old ++ copy ∷ [] → bytes_all old ≡ first ++ now_all (take i words) →
    bytes_all new ≡ first ++ now_all (take (i + 1) words)
one_more words i first old new word copy low same pushed so_far =
    ap bytes_all pushed ∙ map-append (λ (w : Vec ℕ). w.items) old (copy ∷ []) ∙ ap (λ l. l ++ copy.items ∷ []) so_far
    ∙ append_assoc first (now_all (take i words)) (copy.items ∷ []) ∙ ap (λ b. first ++ (now_all (take i words) ++ b ∷ [])) same
    ∙ ap (λ l. first ++ l) (sym (ap now_all (take_more words i word low) ∙ map-append (λ (w : Bor (List ℕ)). w.now) (take i words) (get_or words i word ∷ [])))

pub loop-word-preserved : goal.loop-word-preserved
loop-word-preserved c =
    one_more c.args.words.now c.loop-word.word-index (bytes_all c.args.accepted.now.items) c.loop-word.accepted.items c.push.new.self.items _ c.in_ok-copy.copy c.loop-word-test.true c.in_ok-copy.ensures.items c.in_ok-push.ensures.items c.loop-word.invariant
