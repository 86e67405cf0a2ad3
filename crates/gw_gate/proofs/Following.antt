-- Replies to events in turn.
use Rattle.std.proofs.Common.{◌≡◌, true, false, List, [], ◌∷◌, ◌++◌, refl, sym, ap, ◌∙◌, append_assoc}
use Rattle.std.specs.Prelude.{Result, Ok, Err, is_ok, is_err, cond}
use Rattle.std.proofs.lemmas.Bool.{false≢true}
use Rattle.gw_gate.specs.Journal.{Journal}
use Rattle.gw_gate.specs.Replies.{EventSeen, ReplySeen, Replied, most, reply, replies, run}

ok_then : {X E : Type 0} (r : Result X E) → is_err r ≡ false → is_ok r ≡ true
ok_then (Ok x) e = refl
ok_then (Err x) e = absurd (false≢true (sym e))

pub pushed : {X E Y : Type 0} (r : Result X E) (old more new : List Y) → new ≡ cond (is_ok r) more old → false ≡ is_err r → new ≡ more
pushed r old more new is told = is ∙ ap (λ b. cond b more old) (ok_then r (sym told))

-- one event less is to come
pub run_on : (g new start : Journal) (event : EventSeen) (given : ReplySeen) (before rest all : List EventSeen) → before ≡ event ∷ rest → Replied g event given new
    → run most g before ≡ run most start all → run most new rest ≡ run most start all
run_on g new start event given before rest all next step was = ap (λ j. run most j rest) step.new_is ∙ sym (ap (run most g) next) ∙ was

-- one reply more was given
pub replies_on : (g new start : Journal) (event : EventSeen) (given : ReplySeen) (before rest all : List EventSeen) (told more : List ReplySeen) → before ≡ event ∷ rest → Replied g event given new → more ≡ told ++ given ∷ []
    → told ++ replies most g before ≡ replies most start all → more ++ replies most new rest ≡ replies most start all
replies_on g new start event given before rest all told more next step is was =
    let one : given ∷ replies most new rest ≡ replies most g before =
    ap (λ r. r ∷ replies most new rest) step.reply_is ∙ ap (λ j. reply g event ∷ replies most j rest) step.new_is ∙ sym (ap (replies most g) next) in
    ap (λ l. l ++ replies most new rest) is ∙ append_assoc told (given ∷ []) (replies most new rest) ∙ ap (λ l. told ++ l) one ∙ was
