-- A folder is a log of a number in one way.
use Rattle.std.proofs.Common.{◌≡◌, inl, inr, ℕ, ◌+◌, ◌≤◌, List, [], ◌∷◌, ◌++◌, length, drop, sym, ◌∙◌, ap, subst, arith, append_assoc}
use Rattle.std.proofs.lemmas.Bool.{cases_lt}
use Rattle.std.proofs.lemmas.List.{append_cancel_right}
use Rattle.gw_log.specs.Disk.{Files}
use Rattle.gw_log.specs.Chain.{Head, spelled, IsEnded, ended, AreBefore, none, more, Origin, IsLast, IsLog}
use Rattle.gw_log.proofs.Ways.{one_way}
use Rattle.gw_log.proofs.Placing.{same_heads, has_ended, some_there}
use Rattle.gw_log.proofs.Logs.{before_le}
use Rattle.gw_log.proofs.Founding.{sealed_at, last_open}

-- ---- a file

first_alike : (a b : List ℕ) (xs ys : List (List ℕ)) → a ∷ xs ≡ b ∷ ys → a ≡ b
first_alike a b xs ys same = cc (same)

rest_alike : (a b : List ℕ) (xs ys : List (List ℕ)) → a ∷ xs ≡ b ∷ ys → xs ≡ ys
rest_alike a b xs ys same = ap (λ (l : List (List ℕ)). drop 1 l) same

-- a file that is ended has one head, and its records
ended_alike : (g h : Head) (these those : List (List ℕ)) (file : List ℕ) → IsEnded g these file → IsEnded h those file → (g ≡ h) × (these ≡ those)
ended_alike g h these those file is other =
    let same = one_way file (ended g these) (ended h those) (has_ended g these file is) (has_ended h those file other) in (
      same_heads g h is.wide other.wide (first_alike (spelled g) (spelled h) (these ++ [] ∷ []) (those ++ [] ∷ []) same),
      append_cancel_right these those ([] ∷ []) (rest_alike (spelled g) (spelled h) (these ++ [] ∷ []) (those ++ [] ∷ []) same),
    )

-- and so has the last one
last_alike : (g h : Head) (these those : List (List ℕ)) (file : List ℕ) → IsLast g these file → IsLast h those file → (g ≡ h) × (these ≡ those)
last_alike g h these those file is other =
    let same = one_way file (spelled g ∷ these) (spelled h ∷ those) is.has other.has in (
      same_heads g h is.wide other.wide (first_alike (spelled g) (spelled h) these those same),
      rest_alike (spelled g) (spelled h) these those same,
    )

-- ---- the files from one on

record Alike (last other : Head) (f g b d : ℕ) (all both : List (List ℕ)) : Type 0 where
  heads : last ≡ other
  firsts : f ≡ g
  befores : b ≡ d
  records : all ≡ both

all_alike : (id : ℕ) (files : Files) (last other : Head) (these those : List (List ℕ)) → IsLast last these (files last.number) → IsLast other those (files other.number)
    → last.number ≡ other.number → (n f b g d : ℕ) (front back : List (List ℕ)) → AreBefore id files last n f b front → AreBefore id files other n g d back
    → Alike last other f g b d (front ++ these) (back ++ those)
all_alike id files last other these those is its number n f b g d _ _ (none _ _ _ fol) (none _ _ _ follows) =
    let same = last_alike last other these those (files last.number) is (subst (λ k. IsLast other those (files k)) (sym number) its) in
    record {
      heads = same.0;
      firsts = sym fol.its_first ∙ ap (λ (h : Head). h.first) same.0 ∙ follows.its_first;
      befores = sym fol.its_before ∙ ap (λ (h : Head). h.before) same.0 ∙ follows.its_before;
      records = same.1;
    }
all_alike id files last other these those is its number n f b g d _ _ (none _ _ _ fol) (more _ _ _ h some rest follows here behind) =
    let le = before_le id files other (n + 1) (g + length some) (length (files n)) rest behind in absurd (omega (arith, le, number, fol.its_number))
all_alike id files last other these those is its number n f b g d _ _ (more _ _ _ h some rest fol here behind) (none _ _ _ follows) =
    let le = before_le id files last (n + 1) (f + length some) (length (files n)) rest behind in absurd (omega (arith, le, number, follows.its_number))
all_alike id files last other these those is its number n f b g d _ _ (more _ _ _ h some rest fol here behind) (more _ _ _ k few far follows there beyond) =
    let same = ended_alike h k some few (files n) here there in
    let next = all_alike id files last other these those is its number (n + 1) (f + length some) (length (files n)) (g + length few) (length (files n)) rest far behind beyond in
    record {
      heads = next.heads;
      firsts = sym fol.its_first ∙ ap (λ (e : Head). e.first) same.0 ∙ follows.its_first;
      befores = sym fol.its_before ∙ ap (λ (e : Head). e.before) same.0 ∙ follows.its_before;
      records = append_assoc some rest these ∙ ap (λ (l : List (List ℕ)). l ++ (rest ++ these)) same.1 ∙ ap (λ (l : List (List ℕ)). few ++ l) next.records
          ∙ sym (append_assoc few far those);
    }

-- ---- the log

-- no log begins before another
start_le : (id : ℕ) (files : Files) (from to : Origin) (head other : Head) (these those : List (List ℕ)) → IsLog id files from head these → IsLog id files to other those
    → to.number ≤ from.number
start_le id files from to head other these those log its = elim (cases_lt from.number to.number) [
  | inl lt ↦ absurd (some_there id files from head these log from.number (omega arith)
      (before_le id files head from.number from.first from.before log.front log.ended) (its.none_below from.number lt))
  | inr ge ↦ omega (arith, ge)
]

-- nor ends before it
end_le : (id : ℕ) (files : Files) (from to : Origin) (head other : Head) (these those : List (List ℕ)) → IsLog id files from head these → IsLog id files to other those
    → to.number ≡ from.number → other.number ≤ head.number
end_le id files from to head other these those log its start = elim (cases_lt head.number other.number) [
  | inl lt ↦
      let reach = before_le id files head from.number from.first from.before log.front log.ended in
      absurd (last_open head log.these (spelled head ∷ log.these) (files head.number) log.last log.last.has
      (sealed_at id files other to.number to.first to.before its.front (spelled head ∷ log.these) head.number (omega (arith, reach, start)) lt its.ended log.last.has))
  | inr ge ↦ omega (arith, ge)
]

abbrev origin : (number first before : ℕ) → Origin
origin number first before = record { number = number; first = first; before = before }

pub one_log : (id : ℕ) (files : Files) (from to : Origin) (head other : Head) (these those : List (List ℕ)) → IsLog id files from head these → IsLog id files to other those
    → (head ≡ other) × (from ≡ to) × (these ≡ those)
one_log id files from to head other these those log its =
    let one = start_le id files from to head other these those log its in
    let two = start_le id files to from other head those these its log in
    let start : from.number ≡ to.number = omega (arith, one, two) in
    let low = end_le id files from to head other these those log its (sym start) in
    let high = end_le id files to from other head those these its log start in
    let number : head.number ≡ other.number = omega (arith, low, high) in
    let all = all_alike id files head other log.these its.these log.last its.last number from.number from.first from.before to.first to.before log.front its.front
    log.ended (subst (λ n. AreBefore id files other n to.first to.before its.front) (sym start) its.ended) in
    let starts : from ≡ to = ap (λ (n : ℕ). origin n from.first from.before) start ∙ ap (λ (n : ℕ). origin to.number n from.before) all.firsts
    ∙ ap (λ (n : ℕ). origin to.number to.first n) all.befores in
    (all.heads, starts, log.all ∙ all.records ∙ sym its.all)
