-- Lines before the one that stops, one by one.
use Rattle.std.proofs.Common.{◌≡◌, ℕ, suc, ◌+◌, ◌<◌, ◌≤◌, List, [], ◌∷◌, ◌++◌, length, get_or, take, drop, Bor, Bool, true, false, sym, ap, ap₂, ◌∙◌, arith, append_assoc}
use Rattle.std.specs.Prelude.{not, ◌||◌, if◌then◌else◌}
use Rattle.std.specs.List.{before_first, list_any, position_or_len}
use Rattle.std.proofs.Math.Seq.{drop-cons}
use Rattle.std.proofs.lemmas.List.{append-nil, drop_all, take_all, take_more, map-append}
use Rattle.gw_plan.specs.Line.{is_stop}
use Rattle.gw_plan.specs.Seen.{now_all}
use Rattle.gw_plan.specs.Whole.{inner}

-- the line that is next isn't one that stops
before_next : (bytes : List ℕ) (more : List (List ℕ)) → false ≡ is_stop bytes → before_first is_stop (bytes ∷ more) ≡ bytes ∷ before_first is_stop more
before_next bytes more goes =
    ap (λ b. take (if not b then 1 + position_or_len is_stop more else 0) (bytes ∷ more)) (sym goes)
    ∙ (let next : 1 + position_or_len is_stop more ≡ suc (position_or_len is_stop more) = omega arith in ap (λ n. take n (bytes ∷ more)) next)

any_next : (bytes : List ℕ) (more : List (List ℕ)) → false ≡ is_stop bytes → list_any is_stop (bytes ∷ more) ≡ list_any is_stop more
any_next bytes more goes = ap (λ b. b || list_any is_stop more) (sym goes)

dropped : (all : List (Bor (List ℕ))) (i : ℕ) (d : Bor (List ℕ)) → i < length all → now_all (drop i all) ≡ (get_or all i d).now ∷ now_all (drop (i + 1) all)
dropped all i d h = let next : suc i ≡ i + 1 = omega arith in ap now_all (drop-cons all i d h) ∙ ap (λ n. (get_or all i d).now ∷ now_all (drop n all)) next

taken : (all : List (Bor (List ℕ))) (i : ℕ) (d : Bor (List ℕ)) → i < length all → now_all (take (i + 1) all) ≡ now_all (take i all) ++ (get_or all i d).now ∷ []
taken all i d h = ap now_all (take_more all i d h) ∙ map-append (λ (bytes : Bor (List ℕ)). bytes.now) (take i all) (get_or all i d ∷ [])

pub before_on : (all : List (Bor (List ℕ))) (i : ℕ) (d : Bor (List ℕ)) (front : List (List ℕ)) → i < length all → false ≡ is_stop (get_or all i d).now → front ≡ now_all (take i all) ++ before_first is_stop (now_all (drop i all))
    → front ≡ now_all (take (i + 1) all) ++ before_first is_stop (now_all (drop (i + 1) all))
before_on all i d front h goes e =
    e ∙ ap (λ ls. now_all (take i all) ++ before_first is_stop ls) (dropped all i d h)
    ∙ ap (λ ls. now_all (take i all) ++ ls) (before_next (get_or all i d).now (now_all (drop (i + 1) all)) goes)
    ∙ sym (append_assoc (now_all (take i all)) ((get_or all i d).now ∷ []) (before_first is_stop (now_all (drop (i + 1) all))))
    ∙ ap (λ ls. ls ++ before_first is_stop (now_all (drop (i + 1) all))) (sym (taken all i d h))

pub any_on : (all : List (Bor (List ℕ))) (i : ℕ) (d : Bor (List ℕ)) (any : Bool) → i < length all → false ≡ is_stop (get_or all i d).now → any ≡ list_any is_stop (now_all (drop i all))
    → any ≡ list_any is_stop (now_all (drop (i + 1) all))
any_on all i d any h goes e = e ∙ ap (list_any is_stop) (dropped all i d h) ∙ any_next (get_or all i d).now (now_all (drop (i + 1) all)) goes

-- the line that is next stops
before_stop : (bytes : List ℕ) (more : List (List ℕ)) → true ≡ is_stop bytes → before_first is_stop (bytes ∷ more) ≡ []
before_stop bytes more stops = ap (λ b. take (if not b then 1 + position_or_len is_stop more else 0) (bytes ∷ more)) (sym stops)

any_stop : (bytes : List ℕ) (more : List (List ℕ)) → true ≡ is_stop bytes → list_any is_stop (bytes ∷ more) ≡ true
any_stop bytes more stops = ap (λ b. b || list_any is_stop more) (sym stops)

module _ (at : ℕ) (all : List (Bor (List ℕ))) (i : ℕ) where
  abbrev front : List (List ℕ)
  front = now_all (take i all) ++ before_first is_stop (now_all (drop i all))

  -- the inner text ends before this line
  pub stopped_at : (d : Bor (List ℕ)) (lines : List (Bor (List ℕ))) → i < length all → true ≡ is_stop (get_or all i d).now → lines ≡ take i all
      → before_first is_stop (now_all all) ≡ front → list_any is_stop (now_all all) ≡ list_any is_stop (now_all (drop i all))
      → record { at = at; lines = now_all lines; stopped = true } ≡ inner at (now_all all)
  stopped_at d lines h stops cut before any =
      let next = dropped all i d h in
      let rest = now_all (drop (i + 1) all) in
      let none : before_first is_stop (now_all (drop i all)) ≡ [] = ap (before_first is_stop) next ∙ before_stop (get_or all i d).now rest stops in
      let lines_are : now_all lines ≡ before_first is_stop (now_all all) =
      ap now_all cut ∙ sym (before ∙ ap (λ ls. now_all (take i all) ++ ls) none ∙ append-nil (now_all (take i all))) in
      let stands : list_any is_stop (now_all all) ≡ true = any ∙ ap (list_any is_stop) next ∙ any_stop (get_or all i d).now rest stops in
      ap₂ (λ (ls : List (List ℕ)) (b : Bool). record { at = at; lines = ls; stopped = b }) lines_are (sym stands)

  -- no line stops
  pub never_stopped : length all ≤ i → before_first is_stop (now_all all) ≡ front → list_any is_stop (now_all all) ≡ list_any is_stop (now_all (drop i all))
      → record { at = at; lines = now_all all; stopped = false } ≡ inner at (now_all all)
  never_stopped last before any =
      let none = drop_all i all last in
      let whole = take_all i all last in
      let lines_are : now_all all ≡ before_first is_stop (now_all all) =
      sym (before ∙ ap (λ ls. now_all (take i all) ++ before_first is_stop (now_all ls)) none ∙ append-nil (now_all (take i all)) ∙ ap now_all whole) in
      ap₂ (λ (ls : List (List ℕ)) (b : Bool). record { at = at; lines = ls; stopped = b }) lines_are (sym (any ∙ ap (λ ls. list_any is_stop (now_all ls)) none))
