-- What a receiver's part of a state says, as the log goes on.
use Rattle.std.proofs.Common.{◌≡◌, ◌⊎◌, inl, inr, ℕ, suc, ◌+◌, ◌-◌, ◌≤◌, ◌<◌, Bool, true, false, cond, List, [], ◌∷◌, ◌++◌, length, drop, Some, slice_get, refl, ap, sym, ◌∙◌, arith}
use Rattle.std.specs.Prelude.{nat_eq}
use Rattle.std.proofs.lemmas.Bool.{eqb-true}
use Rattle.std.proofs.lemmas.List.{append-nil, length-append, length-drop, drop-append-le, drop-drop, nil_from_length}
use mathlib.Core.List.{IsPrefix}
use Rattle.gw_due.specs.Events.{How, Event, Planned, Accepted, Again, Passed, Named, Margin, Retired}
use Rattle.gw_due.specs.Due.{is_among, due_by, due_from, due, passed_by, passed, refused_by, refused, left}
use Rattle.gw_due.specs.State as state
use Rattle.gw_due.specs.State.{Receiver, owed, refusals}
use Rattle.gw_due.specs.Says.{SaysOf}
use Rattle.gw_due.proofs.Growing.{due_append, passed_append, refused_append, drop_front, first_is}
use Rattle.gw_due.proofs.Covering.{drop_more}

-- ---- the first that is due from a place on

by_choice : (b : Bool) (k : ℕ) → (cond b (k ∷ []) [] ≡ []) ⊎ (cond b (k ∷ []) [] ≡ k ∷ [])
by_choice true k = inr refl
by_choice false k = inl refl

due_or_not : (n k : ℕ) (e : Event) → (due_by n k e ≡ []) ⊎ (due_by n k e ≡ k ∷ [])
due_or_not n k (Accepted number to bytes) = by_choice (is_among n to) k
due_or_not n k (Again receiver place) = by_choice (nat_eq receiver n) k
due_or_not n k (Planned text) = inl refl
due_or_not n k (Passed receiver place how) = inl refl
due_or_not n k (Named receiver name address) = inl refl
due_or_not n k (Margin number) = inl refl
due_or_not n k (Retired segment) = inl refl

pub record IsFirst (n k place : ℕ) (log : List Event) (rest : List ℕ) : Type 0 where
  pub within : k ≤ place
  pub below : place < k + length log
  pub behind : due_from n (place + 1) (drop (place + 1 - k) log) ≡ rest

pub first_due : (n k place : ℕ) (log : List Event) (rest : List ℕ) → due_from n k log ≡ place ∷ rest → IsFirst n k place log rest
first_due n k place [] rest is = absurd cc
first_due n k place (e ∷ log) rest is = by_event (due_or_not n k e) (first_due n (k + 1) place log rest)
  where
    by_event : (due_by n k e ≡ []) ⊎ (due_by n k e ≡ k ∷ []) → (due_from n (k + 1) log ≡ place ∷ rest → IsFirst n (k + 1) place log rest)
        → IsFirst n k place (e ∷ log) rest
    by_event (inl none) there =
        let more = there (sym (ap (λ l. l ++ due_from n (k + 1) log) none) ∙ is) in
        let one_less : place + 1 - k ≡ suc (place + 1 - (k + 1)) = omega (arith, more.within) in
        record {
          within = omega (arith, more.within);
          below = omega (arith, more.below);
          behind = ap (λ i. due_from n (place + 1) (drop i (e ∷ log))) one_less ∙ more.behind;
        }
    by_event (inr here) there =
        let whole : k ∷ due_from n (k + 1) log ≡ place ∷ rest = sym (ap (λ l. l ++ due_from n (k + 1) log) here) ∙ is in
        let same : k ≡ place = cc in
        let others : due_from n (k + 1) log ≡ rest = cc in
        let one : place + 1 - k ≡ 1 = omega arith in
        record {
          within = omega arith;
          below = omega arith;
          behind = ap (λ i. due_from n (place + 1) (drop i (e ∷ log))) one ∙ ap (λ i. due_from n (i + 1) log) (sym same) ∙ others;
        }

-- ---- one event more

module _ (n : ℕ) (log : List Event) (e : Event) where
  abbrev pub then : List Event
  then = log ++ e ∷ []

  pub not_due : ((k : ℕ) → due_by n k e ≡ []) → due n then ≡ due n log
  not_due none = due_append n 0 log (e ∷ []) ∙ ap (λ l. due n log ++ (l ++ [])) (none (0 + length log)) ∙ append-nil (due n log)

  not_due_from : ((k : ℕ) → due_by n k e ≡ []) → (from : ℕ) → from ≤ length log → due_from n from (drop from then) ≡ due_from n from (drop from log)
  not_due_from none from within =
      ap (due_from n from) (drop-append-le from log (e ∷ []) within) ∙ due_append n from (drop from log) (e ∷ [])
      ∙ ap (λ l. due_from n from (drop from log) ++ (l ++ [])) (none (from + length (drop from log))) ∙ append-nil (due_from n from (drop from log))

  pub not_passed : passed_by n e ≡ [] → passed n then ≡ passed n log
  not_passed none = passed_append n log (e ∷ []) ∙ ap (λ l. passed n log ++ (l ++ [])) none ∙ append-nil (passed n log)

  pub not_refused : refused_by n e ≡ [] → refused n then ≡ refused n log
  not_refused none = refused_append n log (e ∷ []) ∙ ap (λ l. refused n log ++ (l ++ [])) none ∙ append-nil (refused n log)

  longer : length then ≡ length log + 1
  longer = omega (arith, length-append log (e ∷ []))

-- nothing of the receiver's happens
pub quiet : (log : List Event) (e : Event) (r : Receiver) → ((k : ℕ) → due_by r.number k e ≡ []) → passed_by r.number e ≡ [] → refused_by r.number e ≡ []
    → SaysOf log r → SaysOf (log ++ e ∷ []) r
quiet log e r none no_pass no_refusal says =
    let n = r.number in
    let log' : List Event = log ++ e ∷ [] in
    let same : left n log' ≡ left n log = ap (λ l. drop (length l) (due n log')) (not_passed n log e no_pass) ∙ ap (λ l. drop (length (passed n log)) l) (not_due n log e none) in
    record {
      within = omega (arith, longer n log e, says.within);
      behind = same ∙ says.behind ∙ sym (not_due_from n log e none r.from says.within);
      left = says.left ∙ ap length (sym same);
      refused = says.refused ∙ ap length (sym (not_refused n log e no_refusal));
    }

record IsBehind (n from : ℕ) (log : List Event) : Type 0 where
  pub within : from ≤ length log
  pub behind : left n log ≡ due_from n from (drop from log)

-- something more is due
one_left_more : (n : ℕ) (log : List Event) (e : Event) → IsPrefix (passed n log) (due n log) → ((k : ℕ) → due_by n k e ≡ k ∷ []) → passed_by n e ≡ []
    → left n (log ++ e ∷ []) ≡ left n log ++ length log ∷ []
one_left_more n log e prefix due_there no_pass =
    let here : 0 + length log ≡ length log = omega arith in
    let all : due n (log ++ e ∷ []) ≡ due n log ++ length log ∷ [] =
    due_append n 0 log (e ∷ []) ∙ ap (λ l. due n log ++ (l ++ [])) (due_there (0 + length log)) ∙ ap (λ k. due n log ++ k ∷ []) here in
    ap (λ l. drop (length l) (due n (log ++ e ∷ []))) (not_passed n log e no_pass) ∙ ap (λ l. drop (length (passed n log)) l) all
    ∙ drop_more (passed n log) (due n log) (length log ∷ []) prefix.0 prefix.1

where_left : (b : Bool) (log : List Event) (e : Event) (r : Receiver) → nat_eq r.left 0 ≡ b → ((k : ℕ) → due_by r.number k e ≡ k ∷ [])
    → left r.number (log ++ e ∷ []) ≡ left r.number log ++ length log ∷ [] → SaysOf log r → IsBehind r.number (cond b (length log) r.from) (log ++ e ∷ [])
where_left true log e r is due_there more says =
    let n = r.number in
    let at : ℕ = length log in
    let none : left n log ≡ [] = nil_from_length (left n log) (sym says.left ∙ eqb-true r.left 0 is) in
    record {
      within = omega (arith, longer n log e);
      behind = more ∙ ap (λ l. l ++ at ∷ []) none ∙ sym (ap (due_from n at) (drop_front log (e ∷ [])) ∙ append-nil (due_by n at e) ∙ due_there at);
    }
where_left false log e r is due_there more says =
    let n = r.number in
    let at : ℕ = length log in
    let last : r.from + length (drop r.from log) ≡ at = omega (arith, length-drop r.from log, says.within) in
    record {
      within = omega (arith, longer n log e, says.within);
      behind = more ∙ ap (λ l. l ++ at ∷ []) says.behind
          ∙ sym (ap (due_from n r.from) (drop-append-le r.from log (e ∷ []) says.within) ∙ due_append n r.from (drop r.from log) (e ∷ [])
          ∙ ap (λ l. due_from n r.from (drop r.from log) ++ (l ++ [])) (due_there (r.from + length (drop r.from log)) ∙ ap (λ k. k ∷ []) last));
    }

pub owing : (log : List Event) (e : Event) (r : Receiver) → IsPrefix (passed r.number log) (due r.number log)
    → ((k : ℕ) → due_by r.number k e ≡ k ∷ []) → passed_by r.number e ≡ [] → refused_by r.number e ≡ []
    → SaysOf log r → SaysOf (log ++ e ∷ []) (owed (length log) r)
owing log e r prefix due_there no_pass no_refusal says =
    let n = r.number in
    let more = one_left_more n log e prefix due_there no_pass in
    let place = where_left (nat_eq r.left 0) log e r refl due_there more says in
    record {
      within = place.within;
      behind = place.behind;
      left = omega (arith, says.left, length-append (left n log) (length log ∷ [])) ∙ ap length (sym more);
      refused = says.refused ∙ ap length (sym (not_refused n log e no_refusal));
    }

-- the first that is left is passed
pub passing : (log : List Event) (e : Event) (r : Receiver) (place : ℕ) (how : How) → ((k : ℕ) → due_by r.number k e ≡ []) → passed_by r.number e ≡ place ∷ []
    → length (refused_by r.number e) ≡ refusals how → slice_get (left r.number log) 0 ≡ Some place
    → SaysOf log r → SaysOf (log ++ e ∷ []) (state.passed place how r)
passing log e r place how none passes refuses next says =
    let n = r.number in
    let log' : List Event = log ++ e ∷ [] in
    let first = first_is (left n log) place next in
    let is = first_due n r.from place (drop r.from log) first.0 (sym says.behind ∙ first.1) in
    let end : r.from + length (drop r.from log) ≡ length log = omega (arith, length-drop r.from log, says.within) in
    let below : place + 1 ≤ length log = omega (arith, is.below) in
    let up : r.from + (place + 1 - r.from) ≡ place + 1 = omega (arith, is.within) in
    let done : passed n log' ≡ passed n log ++ place ∷ [] = passed_append n log (e ∷ []) ∙ ap (λ l. passed n log ++ (l ++ [])) passes in
    let count : length (passed n log ++ place ∷ []) ≡ length (passed n log) + 1 = omega (arith, length-append (passed n log) (place ∷ [])) in
    let rest : left n log' ≡ first.0 =
    ap (λ l. drop (length l) (due n log')) done ∙ ap (λ k. drop k (due n log')) count ∙ ap (λ l. drop (length (passed n log) + 1) l) (not_due n log e none)
    ∙ sym (drop-drop 1 (length (passed n log)) (due n log)) ∙ ap (λ l. drop 1 l) first.1 in
    record {
      within = omega (arith, longer n log e, below);
      behind = rest ∙ sym is.behind ∙ ap (due_from n (place + 1)) (drop-drop (place + 1 - r.from) r.from log ∙ ap (λ k. drop k log) up)
          ∙ sym (not_due_from n log e none (place + 1) below);
      left = omega (arith, says.left, ap length first.1) ∙ ap length (sym rest);
      refused = ap (λ k. k + refusals how) says.refused ∙ ap (λ k. length (refused n log) + k) (sym refuses)
          ∙ sym (ap length (refused_append n log (e ∷ [])) ∙ ap (λ l. length (refused n log ++ l)) (append-nil (refused_by n e)) ∙ length-append (refused n log) (refused_by n e));
    }
