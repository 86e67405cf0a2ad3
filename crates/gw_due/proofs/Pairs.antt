-- A receiver's number and its name are a pair for good.
use Rattle.std.proofs.Common.{◌≡◌, ◌↔◌, inl, inr, ℕ, zero, suc, ◌+◌, ◌<◌, Bool, true, false, cond, List, [], ◌∷◌, ◌++◌, length, get_or, refl, ap, sym, ◌∙◌, subst, arith}
use Rattle.std.specs.Prelude.{not, nat_eq, bytes_eq}
use Rattle.std.specs.List.{list_all, AllPairs}
use Rattle.std.proofs.lemmas.Bool.{and_parts, cases_lt, eqb-true}
use Rattle.std.proofs.Common.{eq-eqb}
use Rattle.std.proofs.lemmas.List.{append-nil, length-append, get_or_append_left}
use Rattle.std.proofs.Math.Seq.{get_or-append_seam}
use Rattle.std.proofs.lemmas.Slice.Eq.{bytes_eq-Decides}
use Rattle.gw_due.specs.Events.{Event, Planned, Accepted, Again, Passed, Named, Margin, Retired}
use Rattle.gw_due.specs.Due.{Name, names, names_by}
use Rattle.gw_due.specs.Lawful.{Lawful, no_event, one_more, MayFollow, agrees, IsOnePair}
use Rattle.gw_due.proofs.Telling.{names_then}

-- what the test means
by_test : (b c : Bool) (r : ℕ) (name : List ℕ) (n : Name) → nat_eq n.number r ≡ b → bytes_eq n.name name ≡ c → cond b c (not c) ≡ true → (n.number ≡ r) ↔ (n.name ≡ name)
by_test true true r name n number text is = (λ _. (bytes_eq-Decides n.name name).0 text, λ _. eqb-true n.number r number)
by_test true false r name n number text is = absurd cc
by_test false true r name n number text is = absurd cc
by_test false false r name n number text is =
    (λ same. absurd (clash (eq-eqb n.number r same) number), λ same. absurd (clash ((bytes_eq-Decides n.name name).1 same) text))
  where
    clash : {b : Bool} → b ≡ true → b ≡ false → ⊥
    clash h f = cc

pub agree : (r : ℕ) (name : List ℕ) (n : Name) → agrees r name n ≡ true → (n.number ≡ r) ↔ (n.name ≡ name)
agree r name n is = by_test (nat_eq n.number r) (bytes_eq n.name name) r name n refl refl is

at_each : (p : Name → Bool) (ns : List Name) (i : ℕ) (d : Name) → list_all p ns ≡ true → i < length ns → p (get_or ns i d) ≡ true
at_each p [] i d all lt = absurd (omega arith)
at_each p (n ∷ ns) zero d all lt = (and_parts (p n) (list_all p ns) all).0
at_each p (n ∷ ns) (suc i) d all lt = at_each p ns i d (and_parts (p n) (list_all p ns) all).1 (omega arith)

one_pair_more : (ns : List Name) (n : Name) → AllPairs IsOnePair ns → list_all (agrees n.number n.name) ns ≡ true → AllPairs IsOnePair (ns ++ n ∷ [])
one_pair_more ns n pairs all i j d before within =
    let longer : length (ns ++ n ∷ []) ≡ length ns + 1 = omega (arith, length-append ns (n ∷ [])) in
    let first : i < length ns = omega arith in
    let here : get_or ns i d ≡ get_or (ns ++ n ∷ []) i d = sym (get_or_append_left ns (n ∷ []) d i first) in
    elim (cases_lt j (length ns)) [
      | inl inside ↦ subst (λ x. IsOnePair x (get_or (ns ++ n ∷ []) j d)) here
          (subst (λ y. IsOnePair (get_or ns i d) y) (sym (get_or_append_left ns (n ∷ []) d j inside)) (pairs i j d before inside))
      | inr past ↦
          let last : j ≡ length ns = omega arith in
          let there : n ≡ get_or (ns ++ n ∷ []) j d = sym (ap (λ k. get_or (ns ++ n ∷ []) k d) last ∙ get_or-append_seam ns n [] d) in
          subst (λ x. IsOnePair x (get_or (ns ++ n ∷ []) j d)) here
          (subst (λ y. IsOnePair (get_or ns i d) y) there (agree n.number n.name (get_or ns i d) (at_each (agrees n.number n.name) ns i d all first)))
    ]

module _ (Routes : (names : List Name) (plan to bytes : List ℕ) → Type 0) where
  quiet : (log : List Event) (e : Event) → names_by e ≡ [] → AllPairs IsOnePair (names log) → AllPairs IsOnePair (names (log ++ e ∷ []))
  quiet log e none pairs = subst (λ l. AllPairs IsOnePair l) (sym (names_then log e ∙ ap (λ l. names log ++ l) none ∙ append-nil (names log))) pairs

  step : (log : List Event) (e : Event) → MayFollow Routes log e → AllPairs IsOnePair (names log) → AllPairs IsOnePair (names (log ++ e ∷ []))
  step log (Planned text) may pairs = quiet log (Planned text) refl pairs
  step log (Accepted number to bytes) may pairs = quiet log (Accepted number to bytes) refl pairs
  step log (Again r place) may pairs = quiet log (Again r place) refl pairs
  step log (Passed r place how) may pairs = quiet log (Passed r place how) refl pairs
  step log (Margin number) may pairs = quiet log (Margin number) refl pairs
  step log (Retired segment) may pairs = quiet log (Retired segment) refl pairs
  step log (Named r name address) may pairs =
      subst (λ l. AllPairs IsOnePair l) (sym (names_then log (Named r name address))) (one_pair_more (names log) (record { number = r; name = name }) pairs may)

  pub pairs : (log : List Event) → Lawful Routes log → AllPairs IsOnePair (names log)
  pairs [] no_event = λ i j d before within. absurd (omega arith)
  pairs _ (one_more log e lawful may) = step log e may (pairs log lawful)
