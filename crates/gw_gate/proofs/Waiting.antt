-- Whether something that is due waits.
use Rattle.std.proofs.Common.{◌≡◌, ◌==◌, ◌||◌, ◌<◌, ℕ, Bool, true, false, List, [], ◌∷◌, length, refl, sym, ap, subst, ◌∙◌, arith}
use Rattle.std.specs.Prelude.{filter, cond, nat_lt}
use Rattle.std.specs.List.{list_any}
use Rattle.std.proofs.lemmas.List.{length-map}
use Rattle.std.proofs.lemmas.Bool.{false≢true}
use Rattle.std.proofs.lemmas.Bool.Decides.{nat_tests}
use Rattle.gw_reorder.specs.State.{DeskState}
use Rattle.gw_reorder.proofs.Places.{equal_numbers}
use Rattle.gw_gate.specs.Parts.{TranslatedSeen, delivers}
use Rattle.gw_gate.specs.Journal.{EntrySeen, Acceptance, accepted, due, released}
use Rattle.gw_gate.specs.Chapters.{awaits, some_await}
use Rattle.gw_gate.specs.own.Books.{given, StandsAt}
use Rattle.gw_gate.specs.own.Desks.{Waits}

or_true : (b : Bool) → (b || true) ≡ true
or_true true = refl
or_true false = refl

awaits_is : (h : List EntrySeen) (r : ℕ) (s : DeskState TranslatedSeen) → StandsAt h r s → awaits h r ≡ nat_lt s.released (length s.due)
awaits_is h r s stands =
    let out : length (released h r) ≡ s.released = sym (length-map (released h r) given) ∙ stands.count in
    ap (λ k. nat_lt k (length (due h r))) out ∙ ap (λ l. nat_lt s.released (length l)) (sym stands.due_is)

-- a test that holds of a receiver to which it goes holds of one of the receivers
holds_of : (test : ℕ → Bool) (r : ℕ) (rs : List ℕ) → test r ≡ true → list_any (λ to. to == r) rs ≡ true → list_any test rs ≡ true
holds_of test r [] holds goes = absurd (false≢true goes)
holds_of test r (to ∷ rs) holds goes = by (λ e. holds_of test r rs holds e) (to == r) refl goes
  where
    by : (list_any (λ x. x == r) rs ≡ true → list_any test rs ≡ true) → (b : Bool) → (to == r) ≡ b → (b || list_any (λ x. x == r) rs) ≡ true → list_any test (to ∷ rs) ≡ true
    by later true same e = ap (λ b. b || list_any test rs) (subst (λ z. test z ≡ true) (sym (equal_numbers to r same)) holds)
    by later false other e = ap (λ b. test to || b) (later e) ∙ or_true (test to)

someone : (test : ℕ → Bool) (r : ℕ) (xs : List Acceptance) → test r ≡ true → 0 < length (filter (λ a. delivers a.conforming r) xs) → list_any (λ a. list_any test a.conforming.receivers) xs ≡ true
someone test r [] holds some = let none : 0 < 0 = some in absurd (omega (arith, none))
someone test r (x ∷ xs) holds some = by (λ e. someone test r xs holds e) (delivers x.conforming r) refl some
  where
    by : (0 < length (filter (λ a. delivers a.conforming r) xs) → list_any (λ a. list_any test a.conforming.receivers) xs ≡ true) → (b : Bool) → delivers x.conforming r ≡ b → 0 < length (cond b (x ∷ filter (λ a. delivers a.conforming r) xs) (filter (λ a. delivers a.conforming r) xs)) → list_any (λ a. list_any test a.conforming.receivers) (x ∷ xs) ≡ true
    by later true goes lt = ap (λ b. b || list_any (λ a. list_any test a.conforming.receivers) xs) (holds_of test r x.conforming.receivers holds goes)
    by later false goes lt = ap (λ b. list_any test x.conforming.receivers || b) (later lt) ∙ or_true (list_any test x.conforming.receivers)

of_none : (test : ℕ → Bool) (rs : List ℕ) → ((r : ℕ) → test r ≡ false) → list_any test rs ≡ false
of_none test [] none = refl
of_none test (r ∷ rs) none = ap (λ b. b || list_any test rs) (none r) ∙ of_none test rs none

no_one : (test : ℕ → Bool) (xs : List Acceptance) → ((r : ℕ) → test r ≡ false) → list_any (λ a. list_any test a.conforming.receivers) xs ≡ false
no_one test [] none = refl
no_one test (x ∷ xs) none = ap (λ b. b || list_any (λ a. list_any test a.conforming.receivers) xs) (of_none test x.conforming.receivers none) ∙ no_one test xs none

-- what the desks tell is what the journal says
pub some_is : (h : List EntrySeen) (desk : ℕ → DeskState TranslatedSeen) (b : Bool) → ((r : ℕ) → StandsAt h r (desk r)) → Waits desk b → b ≡ some_await h
some_is h desk true stands waits =
    let r = waits.0 in
    let lt = waits.1 in
    let holds : nat_lt (desk r).released (length (desk r).due) ≡ true = grind (arith, nat_tests) in
    let long : length (due h r) ≡ length (desk r).due = ap length (sym (stands r).due_is) in
    let count : length (due h r) ≡ length (filter (λ a. delivers a.conforming r) (accepted h)) = length-map (filter (λ a. delivers a.conforming r) (accepted h)) (λ a. a.n) in
    sym (someone (awaits h) r (accepted h) (awaits_is h r (desk r) (stands r) ∙ holds) (omega (arith, lt, long, count)))
some_is h desk false stands none = sym (no_one (awaits h) (accepted h) (λ r. awaits_is h r (desk r) (stands r) ∙ isnt r))
  where
    isnt : (r : ℕ) → nat_lt (desk r).released (length (desk r).due) ≡ false
    isnt r = let le = none r in grind (arith, nat_tests)
