-- What is left of a forest after several names, and its shortest completion.
use Rattle.std.proofs.Common.{◌≡◌, ℕ, zero, suc, ◌+◌, ◌<◌, ◌≤◌, List, [], ◌∷◌, ◌++◌, Option, Some, None, refl, sym, ap, ◌∙◌, subst, arith, length, length-append}
use Rattle.gw_profile.specs.Shapes.{Forest, nothing, segment, group}
use Rattle.gw_validate.specs.Cuts.{Cut, Many, Times, Fits}
use Rattle.gw_validate.specs.Cuts.{Begins, IsShortest}
use Rattle.gw_validate.specs.own.Residual.{after_name}
use Rattle.gw_validate.specs.own.Shortest.{several, shortest}
use Rattle.gw_validate.proofs.Step.{fits_first, child_full}
use Rattle.gw_validate.proofs.Exact.{Step, Steps, step}
use Rattle.gw_profile.specs.Deterministic.{Name, Determined}

abbrev pub and_then : Option Forest → (Forest → Option Forest) → Option Forest
and_then None f = None
and_then (Some g) f = f g

abbrev pub left : Forest → List Name → Option Forest
left f [] = Some f
left f (x ∷ w) = and_then (after_name f x) (λ g. left g w)

pub record Run (f : Forest) (A : Name → Type 0) (w : List Name) (g : Forest) : Type 0 where
  pub forth : (v : List Name) → Fits f (w ++ v) → Fits g v
  pub back : (v : List Name) → Fits g v → Fits f (w ++ v)
  pub kept : Determined g A

abbrev pub Runs : Forest → (Name → Type 0) → List Name → Option Forest → Type 0
Runs f A w None = (v : List Name) → Fits f (w ++ v) → ⊥
Runs f A w (Some g) = Run f A w g

run_more : (f : Forest) (A : Name → Type 0) → Determined f A → (x : Name) (w : List Name) (g : Forest) → Step f A x g → (o : Option Forest) → Runs g A w o → Runs f A (x ∷ w) o
run_more f A wf x w g s None r = λ v h. r v (s.forth (w ++ v) h)
run_more f A wf x w g s (Some k) r =
    record { forth = λ v h. r.forth v (s.forth (w ++ v) h); back = λ v h. s.back (w ++ v) (r.back v h); kept = r.kept }

run_step : (f : Forest) (A : Name → Type 0) → Determined f A → (x : Name) (w : List Name) → ((g : Forest) → Determined g A → Runs g A w (left g w)) → (o : Option Forest) → Steps f A x o → Runs f A (x ∷ w) (and_then o (λ g. left g w))
run_step f A wf x w on None s = λ v h. s (fits_first f A wf x (w ++ v) h)
run_step f A wf x w on (Some g) s = run_more f A wf x w g s _ (on g s.kept)

pub run : (w : List Name) (f : Forest) (A : Name → Type 0) → Determined f A → Runs f A w (left f w)
run [] f A wf = record { forth = λ v h. h; back = λ v h. h; kept = wf }
run (x ∷ w) f A wf = run_step f A wf x w (λ g wg. run w g A wg) _ (step f A wf x)

several_many : (P : List Name → Type 0) (l : List Name) → P l → (k : ℕ) → Many P k (several k l)
several_many P l p zero = refl
several_many P l p (suc k) =
    record { front = l; back = several k l; joined = refl; here = p; there = several_many P l p k }

pub shortest_fits : (f : Forest) (A : Name → Type 0) → Determined f A → Fits f (shortest f)
shortest_fits nothing A wf = refl
shortest_fits (segment sv rest) A wf =
    record { front = several sv.card.min (sv.name ∷ []); back = shortest rest; joined = refl; here = (sv.card.min, omega arith, wf.0, several_many _ (sv.name ∷ []) refl sv.card.min); there = shortest_fits rest A wf.2 }
shortest_fits (group gv ch rest) A wf =
    record { front = several gv.card.min (shortest ch); back = shortest rest; joined = refl; here = (gv.card.min, omega arith, wf.0, several_many _ _ (shortest_fits ch _ wf.3) gv.card.min); there = shortest_fits rest A wf.4 }

several_least : (P : List Name → Type 0) (l : List Name) → ((m : List Name) → P m → length l ≤ length m) → (low k : ℕ) → low ≤ k → (front : List Name) → Many P k front → length (several low l) ≤ length front
several_least P l p zero k le front h = omega arith
several_least P l p (suc low) zero le front h = absurd (omega arith)
several_least P l p (suc low) (suc k) le front h =
    omega (arith, ap length h.joined, length-append h.front h.back, length-append l (several low l), p h.front h.here, several_least P l p low k (omega arith) h.back h.there)

cut_least : (P R : List Name → Type 0) (low : ℕ) (high : Option ℕ) (l m : List Name) → ((v : List Name) → P v → length l ≤ length v) → ((v : List Name) → R v → length m ≤ length v) → (v : List Name) → Cut (Times low high P) R v → length (several low l ++ m) ≤ length v
cut_least P R low high l m p r v c =
    omega (arith, ap length c.joined, length-append c.front c.back, length-append (several low l) m, several_least P l p low c.here.0 c.here.1 c.front c.here.3, r c.back c.there)

pub shortest_least : (f : Forest) (v : List Name) → Fits f v → length (shortest f) ≤ length v
shortest_least nothing v h = omega arith
shortest_least (segment sv rest) v h =
    cut_least _ _ sv.card.min sv.card.max (sv.name ∷ []) (shortest rest) (λ w e. omega (arith, ap length e)) (shortest_least rest) v h
shortest_least (group gv ch rest) v h =
    cut_least _ _ gv.card.min gv.card.max (shortest ch) (shortest rest) (shortest_least ch) (shortest_least rest) v h

pub run_begins : (f : Forest) (A : Name → Type 0) (w : List Name) (g : Forest) → Run f A w g → Begins f w
run_begins f A w g r = (shortest g, r.back (shortest g) (shortest_fits g A r.kept))

pub run_shortest : (f : Forest) (A : Name → Type 0) (w : List Name) (g : Forest) → Run f A w g → IsShortest f w (shortest g)
run_shortest f A w g r =
    record { fits = r.back (shortest g) (shortest_fits g A r.kept); least = λ v h. shortest_least g v (r.forth v h) }

-- several least parts are the only ones of least length
several_only : (P : List Name → Type 0) (l : List Name) → 0 < length l → ((m : List Name) → P m → length l ≤ length m) → ((m : List Name) → P m → length m ≤ length l → m ≡ l) → (low k : ℕ) → low ≤ k → (front : List Name) → Many P k front → length front ≤ length (several low l) → front ≡ several low l
several_only P l some p only zero zero le front h short = h
several_only P l some p only zero (suc k) le front h short =
    absurd (omega (arith, ap length h.joined, length-append h.front h.back, p h.front h.here, short))
several_only P l some p only (suc low) zero le front h short = absurd (omega arith)
several_only P l some p only (suc low) (suc k) le front h short =
    let sum : length h.front + length h.back ≤ length l + length (several low l) =
    omega (arith, ap length h.joined, length-append h.front h.back, length-append l (several low l), short) in
    let here : h.front ≡ l = only h.front h.here (omega (arith, several_least P l p low k (omega arith) h.back h.there)) in
    let there : h.back ≡ several low l = several_only P l some p only low k (omega arith) h.back h.there (omega (arith, p h.front h.here)) in
    h.joined ∙ ap (λ a. a ++ h.back) here ∙ ap (λ b. l ++ b) there

cut_only : (P R : List Name → Type 0) (low : ℕ) (high : Option ℕ) (l m : List Name) → 0 < length l → ((v : List Name) → P v → length l ≤ length v) → ((v : List Name) → P v → length v ≤ length l → v ≡ l) → ((v : List Name) → R v → length m ≤ length v) → ((v : List Name) → R v → length v ≤ length m → v ≡ m) → (v : List Name) → Cut (Times low high P) R v → length v ≤ length (several low l ++ m) → v ≡ several low l ++ m
cut_only P R low high l m some p only r alone v c short =
    let sum : length c.front + length c.back ≤ length (several low l) + length m =
    omega (arith, ap length c.joined, length-append c.front c.back, length-append (several low l) m, short) in
    let front : c.front ≡ several low l = several_only P l some p only low c.here.0 c.here.1 c.front c.here.3 (omega (arith, r c.back c.there)) in
    let back : c.back ≡ m = alone c.back c.there (omega (arith, several_least P l p low c.here.0 c.here.1 c.front c.here.3)) in
    c.joined ∙ ap (λ a. a ++ c.back) front ∙ ap (λ b. several low l ++ b) back

not_empty : (l : List Name) → (l ≡ [] → ⊥) → 0 < length l
not_empty [] h = absurd (h refl)
not_empty (x ∷ l) h = omega arith

-- no other list that fits is as short
pub shortest_only : (f : Forest) (A : Name → Type 0) → Determined f A → (v : List Name) → Fits f v → length v ≤ length (shortest f) → v ≡ shortest f
shortest_only nothing A wf v h short = h
shortest_only (segment sv rest) A wf v h short =
    cut_only _ _ sv.card.min sv.card.max (sv.name ∷ []) (shortest rest) (omega arith) (λ w e. omega (arith, ap length e)) (λ w e s. e) (shortest_least rest) (shortest_only rest A wf.2) v h short
shortest_only (group gv ch rest) A wf v h short =
    cut_only _ _ gv.card.min gv.card.max (shortest ch) (shortest rest) (not_empty _ (λ e. child_full ch _ wf.1 wf.3 (subst (Fits ch) e (shortest_fits ch _ wf.3)))) (shortest_least ch) (shortest_only ch _ wf.3) (shortest_least rest) (shortest_only rest A wf.4) v h short

completion_of : (f : Forest) (A : Name → Type 0) (w : List Name) → (o : Option Forest) → Runs f A w o → (a b : List Name) → IsShortest f w a → IsShortest f w b → a ≡ b
completion_of f A w None r a b p q = absurd (r a p.fits)
completion_of f A w (Some g) r a b p q = only a p ∙ sym (only b q)
  where
    only : (c : List Name) → IsShortest f w c → c ≡ shortest g
    only c s = shortest_only g A r.kept c (r.forth c s.fits) (s.least (shortest g) (r.back (shortest g) (shortest_fits g A r.kept)))

-- there is one shortest completion
pub one_completion : (f : Forest) (A : Name → Type 0) → Determined f A → (w a b : List Name) → IsShortest f w a → IsShortest f w b → a ≡ b
one_completion f A wf w a b p q = completion_of f A w _ (run w f A wf) a b p q
