-- What the functions of a journal are of a longer one.
use Rattle.std.proofs.Common.{◌≡◌, ℕ, zero, suc, List, [], ◌∷◌, ◌++◌, ◌==◌, ◌&&◌, Bool, true, false, if◌then◌else◌, Option, None, Some, length, map, slice_get, arith, ap, sym, subst, ◌∙◌, refl}
use Rattle.std.proofs.lemmas.List.{map-append}
use Rattle.std.proofs.lemmas.List.Elements.{filter-append}
use Rattle.std.proofs.lemmas.Grind.{common_steps}
use Rattle.std.specs.Prelude.{filter, find, cond}
use Rattle.gw_gate.specs.Parts.{delivers}
use Rattle.gw_gate.specs.Journal.{EntrySeen, WasAccepted, WasSwapped, WasKept, WasOut, Start, Version, Acceptance, swapped, accepted, due, acceptance, kept, released, plans, last_of, current}

pub swapped-append : (g h : List EntrySeen) → swapped (g ++ h) ≡ swapped g ++ swapped h
swapped-append [] h = refl
swapped-append (WasSwapped v p ∷ g) h = ap (λ l. record { number = v; plan = p } ∷ l) (swapped-append g h)
swapped-append (e ∷ g) h = swapped-append g h

pub accepted-append : (g h : List EntrySeen) → accepted (g ++ h) ≡ accepted g ++ accepted h
accepted-append [] h = refl
accepted-append (WasAccepted n arrival c ∷ g) h = ap (λ l. record { n = n; conforming = c } ∷ l) (accepted-append g h)
accepted-append (e ∷ g) h = accepted-append g h

pub released-append : (g h : List EntrySeen) (r : ℕ) → released (g ++ h) r ≡ released g r ++ released h r
released-append [] h r = refl
released-append (WasOut n to t ∷ g) h r = let e = released-append g h r in grind (arith, common_steps)
released-append (e ∷ g) h r = released-append g h r

pub due-append : (g h : List EntrySeen) (r : ℕ) → due (g ++ h) r ≡ due g r ++ due h r
due-append g h r =
    let test : Acceptance → Bool = λ a. delivers a.conforming r in
    let number : Acceptance → ℕ = λ a. a.n in
    ap (λ l. map number (filter test l)) (accepted-append g h)
    ∙ ap (map number) (filter-append test (accepted g) (accepted h))
    ∙ map-append number (filter test (accepted g)) (filter test (accepted h))

-- the first, or else the second
abbrev pub either : {X : Type 0} → Option X → Option X → Option X
either None o = o
either (Some x) o = Some x

pub kept-append : (g h : List EntrySeen) (n r : ℕ) → kept (g ++ h) n r ≡ either (kept g n r) (kept h n r)
kept-append [] h n r = refl
kept-append (WasKept m t ∷ g) h n r =
    let e = kept-append g h n r in
    elim ((m == n) && (t.receiver == r)) as (λ b. (if b then Some t else kept (g ++ h) n r) ≡ either (if b then Some t else kept g n r) (kept h n r))
    [ true ↦ refl | false ↦ e ]
kept-append (e ∷ g) h n r = kept-append g h n r

find_either : (p : Acceptance → Bool) → (xs ys : List Acceptance) → find p (xs ++ ys) ≡ either (find p xs) (find p ys)
find_either p [] ys = refl
find_either p (x ∷ xs) ys =
    let e = find_either p xs ys in
    elim (p x) as (λ b. (cond b (Some x) (find p (xs ++ ys))) ≡ either (cond b (Some x) (find p xs)) (find p ys))
    [ true ↦ refl | false ↦ e ]

pub acceptance-append : (g h : List EntrySeen) (n : ℕ) → acceptance (g ++ h) n ≡ either (acceptance g n) (acceptance h n)
acceptance-append g h n = let p : Acceptance → Bool = λ a. a.n == n in ap (find p) (accepted-append g h) ∙ find_either p (accepted g) (accepted h)

pub acceptance_stays : (g h : List EntrySeen) (n : ℕ) (a : Acceptance) → acceptance g n ≡ Some a → acceptance (g ++ h) n ≡ Some a
acceptance_stays g h n a is = acceptance-append g h n ∙ ap (λ o. either o (acceptance h n)) is

pub get_stays : {X : Type 0} (xs ys : List X) (k : ℕ) (x : X) → slice_get xs k ≡ Some x → slice_get (xs ++ ys) k ≡ Some x
get_stays [] ys k x is = grind (arith, common_steps)
get_stays (y ∷ xs) ys zero x is = is
get_stays (y ∷ xs) ys (suc k) x is = get_stays xs ys k x is

pub plan_stays : (start : Start) (g h : List EntrySeen) (k : ℕ) (v : Version)
    → slice_get (plans (record { start = start; entries = g })) k ≡ Some v → slice_get (plans (record { start = start; entries = g ++ h })) k ≡ Some v
plan_stays start g h k v is =
    let first : Version = record { number = start.version; plan = start.plan } in
    let e : first ∷ swapped (g ++ h) ≡ (first ∷ swapped g) ++ swapped h = ap (λ l. first ∷ l) (swapped-append g h) in
    subst (λ l. slice_get l k ≡ Some v) (sym e) (get_stays (first ∷ swapped g) (swapped h) k v is)

pub last_of-append : (v : Version) (xs ys : List Version) → last_of v (xs ++ ys) ≡ last_of (last_of v xs) ys
last_of-append v [] ys = refl
last_of-append v (x ∷ xs) ys = last_of-append x xs ys

-- the last plan stands behind as many as were swapped in before it
pub last_stands : (v : Version) (vs : List Version) → slice_get (v ∷ vs) (length vs) ≡ Some (last_of v vs)
last_stands v [] = refl
last_stands v (w ∷ vs) = last_stands w vs

pub current-append : (start : Start) (g h : List EntrySeen)
    → current (record { start = start; entries = g ++ h }) ≡ last_of (current (record { start = start; entries = g })) (swapped h)
current-append start g h =
    let first : Version = record { number = start.version; plan = start.plan } in
    ap (last_of first) (swapped-append g h) ∙ last_of-append first (swapped g) (swapped h)
