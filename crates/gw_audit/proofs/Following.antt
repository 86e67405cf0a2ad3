-- The chapters, one after another.
use Rattle.std.proofs.Common.{◌≡◌, ◌≢◌, ℕ, zero, suc, ◌+◌, ◌-◌, ◌<◌, ◌≤◌, ◌&&◌, ◌⊎◌, inl, inr, Bool, false, List, [], ◌∷◌, ◌++◌, length, get_or, drop, take}
use Rattle.std.proofs.Common.{Some, slice_get, refl, sym, ap, subst, ◌∙◌, arith, length-append, append-nil}
use Rattle.std.specs.Prelude.{◌↔◌, IsTrue, cond, count_by, nat_le}
use Rattle.std.proofs.Math.Bool.{and-false}
use Rattle.std.proofs.lemmas.Grind.{common_steps, flat_map-append}
use Rattle.std.proofs.lemmas.Bool.{cases_eq, cases_lt, false≢true, le-leb, lt-leb}
use Rattle.std.proofs.lemmas.List.{drop_more, take_all, take_more}
use Rattle.std.proofs.lemmas.List.Folds.{length-flat_map-take}
use Rattle.std.proofs.lemmas.List.Sums.{count_by-le-length, sum_by-append, sum_by-cons}
use Rattle.std.proofs.lemmas.Option.{gets, none-some, slice_get_past, slice_get_read, slice_get_within}
use Rattle.std.specs.List.Sorted.{IsStrictlyIncreasing}
use Rattle.gw_gate.specs.Chapters.{all_entries}
use Rattle.gw_gate.specs.Journal.{EntrySeen, WasAccepted, WasRefused, Start, Journal, accepted, arrivals, current, end, start_after}
use Rattle.gw_gate.specs.Parts.{PlanSeen}
use Rattle.gw_gate.proofs.Releasing.{some_is}
use Rattle.gw_audit.specs.Report.{is_of}
use Rattle.gw_audit.specs.Turns.{Passes}
use Rattle.gw_audit.specs.declared.report.Kind.{Kind}
use Rattle.gw_audit.specs.declared.report.Kind.TheVariants.{Accepted, Any, Arrived}
use Rattle.gw_audit.specs.own.Joins.{PlansAt, notes_of}
use Rattle.gw_audit.specs.Settled.{GoOn, first_of, is_same, last_end, stands, AreSettled, Settled}
use Rattle.gw_run.specs.Passes.{CountedSeen, PassSeen}

-- ---- one after another

-- the chapter at this place, and those behind it
pub next_part : (js : List Journal) (i : ℕ) (j : Journal) → i < length js → j ≡ get_or js i j → drop i js ≡ j ∷ drop (i + 1) js
next_part js i j lt is = drop_more js i j lt ∙ ap (λ k. k ∷ drop (i + 1) js) (sym is)

pub go_from : (i : ℕ) (js : List Journal) → GoOn js → GoOn (drop i js)
go_from zero js go = go
go_from (suc i) [] go = tt
go_from (suc i) (j ∷ []) go = go_from i [] tt
go_from (suc i) (j ∷ k ∷ js) go = go_from i (k ∷ js) go.1

pub go_at : (js : List Journal) (i : ℕ) (j : Journal) → GoOn js → i < length js → j ≡ get_or js i j → GoOn (j ∷ drop (i + 1) js)
go_at js i j go lt is = subst (λ (l : List Journal). GoOn l) (next_part js i j lt is) (go_from i js go)

-- among the first n of them, each starts where the one before it ended
abbrev pub Goes : List Journal → ℕ → Type 0
Goes js n = (i : ℕ) (j k : Journal) → i + 1 < n → slice_get js i ≡ Some j → slice_get js (i + 1) ≡ Some k → k.start ≡ start_after j

pub go_all : (js : List Journal) (n : ℕ) → length js ≤ n → Goes js n → GoOn js
go_all [] n le each = tt
go_all (j ∷ []) n le each = tt
go_all (j ∷ k ∷ js) n le each = (
  each 0 j k (omega arith) refl refl,
  go_all (k ∷ js) (length (k ∷ js)) (omega arith) (λ i a b lt p q. let next : suc i + 1 ≡ suc (i + 1) = omega arith in
      each (suc i) a b (omega arith) p (ap (slice_get (j ∷ k ∷ js)) next ∙ q)),
)

each_goes : (js : List Journal) (i : ℕ) (j k : Journal) → GoOn js → slice_get js i ≡ Some j → slice_get js (i + 1) ≡ Some k → k.start ≡ start_after j
each_goes [] i j k go a b = absurd (none-some j a)
each_goes (x ∷ []) i j k go a b = absurd (let w = slice_get_within (x ∷ []) (i + 1) k b in omega (arith, w))
each_goes (x ∷ y ∷ js) zero j k go a b = ap (λ (l : Journal). l.start) (sym (some_is y k b)) ∙ go.0 ∙ ap start_after (some_is x j a)
each_goes (x ∷ y ∷ js) (suc i) j k go a b =
    let next : suc (i + 1) ≡ suc i + 1 = omega arith in each_goes (y ∷ js) i j k go.1 a (ap (slice_get (x ∷ y ∷ js)) next ∙ b)

-- two chapters, one after the other
module _ (js : List Journal) (place : ℕ) (part next : Journal) (some : 1 ≤ place) (lt : place < length js) (first : part ≡ get_or js (place - 1) part)
    (then : next ≡ get_or js place next) where
  at_first : slice_get js (place - 1) ≡ Some part
  at_first = slice_get_read js (length js) (place - 1) part refl (omega (arith, some, lt)) first

  at_next : slice_get js place ≡ Some next
  at_next = slice_get_read js (length js) place next refl lt then

  pub go_between : GoOn js → next.start ≡ start_after part
  go_between go =
      let same : place - 1 + 1 ≡ place = omega (arith, some) in each_goes js (place - 1) part next go at_first (ap (slice_get js) same ∙ at_next)

  pub go_more : next.start ≡ start_after part → Goes js place → Goes js (place + 1)
  go_more follows each i j k less a b = by (cases_eq (i + 1) place)
    where
      by : (i + 1 ≡ place) ⊎ (i + 1 ≢ place) → k.start ≡ start_after j
      by (inl here) =
          let before : i ≡ place - 1 = omega (arith, here) in
          ap (λ (l : Journal). l.start) (some_is k next (sym b ∙ ap (slice_get js) here ∙ at_next)) ∙ follows
          ∙ ap start_after (some_is part j (sym at_first ∙ ap (slice_get js) (sym before) ∙ a))
      by (inr other) = each i j k (omega (arith, less, other)) a b

-- ---- the entries of all

-- they go on from where the first chapter starts to where the last one ends
pub ends_at : (j : Journal) (js : List Journal) → GoOn (j ∷ js) → j.start.entries + length (all_entries (j ∷ js)) ≡ last_end 0 (j ∷ js)
ends_at j [] go = let l = ap length (append-nil j.entries) in omega (arith, l)
ends_at j (k ∷ js) go =
    let rest = ends_at k js go.1 in
    let next : k.start.entries ≡ end j = ap (λ s. s.entries) go.0 in
    let l = length-append j.entries (all_entries (k ∷ js)) in
    omega (arith, rest, next, l)

pub ends_all : (js : List Journal) → GoOn js → first_of js + length (all_entries js) ≡ last_end 0 js
ends_all [] go = refl
ends_all (j ∷ js) go = ends_at j js go

pub ends_open : (low : ℕ) (js : List Journal) (j : Journal) → last_end low (js ++ j ∷ []) ≡ end j
ends_open low [] j = refl
ends_open low (k ∷ js) j = ends_open (end k) js j

-- ---- where an entry stands

get_front : {X : Type 0} (xs ys : List X) (k : ℕ) → k < length xs → slice_get (xs ++ ys) k ≡ slice_get xs k
get_front xs ys k lt = grind (arith, common_steps, gets)

get_back : {X : Type 0} (xs ys : List X) (k : ℕ) → length xs ≤ k → slice_get (xs ++ ys) k ≡ slice_get ys (k - length xs)
get_back xs ys k le = grind (arith, common_steps, gets)

module _ (j : Journal) (js : List Journal) (at : ℕ) (e : EntrySeen) where
  -- an entry below the end of the first chapter stands in it or nowhere
  pub stands_here : at < end j → stands (j ∷ js) at e ≡ (nat_le j.start.entries at && is_same e (slice_get j.entries (at - j.start.entries)))
  stands_here lt = by (cases_lt at j.start.entries)
    where
      by : (at < j.start.entries) ⊎ (j.start.entries ≤ at)
          → stands (j ∷ js) at e ≡ (nat_le j.start.entries at && is_same e (slice_get j.entries (at - j.start.entries)))
      by (inl before) =
          let no = lt-leb j.start.entries at before in
          ap (λ b. b && is_same e (slice_get (j.entries ++ all_entries js) (at - j.start.entries))) no
          ∙ sym (ap (λ b. b && is_same e (slice_get j.entries (at - j.start.entries))) no)
      by (inr above) =
          ap (λ o. nat_le j.start.entries at && is_same e o) (get_front j.entries (all_entries js) (at - j.start.entries) (omega (arith, lt, above)))

  -- and one from its end on stands in a later one
  pub stands_later : GoOn (j ∷ js) → end j ≤ at → stands (j ∷ js) at e ≡ stands js at e
  stands_later go le = behind ∙ by js go
    where
      behind : stands (j ∷ js) at e ≡ is_same e (slice_get (all_entries js) (at - end j))
      behind =
          let first = le-leb j.start.entries at (omega (arith, le)) in
          let k : at - j.start.entries - length j.entries ≡ at - end j = omega arith in
          ap (λ b. b && is_same e (slice_get (j.entries ++ all_entries js) (at - j.start.entries))) first
          ∙ ap (is_same e) (get_back j.entries (all_entries js) (at - j.start.entries) (omega (arith, le)) ∙ ap (slice_get (all_entries js)) k)

      by : (ks : List Journal) → GoOn (j ∷ ks) → is_same e (slice_get (all_entries ks) (at - end j)) ≡ stands ks at e
      by [] on =
          ap (is_same e) (slice_get_past (all_entries []) (at - end j) (omega arith))
          ∙ sym (ap (λ o. nat_le 0 at && is_same e o) (slice_get_past (all_entries []) (at - 0) (omega arith)) ∙ and-false (nat_le 0 at))
      by (k ∷ ks) on =
          let next : k.start.entries ≡ end j = ap (λ s. s.entries) on.0 in
          let first = le-leb k.start.entries at (omega (arith, le, next)) in
          sym (ap (λ b. b && is_same e (slice_get (all_entries (k ∷ ks)) (at - k.start.entries))) first
          ∙ ap (λ n. is_same e (slice_get (all_entries (k ∷ ks)) (at - n))) next)

pub none_stand : (at : ℕ) (e : EntrySeen) → stands [] at e ≡ false
none_stand at e = ap (λ o. nat_le 0 at && is_same e o) (slice_get_past (all_entries []) (at - 0) (omega arith)) ∙ and-false (nat_le 0 at)

-- ---- where a chapter ends

counts : (kind : Kind) (e : EntrySeen) (h : List EntrySeen) → count_by (is_of kind) (e ∷ h) ≡ cond (is_of kind e) 1 0 + count_by (is_of kind) h
counts kind e h = sum_by-cons (λ (x : EntrySeen). cond (is_of kind x) 1 0) e h

pub count_any : (h : List EntrySeen) → count_by (is_of Any) h ≡ length h
count_any [] = refl
count_any (e ∷ h) = let one = counts Any e h in omega (arith, one, count_any h)

pub accepted_count : (h : List EntrySeen) → length (accepted h) ≡ count_by (is_of Accepted) h
accepted_count [] = refl
accepted_count (WasAccepted n arrival c ∷ h) = let e = counts Accepted (WasAccepted n arrival c) h in omega (arith, e, accepted_count h)
accepted_count (x ∷ h) = let e = counts Accepted x h in omega (arith, e, accepted_count h)

pub arrived_count : (h : List EntrySeen) → arrivals h ≡ count_by (is_of Arrived) h
arrived_count [] = refl
arrived_count (WasAccepted n arrival c ∷ h) = let e = counts Arrived (WasAccepted n arrival c) h in omega (arith, e, arrived_count h)
arrived_count (WasRefused arrival code ∷ h) = let e = counts Arrived (WasRefused arrival code) h in omega (arith, e, arrived_count h)
arrived_count (x ∷ h) = let e = counts Arrived x h in omega (arith, e, arrived_count h)

-- the version and the plan at a chapter's end, where it passed this many swaps
pub record Turned (j : Journal) (seen : List PlanSeen) (turn : ℕ) : Type 0 where
  pub version : (start_after j).version ≡ j.start.version + turn
  pub plan : slice_get seen turn ≡ Some (start_after j).plan

-- the swaps as they are borrowed
pub turned : (j : Journal) (lent swaps : List ℕ) (seen : List PlanSeen) (n turn : ℕ) → PlansAt j swaps seen → lent ≡ swaps → length j.entries ≡ n
    → (IsStrictlyIncreasing lent → Passes lent n turn) → Turned j seen turn
turned j lent swaps seen n turn tells same long is =
    let passes = subst (λ (l : List ℕ). Passes l n turn) same (is (subst (λ (l : List ℕ). IsStrictlyIncreasing l) (sym same) tells.rising)) in
    let there : Passes swaps (length j.entries) turn = subst (λ k. Passes swaps k turn) (sym long) passes in
    let whole : take (length j.entries) j.entries ≡ j.entries = take_all (length j.entries) j.entries (omega arith) in
    record {
      version = ap (λ h. (current (record j { entries = h })).number) (sym whole) ∙ tells.number (length j.entries) turn there;
      plan = tells.plan (length j.entries) turn there ∙ ap (λ h. Some (current (record j { entries = h })).plan) whole;
    }

pub starts_so : (s t : Start) → s.version ≡ t.version → s.plan ≡ t.plan → s.acceptances ≡ t.acceptances → s.arrivals ≡ t.arrivals → s.entries ≡ t.entries
    → s ≡ t
starts_so s t version plan acceptances arrived entries =
    λ i. record { version = version i; plan = plan i; acceptances = acceptances i; arrivals = arrived i; entries = entries i }

-- a test that fails denies what would have it hold
pub denies : {P Q : Type 0} (b : Bool) → b ≡ false → (IsTrue b ↔ P) → (Q → P) → (IsTrue false → Q) × (Q → IsTrue false)
denies b fails exact implied = (λ t. absurd (false≢true t), λ q. sym fails ∙ exact.1 (implied q))

-- ---- entries that are counted, part by part

entries_next : (js : List Journal) (i : ℕ) (j : Journal) → i < length js → j ≡ get_or js i j
    → all_entries (take (i + 1) js) ≡ all_entries (take i js) ++ j.entries
entries_next js i j lt is =
    ap all_entries (take_more js i j lt ∙ ap (λ k. take i js ++ k ∷ []) (sym is)) ∙ flat_map-append (λ (k : Journal). k.entries) (take i js) (j ∷ [])
    ∙ ap (λ l. all_entries (take i js) ++ l) (append-nil j.entries)

-- how many are of a kind, with those of one part more
module _ (kind : Kind) (js : List Journal) (i : ℕ) (j : Journal) (all x : ℕ) (lt : i < length js) (is : j ≡ get_or js i j)
    (was : all ≡ count_by (is_of kind) (all_entries (take i js))) (more : x ≡ count_by (is_of kind) j.entries) where
  pub count_next : all + x ≡ count_by (is_of kind) (all_entries (take (i + 1) js))
  count_next =
      let both = sum_by-append (λ (e : EntrySeen). cond (is_of kind e) 1 0) (all_entries (take i js)) j.entries in
      let next = ap (count_by (is_of kind)) (entries_next js i j lt is) in
      omega (arith, both, next, was, more)

  pub count_few : all + x ≤ length (all_entries js)
  count_few =
      let a = count_by-le-length (is_of kind) (all_entries (take i js)) in
      let b = count_by-le-length (is_of kind) j.entries in
      let c = length-flat_map-take (λ (k : Journal). k.entries) js i j lt in
      let d = ap (λ (k : Journal). length k.entries) is in
      omega (arith, a, b, c, d, was, more)

-- ---- the chapters that were closed, and the gate

-- what was found of the parts is so of the chapters and the gate
pub exact : (parts js : List Journal) (counted : CountedSeen) (since : ℕ) (passes : List PassSeen) (b : Bool) → parts ≡ js ++ counted.gate ∷ []
    → since ≡ counted.since → (IsTrue b ↔ Settled parts since (notes_of passes)) → IsTrue b ↔ AreSettled js counted passes
exact parts js counted since passes b are is found =
    subst (λ (l : List Journal). IsTrue b ↔ Settled l counted.since (notes_of passes)) are
    (subst (λ s. IsTrue b ↔ Settled parts s (notes_of passes)) is found)

-- there are no more entries than the open chapter's end counts
pub few_in_all : (js : List Journal) (j : Journal) → GoOn (js ++ j ∷ []) → length (all_entries (js ++ j ∷ [])) ≤ end j
few_in_all js j go = let few = ends_all (js ++ j ∷ []) go in let last = ends_open 0 js j in omega (arith, few, last)
