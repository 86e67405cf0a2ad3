-- What one pass has receipts of is what was given out.
use Rattle.std.proofs.Common.{◌≡◌, ◌≢◌, ℕ, suc, ◌+◌, ◌-◌, ◌<◌, ◌≤◌, ◌==◌, ◌&&◌, ◌⊎◌, inl, inr, Bool, true, false, if◌then◌else◌, List, [], ◌∷◌, ◌++◌}
use Rattle.std.proofs.Common.{map, drop, Option, Some, slice_get, length, refl, sym, ap, subst, ◌∙◌, arith}
use Rattle.std.specs.Prelude.{cond, nat_le, flat_map, is_some}
use Rattle.std.specs.List.{list_all, range_with_len}
use Rattle.std.proofs.lemmas.Grind.{common_steps, flat_map-append}
use Rattle.std.proofs.lemmas.Bool.{and_from, and_parts, cases_eq, eqb-true, false_from_ne_true, false≢true, leb-true, ne_eqb, true_from_ne_false}
use Rattle.std.proofs.lemmas.List.Folds.{list_all-append, list_all_at}
use Rattle.std.proofs.lemmas.List.FromFn.{get_or-range_with_len, length-range_with_len}
use Rattle.std.proofs.lemmas.List.Sums.{sum_by-cons, sum_by-append}
use Rattle.std.proofs.lemmas.Option.{gets, slice_get_within}
use Rattle.gw_gate.specs.Parts.{same_translated}
use Rattle.gw_gate.specs.Chapters.{all_entries}
use Rattle.gw_gate.specs.Journal.{EntrySeen, WasOut, Journal, Release, released}
use Rattle.gw_gate.specs.Same.{same_entry}
use Rattle.gw_gate.proofs.Journals.{released-append}
use Rattle.gw_crew.specs.Notes.{NoteSeen, Added, ReceiptSeen}
use Rattle.gw_run.specs.Passes.{receipts}
use Rattle.gw_audit.specs.Settled.{Settled, agrees, first_of, fits_between, having, is_same, last_end, next_at, stands}
use Rattle.gw_audit.proofs.Following.{ends_all}
use Rattle.gw_audit.specs.Given.{NoneGiven, are_same, entry_of, given_by, given_out, same_release}

-- ---- entries that give something out

-- whether an entry gives something out for the receiver
abbrev is_out : EntrySeen → ℕ → Bool
is_out e r = is_some (slice_get (released (e ∷ []) r) 0)

none_is : (xs : List Release) → is_some (slice_get xs 0) ≡ false → xs ≡ []
none_is [] is = refl
none_is (x ∷ xs) is = absurd (false≢true (sym is))

calm : (e : EntrySeen) (h : List EntrySeen) (r : ℕ) → is_out e r ≡ false → released (e ∷ h) r ≡ released h r
calm e h r is = released-append (e ∷ []) h r ∙ ap (λ l. l ++ released h r) (none_is (released (e ∷ []) r) is)

out_some : (e : EntrySeen) (h : List EntrySeen) (r : ℕ) → is_out e r ≡ true → released (e ∷ h) r ≡ [] → ⊥
out_some e h r is none = by (released (e ∷ []) r) is (sym (released-append (e ∷ []) h r) ∙ none)
  where
    by : (xs : List Release) → is_some (slice_get xs 0) ≡ true → xs ++ released h r ≡ [] → ⊥
    by [] some empty = false≢true some
    by (x ∷ xs) some empty = absurd (let long = ap length empty in omega (arith, long))

-- the same entries give out the same
same_out : (e f : EntrySeen) (r : ℕ) → same_entry e f ≡ true → are_same (released (e ∷ []) r) (released (f ∷ []) r) ≡ true
same_out (WasOut m at u) (WasOut n to t) r is = by (at == r) (to == r) (ap (λ q. q == r) (eqb-true at to first.1))
  where
    both : (((m == n) && (at == to)) ≡ true) × (same_translated u t ≡ true)
    both = and_parts ((m == n) && (at == to)) (same_translated u t) is

    first : ((m == n) ≡ true) × ((at == to) ≡ true)
    first = and_parts (m == n) (at == to) both.0

    one : same_release (record { n = m; translated = u }) (record { n = n; translated = t }) ≡ true
    one = and_from (m == n) (same_translated u t) first.0 both.1

    by : (b d : Bool) → b ≡ d → are_same (if b then record { n = m; translated = u } ∷ [] else [])
        (if d then record { n = n; translated = t } ∷ [] else []) ≡ true
    by true true e = and_from (same_release (record { n = m; translated = u }) (record { n = n; translated = t })) true one refl
    by true false e = absurd (false≢true (sym e))
    by false true e = absurd (false≢true e)
    by false false e = refl
same_out (WasOut m at u) f r is = absurd (false≢true is)
same_out e (WasOut n to t) r is = absurd (false≢true is)
same_out e f r is = refl

same_append : (xs ys gs hs : List Release) → are_same xs ys ≡ true → are_same gs hs ≡ true → are_same (xs ++ gs) (ys ++ hs) ≡ true
same_append [] [] gs hs one rest = rest
same_append [] (y ∷ ys) gs hs one rest = absurd (false≢true one)
same_append (x ∷ xs) [] gs hs one rest = absurd (false≢true one)
same_append (x ∷ xs) (y ∷ ys) gs hs one rest =
    let both = and_parts (same_release x y) (are_same xs ys) one in
    and_from (same_release x y) (are_same (xs ++ gs) (ys ++ hs)) both.0 (same_append xs ys gs hs both.1 rest)

heads : (e f : EntrySeen) (g h : List EntrySeen) (r : ℕ) → same_entry e f ≡ true → are_same (released g r) (released h r) ≡ true
    → are_same (released (e ∷ g) r) (released (f ∷ h) r) ≡ true
heads e f g h r is rest =
    ap (λ l. are_same l (released (f ∷ h) r)) (released-append (e ∷ []) g r)
    ∙ ap (are_same (released (e ∷ []) r ++ released g r)) (released-append (f ∷ []) h r)
    ∙ same_append (released (e ∷ []) r) (released (f ∷ []) r) (released g r) (released h r) (same_out e f r is) rest

some_alike : (xs ys : List Release) → are_same xs ys ≡ true → is_some (slice_get xs 0) ≡ is_some (slice_get ys 0)
some_alike [] [] is = refl
some_alike [] (y ∷ ys) is = absurd (false≢true is)
some_alike (x ∷ xs) [] is = absurd (false≢true is)
some_alike (x ∷ xs) (y ∷ ys) is = refl

same_kind : (e f : EntrySeen) (r : ℕ) → same_entry e f ≡ true → is_out e r ≡ is_out f r
same_kind e f r is = some_alike (released (e ∷ []) r) (released (f ∷ []) r) (same_out e f r is)

-- ---- receipts of one pass

-- their numbers rise from this one on
abbrev Rising : ℕ → List ReceiptSeen → Type 0
Rising low [] = Unit {0}
Rising low (x ∷ all) = (low ≤ x.at) × Rising (x.at + 1) all

-- each number's entry is theirs
abbrev StandIn : (ℕ → Option EntrySeen) → List ReceiptSeen → Type 0
StandIn entry [] = Unit {0}
StandIn entry (x ∷ all) = (is_same x.entry (entry x.at) ≡ true) × StandIn entry all

-- the entry of a number over all chapters
abbrev under : List Journal → ℕ → Option EntrySeen
under js at = slice_get (all_entries js) (at - first_of js)

-- the receipts of notes that agree
record Receipts (js : List Journal) (low : ℕ) (all : List ReceiptSeen) : Type 0 where
  up : Rising low all
  stand : StandIn (under js) all

agreed : (js : List Journal) (low : ℕ) (notes : List NoteSeen) → agrees js low notes ≡ true → Receipts js low (receipts notes)
agreed js low [] is = record { up = tt; stand = tt }
agreed js low (Added at e ∷ notes) is =
    let here = and_parts (nat_le low at && stands js at e) (agrees js (at + 1) notes) is in
    let this = and_parts (nat_le low at) (stands js at e) here.0 in
    let there = and_parts (nat_le (first_of js) at) (is_same e (slice_get (all_entries js) (at - first_of js))) this.1 in
    let rest = agreed js (at + 1) notes here.1 in
    record { up = (leb-true low at this.0, rest.up); stand = (there.1, rest.stand) }
agreed js low (note ∷ notes) is = agreed js low notes (and_parts (fits_between js low (next_at (last_end 0 js) notes) note) (agrees js low notes) is).1

having_other : (x : ReceiptSeen) (all : List ReceiptSeen) (k : ℕ) → x.at ≢ k → having all k ≡ 0 → having (x ∷ all) k ≡ 0
having_other x all k other none = sum_by-cons (λ (y : ReceiptSeen). cond (y.at == k) 1 0) x all ∙ ap (λ b. cond b 1 0 + having all k) (ne_eqb x.at k other)
    ∙ (let same : 0 + having all k ≡ having all k = omega arith in same) ∙ none

having_before : (m : ℕ) (all : List ReceiptSeen) (k : ℕ) → Rising m all → k < m → having all k ≡ 0
having_before m [] k up lt = refl
having_before m (x ∷ all) k up lt =
    let first = up.0 in
    having_other x all k (λ e. omega (arith, first, lt, e)) (having_before (x.at + 1) all k up.1 (omega (arith, first, lt)))

-- each entry that gives something out has a receipt
abbrev Told : ℕ → List EntrySeen → ℕ → List ReceiptSeen → Type 0
Told r h low all = (k : ℕ) (e : EntrySeen) → slice_get h k ≡ Some e → is_out e r ≡ true → having all (low + k) ≢ 0

told_next : (r : ℕ) (e : EntrySeen) (h : List EntrySeen) (low : ℕ) (all : List ReceiptSeen) → Told r (e ∷ h) low all → Told r h (low + 1) all
told_next r e h low all told k f at out none = told (suc k) f at out (let next : low + suc k ≡ low + 1 + k = omega arith in ap (having all) next ∙ none)

told_past : (r : ℕ) (e : EntrySeen) (h : List EntrySeen) (low : ℕ) (x : ReceiptSeen) (all : List ReceiptSeen) → x.at ≡ low → Told r (e ∷ h) low (x ∷ all)
    → Told r h (low + 1) all
told_past r e h low x all here told k f at out none =
    told (suc k) f at out (having_other x all (low + suc k) (λ same. omega (arith, here, same)) (let next : low + suc k ≡ low + 1 + k = omega arith in
    ap (having all) next ∙ none))

not_out : (r : ℕ) (e : EntrySeen) (h : List EntrySeen) (low : ℕ) (all : List ReceiptSeen) → Told r (e ∷ h) low all → having all low ≡ 0 → is_out e r ≡ false
not_out r e h low all told none = false_from_ne_true (is_out e r)
    (λ out. told 0 e refl out (let here : low + 0 ≡ low = omega arith in ap (having all) here ∙ none))

tells_next : (entry : ℕ → Option EntrySeen) (e : EntrySeen) (h : List EntrySeen) (low : ℕ) → ((k : ℕ) → entry (low + k) ≡ slice_get (e ∷ h) k)
    → (k : ℕ) → entry (low + 1 + k) ≡ slice_get h k
tells_next entry e h low tells k = let same : low + 1 + k ≡ low + suc k = omega arith in ap entry same ∙ tells (suc k)

-- its receipts tell of the same releases as the entries do, which have the numbers from low on
one_tells : (r : ℕ) (entry : ℕ → Option EntrySeen) (h : List EntrySeen) (low : ℕ) (all : List ReceiptSeen) → ((k : ℕ) → entry (low + k) ≡ slice_get h k)
    → Rising low all → StandIn entry all → Told r h low all → are_same (given_by all r) (released h r) ≡ true
one_tells r entry [] low [] tells up is told = refl
one_tells r entry [] low (x ∷ all) tells up is told =
    let first = up.0 in
    let place : x.at ≡ low + (x.at - low) = omega (arith, first) in
    absurd (false≢true (sym (ap (λ o. is_same x.entry o) (ap entry place ∙ tells (x.at - low))) ∙ is.0))
one_tells r entry (e ∷ h) low [] tells up is told =
    subst (λ l. are_same [] l ≡ true) (sym (calm e h r (not_out r e h low [] told refl)))
    (one_tells r entry h (low + 1) [] (tells_next entry e h low tells) tt tt (told_next r e h low [] told))
one_tells r entry (e ∷ h) low (x ∷ all) tells up is told = by (λ on t. one_tells r entry h (low + 1) all (tells_next entry e h low tells) on is.1 t)
    (λ on t. one_tells r entry h (low + 1) (x ∷ all) (tells_next entry e h low tells) on is t) (cases_eq x.at low)
  where
    by : (Rising (low + 1) all → Told r h (low + 1) all → are_same (given_by all r) (released h r) ≡ true)
        → (Rising (low + 1) (x ∷ all) → Told r h (low + 1) (x ∷ all) → are_same (given_by (x ∷ all) r) (released h r) ≡ true)
        → (x.at ≡ low) ⊎ (x.at ≢ low) → are_same (given_by (x ∷ all) r) (released (e ∷ h) r) ≡ true
    by past stays (inl here) =
        let place : x.at ≡ low + 0 = omega (arith, here) in
        let same : same_entry x.entry e ≡ true = subst (λ o. is_same x.entry o ≡ true) (ap entry place ∙ tells 0) is.0 in
        heads x.entry e (map entry_of all) h r same (past (subst (λ m. Rising (m + 1) all) here up.1) (told_past r e h low x all here told))
    by past stays (inr other) =
        let above = up.0 in
        let later : low + 1 ≤ x.at = omega (arith, above, other) in
        let none = having_before (low + 1) (x ∷ all) low (later, up.1) (omega arith) in
        subst (λ l. are_same (given_by (x ∷ all) r) l ≡ true) (sym (calm e h r (not_out r e h low (x ∷ all) told none)))
        (stays (later, up.1) (told_next r e h low (x ∷ all) told))

-- ---- the other passes

none_told : (r n : ℕ) (entry : ℕ → Option EntrySeen) (e : EntrySeen) (all : List ReceiptSeen) → entry n ≡ Some e → is_out e r ≡ true → StandIn entry all
    → given_by all r ≡ [] → having all n ≡ 0
none_told r n entry e [] at out is none = refl
none_told r n entry e (x ∷ all) at out is none = by (λ rest. none_told r n entry e all at out is.1 rest) (is_out x.entry r) refl
  where
    kind : x.at ≡ n → is_out x.entry r ≡ is_out e r
    kind same = same_kind x.entry e r (subst (λ o. is_same x.entry o ≡ true) (ap entry same ∙ at) is.0)

    by : (given_by all r ≡ [] → having all n ≡ 0) → (b : Bool) → is_out x.entry r ≡ b → having (x ∷ all) n ≡ 0
    by rest true told = absurd (out_some x.entry (map entry_of all) r told none)
    by rest false quiet = having_other x all n (λ same. false≢true (sym quiet ∙ kind same ∙ out))
        (rest (sym (calm x.entry (map entry_of all) r quiet) ∙ none))

having-append : (xs ys : List ReceiptSeen) (k : ℕ) → having (xs ++ ys) k ≡ having xs k + having ys k
having-append xs ys k = sum_by-append (λ (y : ReceiptSeen). cond (y.at == k) 1 0) xs ys

others_quiet : (js : List Journal) (since r n : ℕ) (e : EntrySeen) (passes : List (List NoteSeen)) → under js n ≡ Some e → is_out e r ≡ true
    → list_all (agrees js since) passes ≡ true → NoneGiven r passes → having (flat_map receipts passes) n ≡ 0
others_quiet js since r n e [] at out each none = refl
others_quiet js since r n e (notes ∷ passes) at out each none =
    let both = and_parts (agrees js since notes) (list_all (agrees js since) passes) each in
    let here = none_told r n (under js) e (receipts notes) at out (agreed js since notes both.0).stand none.0 in
    let rest = others_quiet js since r n e passes at out both.1 none.1 in
    let sum = having-append (receipts notes) (flat_map receipts passes) n in
    omega (arith, here, rest, sum)

-- ---- all passes

having_all : (before after : List (List NoteSeen)) (notes : List NoteSeen) (k : ℕ)
    → having (flat_map receipts (before ++ notes ∷ after)) k ≡ having
    (flat_map receipts before) k + (having (receipts notes) k + having (flat_map receipts after) k)
having_all before after notes k =
    ap (λ l. having l k) (flat_map-append receipts before (notes ∷ after)) ∙ having-append (flat_map receipts before) (flat_map receipts (notes ∷ after)) k
    ∙ ap (λ n. having (flat_map receipts before) k + n) (having-append (receipts notes) (flat_map receipts after) k)

all_at : (test : ℕ → Bool) (since n p : ℕ) → p < n → list_all test (range_with_len since n) ≡ true → test (since + p) ≡ true
all_at test since n p lt is =
    true_from_ne_false (test (since + p)) (λ fails. false≢true (sym (list_all_at test (range_with_len since n) p 0
    (omega (arith, lt, length-range_with_len since n)) (ap test (get_or-range_with_len since n p 0 lt) ∙ fails)) ∙ is))

get_drop : (d k : ℕ) (h : List EntrySeen) → slice_get (drop d h) k ≡ slice_get h (d + k)
get_drop d k h = grind (arith, common_steps, gets)

-- where one pass alone has receipts of what was given out for a receiver, it has them of all of it, in order
pub one_courier : (js : List Journal) (since r : ℕ) (before after : List (List NoteSeen)) (notes : List NoteSeen) → Settled js since (before ++ notes ∷ after)
    → NoneGiven r before → NoneGiven r after
    → are_same (given_out notes r) (released (drop (since - first_of js) (all_entries js)) r) ≡ true
one_courier js since r before after notes settled first last =
    one_tells r (under js) (drop d (all_entries js)) since (receipts notes) tells own.up own.stand told
  where
    d : ℕ
    d = since - first_of js

    le : first_of js ≤ since
    le = leb-true (first_of js) since settled.from

    tells : (k : ℕ) → under js (since + k) ≡ slice_get (drop d (all_entries js)) k
    tells k =
        let place : since + k - first_of js ≡ d + k = omega (arith, le) in
        ap (slice_get (all_entries js)) place ∙ sym (get_drop d k (all_entries js))

    each : (list_all (agrees js since) before ≡ true) × (list_all (agrees js since) (notes ∷ after) ≡ true)
    each = and_parts _ _ (sym (list_all-append (agrees js since) before (notes ∷ after)) ∙ settled.each)

    mine : (agrees js since notes ≡ true) × (list_all (agrees js since) after ≡ true)
    mine = and_parts (agrees js since notes) (list_all (agrees js since) after) each.1

    own : Receipts js since (receipts notes)
    own = agreed js since notes mine.0

    told : Told r (drop d (all_entries js)) since (receipts notes)
    told k e at out none =
        let there : under js (since + k) ≡ Some e = tells k ∙ at in
        let within = slice_get_within (all_entries js) (since + k - first_of js) e there in
        let sum = ends_all js settled.follow in
        let b = others_quiet js since r (since + k) e before there out each.0 first in
        let a = others_quiet js since r (since + k) e after there out mine.1 last in
        let all = having_all before after notes (since + k) in
        let one = eqb-true (having (flat_map receipts (before ++ notes ∷ after)) (since + k)) 1
        (all_at (λ q. having (flat_map receipts (before ++ notes ∷ after)) q == 1) since (last_end 0 js - since) k
        (omega (arith, within, sum, le)) settled.all) in
        omega (arith, all, one, b, a, none)
