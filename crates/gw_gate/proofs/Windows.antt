-- Desks seen without where their values lie.
use Rattle.std.proofs.Common.{◌≡◌, ◌==◌, ℕ, zero, suc, ◌-◌, ◌<◌, ◌≤◌, nat_lt, true, false, if◌then◌else◌, Bool, List, [], ◌∷◌, length, map, get_or, slice_get, slice_set, Option, None, Some, option_map, ◌⊎◌, inl, inr, refl, sym, ap, ◌∙◌, arith}
use Rattle.std.proofs.lemmas.Grind.{common_steps}
use Rattle.std.proofs.lemmas.Option.{slice_get-map, gets}
use Rattle.std.specs.declared.alloc.Global.{Global}
use Rattle.std.specs.declared.sync.Arc.{Arc}
use Rattle.gw_reorder.specs.State.{DeskState, SameButRoom, nothing_due}
use Rattle.gw_reorder.specs.Calls.{place_of, status_of, status_at, slot_status, after_holding, after_bringing, kept_with}
use Rattle.gw_reorder.specs.declared.desk.Status.{Status}
use Rattle.gw_reorder.specs.declared.desk.Status.TheVariants.{Waiting, Repeat, Stranger}
use Rattle.std.proofs.lemmas.Bool.{cases_lt}
use Rattle.std.specs.Prelude.{◌||◌}
use Rattle.std.specs.List.{list_any}
use Rattle.gw_reorder.proofs.Places.{equal_numbers}
use Rattle.gw_gate.specs.Parts.{TranslatedSeen}
use Rattle.gw_gate.specs.Seen.{Translated}
use Rattle.gw_gate.specs.own.Desks.{Held, value_seen, desk_seen, desk_at}

abbrev slot_seen : Option (Arc Translated Global) → Option TranslatedSeen
slot_seen o = option_map value_seen o

slot_same : (o : Option (Option (Arc Translated Global))) → slot_status (option_map slot_seen o) ≡ slot_status o
slot_same None = refl
slot_same (Some None) = refl
slot_same (Some (Some x)) = refl

status_place : (s : Held) (o : Option ℕ) → status_at (desk_seen s) o ≡ status_at s o
status_place s None = refl
status_place s (Some place) =
    let e : slot_status (slice_get (map slot_seen s.kept) (place - s.released)) ≡ slot_status (slice_get s.kept (place - s.released)) =
    ap slot_status (slice_get-map slot_seen s.kept (place - s.released)) ∙ slot_same (slice_get s.kept (place - s.released)) in
    ap (λ x. if (nat_lt place s.released) then Repeat else x) e

pub status_seen : (s : Held) (n : ℕ) → status_of (desk_seen s) n ≡ status_of s n
status_seen s n = status_place s (place_of s n)

map_set : {A B : Type 0} (f : A → B) (xs : List A) (i : ℕ) (x : A) → map f (slice_set xs i x) ≡ slice_set (map f xs) i (f x)
map_set f [] i x = refl
map_set f (y ∷ xs) zero x = refl
map_set f (y ∷ xs) (suc i) x = ap (λ l. f y ∷ l) (map_set f xs i x)

kept_seen : (s : Held) (o : Option ℕ) (x : Arc Translated Global) → map slot_seen (kept_with s o x) ≡ kept_with (desk_seen s) o (value_seen x)
kept_seen s None x = refl
kept_seen s (Some place) x = map_set slot_seen s.kept (place - s.released) (Some x)

bring_seen : (s : Held) (told : Status) (n : ℕ) (x : Arc Translated Global) → desk_seen (after_bringing s told n x) ≡ after_bringing (desk_seen s) told n (value_seen x)
bring_seen s Waiting n x = ap (λ l. record (desk_seen s) { kept = l }) (kept_seen s (place_of s n) x)
bring_seen s Repeat n x = refl
bring_seen s Stranger n x = refl

pub hold_seen : (s : Held) (n : ℕ) (x : Arc Translated Global) → desk_seen (after_holding s n x) ≡ after_holding (desk_seen s) n (value_seen x)
hold_seen s n x = bring_seen s (status_of s n) n x ∙ ap (λ told. after_bringing (desk_seen s) told n (value_seen x)) (sym (status_seen s n))

-- ---- among the others

pub at_none : (ds : List Held) (r : ℕ) → length ds ≤ r → desk_at ds r ≡ nothing_due
at_none ds r past = let e : get_or ds r nothing_due ≡ nothing_due = grind (arith, common_steps, gets) in ap desk_seen e

pub set_at : (ds : List Held) (r : ℕ) (s : Held) → r < length ds → desk_at (slice_set ds r s) r ≡ desk_seen s
set_at ds r s within = let e : get_or (slice_set ds r s) r nothing_due ≡ s = grind (arith, common_steps, gets) in ap desk_seen e

pub same_is : (s t : DeskState TranslatedSeen) → t ≡ s → SameButRoom s t
same_is s t e = record { due = ap (λ x. x.due) e; released = ap (λ x. x.released) e; kept = ap (λ x. x.kept) e }

-- a number waits only at a desk that is there
pub inside : (ds : List Held) (r n : ℕ) → status_of (desk_at ds r) n ≡ Waiting → r < length ds
inside ds r n waits = by (cases_lt r (length ds))
  where
    by : (r < length ds) ⊎ (length ds ≤ r) → r < length ds
    by (inl within) = within
    by (inr past) = let e : Stranger ≡ Waiting = sym (ap (λ s. status_of s n) (at_none ds r past)) ∙ waits in absurd (cc)

-- what holds of the receivers at each place of a route holds of those to which it goes
pub at_places : (P : ℕ → Type 0) (xs : List ℕ) → ((k r : ℕ) → k < length xs → slice_get xs k ≡ Some r → P r) → (r : ℕ) → list_any (λ to. to == r) xs ≡ true → P r
at_places P [] each r goes = absurd (cc)
at_places P (x ∷ xs) each r goes = by (λ g. at_places P xs (λ k q lt at. each (suc k) q (omega arith) at) r g) (x == r) refl goes
  where
    by : (list_any (λ to. to == r) xs ≡ true → P r) → (b : Bool) → (x == r) ≡ b → (b || list_any (λ to. to == r) xs) ≡ true → P r
    by later true e g = each 0 r (omega arith) (ap Some (equal_numbers x r e))
    by later false e g = later g

pub held_here : (ds : List Held) (r n : ℕ) (x : Arc Translated Global) (s t : Held) → r < length ds → t ≡ after_holding (get_or ds r s) n x → desk_at (slice_set ds r t) r ≡ after_holding (desk_at ds r) n (value_seen x)
held_here ds r n x s t within is =
    let there : get_or ds r s ≡ get_or ds r nothing_due = grind (arith, common_steps, gets) in
    set_at ds r t within ∙ ap desk_seen is ∙ hold_seen (get_or ds r s) n x ∙ ap (λ d. after_holding (desk_seen d) n (value_seen x)) there
