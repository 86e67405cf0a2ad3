-- What a start makes of a checkpoint and the records behind it.
use Rattle.std.proofs.Common.{◌≡◌, ℕ, suc, ◌+◌, ◌<◌, List, [], ◌∷◌, ◌++◌, length, map, take, get_or, refl, ap, sym, ◌∙◌, subst, append_assoc, arith}
use Rattle.std.proofs.Math.Seq.{take-suc}
use Rattle.std.proofs.lemmas.List.{append-nil, map-append}
use Rattle.std.proofs.lemmas.List.Sums.{fold-append}
use Rattle.gw_due.specs.Events.{Event}
use Rattle.gw_due.specs.Spelling.{Entry, spelled}
use Rattle.gw_due.specs.State.{State, after, nothing, state_of}
use Rattle.gw_due.specs.Checkpoint.{checkpoint, StateFits}
use Rattle.gw_due.specs.Starting.{LeadsTo, none, more, Starts, IsStateOf}
use Rattle.gw_due.specs.own.Steps.{MovesBy}
use Rattle.gw_due.proofs.StateForms.{one_state}

event_of : Entry → Event
event_of e = e.event

-- one entry more
longer : (before : List Event) (records : List (List ℕ)) (s : State) (e : Entry) → IsStateOf before records s
    → IsStateOf before (records ++ spelled e ∷ []) (after s e.event)
unfolding event_of
longer before records s e known = record {
  entries = known.entries ++ e ∷ [];
  are = ap (λ l. l ++ spelled e ∷ []) known.are ∙ sym (map-append spelled known.entries (e ∷ []));
  is = ap (λ t. after t e.event) known.is
      ∙ sym (fold-append after nothing (before ++ map event_of known.entries) (e.event ∷ []))
      ∙ ap state_of (append_assoc before (map event_of known.entries) (e.event ∷ []) ∙ ap (λ l. before ++ l) (sym (map-append event_of known.entries (e ∷ []))));
}

pub leads : (before : List Event) (records : List (List ℕ)) (s : State) → LeadsTo (state_of before) records s → IsStateOf before records s
leads before [] s none = record { entries = []; are = refl; is = ap state_of (sym (append-nil before)) }
leads before all t (more records s e on fits allowed) = longer before records s e (leads before records s on)

pub tells : (before : List Event) (bytes : List ℕ) (records : List (List ℕ)) (s : State) → StateFits (state_of before)
    → bytes ≡ checkpoint (state_of before) → Starts bytes records s → IsStateOf before records s
tells before bytes records s fits is starts =
    leads before records s (subst (λ first. LeadsTo first records s) (one_state starts.first (state_of before) starts.fits fits (sym starts.spells ∙ is)) starts.on)

-- a record more
further : (bytes r : List ℕ) (front : List (List ℕ)) (old new : State) → Starts bytes front old → MovesBy r old new → Starts bytes (front ++ r ∷ []) new
further bytes r front old new starts moves = record {
  first = starts.first;
  fits = starts.fits;
  spells = starts.spells;
  on = subst (λ x. LeadsTo starts.first (front ++ x ∷ []) new) (sym moves.spells)
      (subst (λ t. LeadsTo starts.first (front ++ spelled moves.entry ∷ []) t) (sym moves.is) (more front old moves.entry starts.on moves.fits moves.allowed));
}

pub goes_on : (bytes r : List ℕ) (all : List (List ℕ)) (at : ℕ) (old new : State) → at < length all → get_or all at [] ≡ r
    → Starts bytes (take at all) old → MovesBy r old new → Starts bytes (take (at + 1) all) new
goes_on bytes r all at old new within is starts moves =
    let next : suc at ≡ at + 1 = omega arith in
    subst (λ rs. Starts bytes rs new) (sym (take-suc all at [] within) ∙ ap (λ n. take n all) next) (further bytes (get_or all at []) (take at all) old new starts (subst (λ x. MovesBy x old new) (sym is) moves))
