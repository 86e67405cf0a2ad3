-- A message that was routed by a plan is routed by the plan in force.
use Rattle.std.proofs.Common.{◌≡◌, ℕ, List, ◌++◌, Some, slice_get, sym, ◌∙◌, ap, subst}
use Rattle.std.proofs.lemmas.List.{map-append}
use mathlib.Core.List.{IsPrefix}
use Rattle.gw_due.specs.Events.{Planned, Accepted}
use Rattle.gw_due.specs.Due.{Name, names, plan}
use Rattle.gw_due.specs.Says.{IsPlanAt, Says}
use Rattle.gw_due.specs.State.{State}
use Rattle.gw_due.specs.Spelling.{Entry}
use Rattle.gw_due.proofs.Stating.{stands}
use Rattle.gw_journal.specs.declared.event.Event as happened
use Rattle.gw_journal.specs.Logs.{AreFaithful, log_in}
use Rattle.gw_journal.proofs.Logging.{log_later}
use Rattle.gw_ledger.specs.Ledgers.{IsInState, IsSeenIn, Spells, events_of}
use Rattle.gw_ledger.specs.Finding.{InJournal}
use Rattle.gw_ledger.specs.Accepting.{IsLook, IsRouted, LookState}
use Rattle.gw_ledger.proofs.Ledging.{faithful_part, front_spelled}
use Rattle.gw_ledger.proofs.Passing.{get_front}

-- where the state says that a plan is in force, it stands there
pub look_now : (Routes : (names : List Name) (plan to bytes : List ℕ) → Type 0) (before : List (List ℕ)) (history : List happened.Event) (s : State) (place : ℕ)
    → s.plan ≡ Some place → IsInState Routes (AreFaithful before history) (log_in before history).records s
    → IsLook before (record { place = place; history = history })
look_now Routes before history s place at state faithful entries spells =
    let log = events_of entries in
    let says : Says log s = subst (Says log) (sym (state.is entries spells)) (stands Routes log (state.lawful faithful entries spells)).says in
    subst (λ p. IsPlanAt p log) at says.plan

pub seen_accepted : (Routes : (names : List Name) (plan to bytes : List ℕ) → Type 0) (before : List (List ℕ)) (look : LookState) (history : List happened.Event)
    (s : State) (number : ℕ) (to bytes : List ℕ) → IsLook before look → IsPrefix look.history history → s.plan ≡ Some look.place
    → InJournal (IsRouted Routes look.place to bytes) before look.history
    → IsInState Routes (AreFaithful before history) (log_in before history).records s
    → IsSeenIn Routes (AreFaithful before history) (log_in before history).records (Accepted number to bytes)
seen_accepted Routes before look history s number to bytes is p at routed state entries spells faithful =
    let now = look_now Routes before history s look.place at state faithful entries spells in
    let later = log_later before look.history history p in
    let cut = front_spelled (log_in before look.history).records later.more entries (subst (λ rs. Spells rs entries) later.records spells) in
    let l = events_of cut.front in
    let more = events_of cut.rest in
    let whole : events_of entries ≡ l ++ more = ap events_of cut.is ∙ map-append (λ (e : Entry). e.event) cut.front cut.rest in
    let seen = faithful_part before look.history history p faithful in
    let there = is seen cut.front cut.spells in
    let stays : slice_get (events_of entries) look.place ≡ Some (Planned (plan l)) = ap (λ log. slice_get log look.place) whole ∙ get_front l more look.place (Planned (plan l)) there in
    let text : plan l ≡ plan (events_of entries) = cc (now, stays) in
    subst (λ log. Routes (names log) (plan (events_of entries)) to bytes) (sym whole)
    (subst (λ t. Routes (names (l ++ more)) t to bytes) text (routed seen cut.front cut.spells (plan l) more there))
