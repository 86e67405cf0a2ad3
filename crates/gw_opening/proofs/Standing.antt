-- What is left stands in the files.
use Rattle.std.proofs.Common.{◌≡◌, ℕ, ◌≤◌, List, ◌++◌, map, take, drop, Some, slice_get, refl, ap, sym, ◌∙◌, subst, arith, take-append-drop}
use Rattle.std.proofs.lemmas.List.{map-append}
use Rattle.gw_due.specs.Due.{Name, left}
use Rattle.gw_due.specs.Lawful.{Lawful}
use Rattle.gw_due.specs.Spelling.{Entry, spelled}
use Rattle.gw_due.specs.State.{state_of}
use Rattle.gw_log.specs.Disk.{Files}
use Rattle.gw_journal.specs.Logs.{IsIn}
use Rattle.gw_journal.specs.Stored.{StandsIn}
use Rattle.gw_journal.proofs.Running.{stands_needed}
use Rattle.gw_ledger.specs.Ledgers.{Spares, Spells, Tells, events_of, needed_from}
use Rattle.gw_ledger.proofs.Ledging.{front_spelled}
use Rattle.gw_ledger.proofs.Needing.{from_at, left_later}
use Rattle.gw_opening.specs.Folders.{IsGatewayLog}

pub left_stands : (Routes : (names : List Name) (plan to bytes : List ℕ) → Type 0) (id : ℕ) (files : Files) (entries : List Entry)
    → IsGatewayLog Routes id files entries → (receiver n place : ℕ) (bytes : List ℕ) → slice_get (left receiver (events_of entries)) n ≡ Some place
    → IsIn place bytes (map spelled entries) → StandsIn id place bytes files
left_stands Routes id files entries is receiver n place bytes at here =
    let all : List (List ℕ) = map spelled entries in
    let were = is.kept.covers.spared in
    let keep : ℕ = is.kept.head.keep in
    let spells : Spells all entries = record { are = refl; fit = is.fit } in
    let whole : all ≡ take were.count all ++ drop were.count all = sym (take-append-drop were.count all) in
    let cut = front_spelled (take were.count all) (drop were.count all) entries (subst (λ rs. Spells rs entries) whole spells) in
    let split : events_of entries ≡ events_of cut.front ++ events_of cut.rest = ap events_of cut.is ∙ map-append (λ (e : Entry). e.event) cut.front cut.rest in
    let needed : keep ≤ needed_from (state_of (events_of cut.front)) = were.spared cut.front cut.spells in
    let are = left_later Routes (events_of cut.front) (events_of cut.rest) (subst (Lawful Routes) split is.lawful) receiver in
    let there : slice_get (left receiver (events_of cut.front ++ events_of cut.rest)) n ≡ Some place = subst (λ l. slice_get (left receiver l) n ≡ Some place) split at in
    let order = from_at (needed_from (state_of (events_of cut.front))) n place (left receiver (events_of cut.front ++ events_of cut.rest)) are there in
    stands_needed Tells Spares id place bytes files all is.kept (omega (arith, needed, order)) here
