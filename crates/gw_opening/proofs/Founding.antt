-- What was opened, by what the folder had.
use Rattle.std.proofs.Common.{◌≡◌, inl, inr, ℕ, List, [], map, Option, None, Some, ap, sym, ◌∙◌, subst}
use Rattle.std.specs.Prelude.{◌<◌, IfNone, IfSome}
use Rattle.std.specs.List.{AllByRecursion}
use Rattle.gw_due.specs.Due.{Name}
use Rattle.gw_due.specs.Lawful.{Lawful, no_event}
use Rattle.gw_due.specs.Spelling.{Entry, Fits, spelled}
use Rattle.gw_due.specs.State.{State, nothing, state_of}
use Rattle.gw_journal.specs.Stored.{Held, IsHeld, IsKept, StoredState, disk_of}
use Rattle.gw_ledger.specs.Ledgers.{Spares, Tells, events_of}
use Rattle.gw_log.specs.Chain.{IsNoLog}
use Rattle.gw_log.specs.Disk.{Files}
use Rattle.gw_log.specs.Opening.{IsOnlyOf}
use Rattle.gw_opening.specs.Begun.{IsBegun}
use Rattle.gw_opening.specs.Folders.{HasNoFile, IsFolder, IsGatewayLog}
use Rattle.gw_opening.specs.own.Alike.{IsStateIn, before_of}
use Rattle.gw_opening.proofs.Alike.{in_state, is_before}
use Rattle.gw_opening.proofs.Denying.{some_file}

-- ---- what was looked at is what the folder had

module _ (f g : Files) (same : f ≡ g) where
  pub none_there : (o : Option ℕ) → o ≡ None → IfNone o ((n : ℕ) → f n ≡ []) → HasNoFile g
  none_there None is none = subst (λ (h : Files). HasNoFile h) same none
  none_there (Some id) is none = absurd (cc (is))

  pub only_there : (o : Option ℕ) (id : ℕ) → o ≡ Some id → IfSome o (λ n. IsOnlyOf n f) → IsOnlyOf id g
  only_there o id is only = subst (λ (h : Files). IsOnlyOf id h) same (subst (λ o. IfSome o (λ n. IsOnlyOf n f)) is only)

  pub some_there : (o : Option ℕ) (id : ℕ) → o ≡ Some id → IfSome o (λ n. HasNoFile f → ⊥) → HasNoFile g → ⊥
  some_there o id is some = subst (λ (h : Files). HasNoFile h → ⊥) same (subst (λ o. IfSome o (λ n. HasNoFile f → ⊥)) is some)

  pub no_log_there : (id : ℕ) → IsNoLog id f → IsNoLog id g
  no_log_there id none = subst (λ (h : Files). IsNoLog id h) same none

  pub state_there : (id : ℕ) (s : State) → IsStateIn id f s → IsStateIn id g s
  state_there id s is = subst (λ (h : Files). IsStateIn id h s) same is

  pub kept_there : (id : ℕ) (all : List (List ℕ)) → IsKept Tells Spares id g all → IsKept Tells Spares id f all
  kept_there id all kept = subst (λ (h : Files). IsKept Tells Spares id h all) (sym same) kept

  pub log_there : (Routes : (names : List Name) (plan to bytes : List ℕ) → Type 0) (id : ℕ) (entries : List Entry) → IsGatewayLog Routes id g entries → IsGatewayLog Routes id f entries
  log_there Routes id entries log = subst (λ (h : Files). IsGatewayLog Routes id h entries) (sym same) log

module _ (Routes : (names : List Name) (plan to bytes : List ℕ) → Type 0) (id : ℕ) (files : Files) (entries : List Entry) where
  fit_so : IsFolder Routes id files entries → AllByRecursion Fits entries
  fit_so (inl log) = log.fit
  fit_so (inr none) = subst (λ es. AllByRecursion Fits es) (sym none.1) tt

  lawful_so : IsFolder Routes id files entries → Lawful Routes (events_of entries)
  lawful_so (inl log) = log.lawful
  lawful_so (inr none) = subst (λ es. Lawful Routes (events_of es)) (sym none.1) no_event

  pub no_log_new : IsGatewayLog Routes id files entries → HasNoFile files → ⊥
  no_log_new log none = some_file Routes id files log.kept.from log.kept.head log.kept.kept log.kept.log none

  no_entry : IsFolder Routes id files entries → HasNoFile files → entries ≡ []
  no_entry (inl log) none = absurd (no_log_new log none)
  no_entry (inr new) none = new.1

  pub sound_of : (found : ℕ) → IsGatewayLog Routes id files entries → IsOnlyOf found files → IsGatewayLog Routes found files entries
  sound_of found log only = subst (λ (n : ℕ). IsGatewayLog Routes n files entries) (only id log.kept.from log.kept.head log.kept.kept log.kept.log) log

  -- the log that was found
  this_log : (found : ℕ) → IsFolder Routes id files entries → IsOnlyOf found files → (HasNoFile files → ⊥) → IsGatewayLog Routes found files entries
  this_log found (inl log) only some = sound_of found log only
  this_log found (inr none) only some = absurd (some none.0)

  module _ {D : Type 0} (honest : D → Type 0) (seen : D → Files) (may_leave : D → Files → Type 0) (stored : StoredState D) (s : State) (folder : IsFolder Routes id files entries) where
    -- ---- a new log

    pub new_found : (honest (disk_of stored) → HasNoFile files) → s ≡ nothing → honest (disk_of stored) → before_of entries s ≡ map spelled entries
    new_found none new did = is_before entries s (new ∙ ap (λ es. state_of (events_of es)) (sym (no_entry folder (none did))))

    pub new_begun : (honest (disk_of stored) → HasNoFile files) → s ≡ nothing → Held Tells Spares honest seen may_leave stored []
        → IsBegun Routes honest seen may_leave (record { stored = stored; state = s; before = before_of entries s })
    new_begun none new held = record {
      held = λ did. subst (λ b. IsHeld Tells Spares seen may_leave stored b) (sym (new_found none new did ∙ ap (map spelled) (no_entry folder (none did)))) (held did);
      state = in_state Routes entries s (fit_so folder) (lawful_so folder) (λ _. new);
      numbers = subst (λ (s : State). IfSome s.last (λ n. n < s.margin)) (sym new) tt;
    }

    -- ---- a log that was there

    module _ (found : ℕ) (only : honest (disk_of stored) → IsOnlyOf found files) (some : honest (disk_of stored) → HasNoFile files → ⊥)
        (is : honest (disk_of stored) → IsStateIn found files s) where
      pub old_found : honest (disk_of stored) → before_of entries s ≡ map spelled entries
      old_found did = let log = this_log found folder (only did) (some did) in is_before entries s (is did entries log.kept log.fit)

      pub old_begun : ((all : List (List ℕ)) → IsKept Tells Spares found files all → Held Tells Spares honest seen may_leave stored all) → (s.next ≡ 0 → s ≡ nothing)
          → IfSome s.last (λ n. n < s.margin) → IsBegun Routes honest seen may_leave (record { stored = stored; state = s; before = before_of entries s })
      old_begun held new numbers = record {
        held = λ did. subst (λ b. IsHeld Tells Spares seen may_leave stored b) (sym (old_found did))
            (held (map spelled entries) (this_log found folder (only did) (some did)).kept did);
        state = in_state Routes entries s (fit_so folder) (lawful_so folder) new;
        numbers = numbers;
      }
