-- The log of a gateway isn't refused.
use Rattle.std.proofs.Common.{◌≡◌, true, ℕ, suc, ◌<◌, List, [], ◌∷◌, ◌++◌, length, map, take, drop, get_or, Option, Some, None, refl, ap, sym, ◌∙◌, subst, append_assoc, arith}
use Rattle.std.proofs.Math.Seq.{split_at, take-append_seam, drop-append_seam}
use Rattle.std.specs.Prelude.{IfSome}
use Rattle.std.specs.List.{AllByRecursion}
use Rattle.std.proofs.lemmas.List.{append_cancel_left, get_or-map, length-append, length-map, map-append, take-map}
use Rattle.std.proofs.lemmas.List.Sums.{fold-append}
use Rattle.gw_due.specs.Due.{Name, last, last_by, margin, margin_by}
use Rattle.gw_due.specs.Events.{Event, Planned, Accepted, Again, Passed, Named, Margin, Retired}
use Rattle.gw_due.specs.Lawful.{Lawful, no_event, one_more, MayFollow}
use Rattle.gw_due.specs.Spelling.{Entry, Fits, spelled}
use Rattle.gw_due.specs.Starting.{StopsAt}
use Rattle.gw_due.specs.State.{State, allows, state_of}
use Rattle.gw_due.proofs.Deciding.{decides}
use Rattle.gw_due.proofs.Stating.{stands}
use Rattle.gw_due.specs.declared.fault.StartFault.TheVariants.{Checkpoint, Record, Memory as StartMemory, Full as StartFull}
use Rattle.gw_journal.specs.Stored.{EndsWith, LastState, TellsLast}
use Rattle.gw_log.specs.Chain.{Head, IsLog, IsNoLog, Origin}
use Rattle.gw_log.specs.Disk.{Files}
use Rattle.gw_log.specs.declared.fault.LogFault.{LogFault}
use Rattle.gw_log.specs.declared.fault.LogFault.TheVariants.{Memory as LogMemory, Device, Full as LogFull, TooLong, Empty, Taken, Missing, Damaged}
use Rattle.gw_log.proofs.Logs.{before_le}
use Rattle.gw_log.proofs.Placing.{some_there}
use Rattle.gw_ledger.specs.Ledgers.{Spares, Tells, events_of}
use Rattle.gw_ledger.proofs.Ledging.{front_spelled, lawful_part}
use Rattle.gw_opening.specs.Begun.{IsSound}
use Rattle.gw_opening.specs.Folders.{HasNoFile, IsGatewayLog}
use Rattle.gw_opening.specs.declared.fault.OpenFault.{OpenFault}
use Rattle.gw_opening.specs.declared.fault.OpenFault.TheVariants.{Log, Start, Numbers}
use Rattle.gw_opening.specs.own.Alike.{IsCause}
use Rattle.gw_opening.proofs.Reading.{first_is}

module _ (Routes : (names : List Name) (plan to bytes : List ℕ) → Type 0) where
  -- ---- numbers are below the margin

  below_then : (o : Option ℕ) (m : ℕ) (e : Event) (log : List Event) → IfSome o (λ n. n < m) → o ≡ last log → m ≡ margin log → MayFollow Routes log e
      → IfSome (last_by o e) (λ n. n < margin_by m e)
  below_then o m (Planned text) log is last_is margin_is may = is
  below_then o m (Accepted number to bytes) log is last_is margin_is may = let under = may.below in omega (arith, under, margin_is)
  below_then o m (Again r place) log is last_is margin_is may = is
  below_then o m (Passed r place how) log is last_is margin_is may = is
  below_then o m (Named r name address) log is last_is margin_is may = is
  below_then None m (Margin number) log is last_is margin_is may = tt
  below_then (Some n) m (Margin number) log is last_is margin_is may = omega (arith, is, margin_is, may)
  below_then o m (Retired segment) log is last_is margin_is may = is

  below : (log : List Event) → Lawful Routes log → IfSome (last log) (λ n. n < margin log)
  below [] no_event = tt
  below _ (one_more log e lawful may) =
      let is = below_then (last log) (margin log) e log (below log lawful) refl refl may in
      let last_is : last (log ++ e ∷ []) ≡ last_by (last log) e = fold-append last_by None log (e ∷ []) in
      let margin_is : margin (log ++ e ∷ []) ≡ margin_by (margin log) e = fold-append margin_by 0 log (e ∷ []) in
      subst (λ o. IfSome o (λ n. n < margin (log ++ e ∷ []))) (sym last_is) (subst (λ m. IfSome (last_by (last log) e) (λ n. n < m)) (sym margin_is) is)

  pub numbers_below : (entries : List Entry) (s : State) → Lawful Routes (events_of entries) → s ≡ state_of (events_of entries) → IfSome s.last (λ n. n < s.margin)
  numbers_below entries s lawful is =
      let says = (stands Routes (events_of entries) lawful).says in
      subst (λ (s : State). IfSome s.last (λ n. n < s.margin)) (sym is)
      (subst (λ o. IfSome o (λ n. n < (state_of (events_of entries)).margin)) (sym says.last)
      (subst (λ m. IfSome (last (events_of entries)) (λ n. n < m)) (sym says.margin) (below (events_of entries) lawful)))

  -- ---- each record may follow

  may_follow : (log : List Event) (e : Event) (whole : List Event) → Lawful Routes whole → whole ≡ log ++ e ∷ [] → Lawful Routes log × MayFollow Routes log e
  may_follow log e [] no_event is = let size = ap length is in absurd (omega (arith, size, length-append log (e ∷ [])))
  may_follow log e _ (one_more front x lawful may) is =
      let size = ap length is in
      let same : length front ≡ length log = omega (arith, size, length-append front (x ∷ []), length-append log (e ∷ [])) in
      let fronts : front ≡ log = sym (take-append_seam front (x ∷ [])) ∙ ap (λ n. take n (front ++ x ∷ [])) same ∙ ap (take (length log)) is ∙ take-append_seam log (e ∷ []) in
      let lasts : x ∷ [] ≡ e ∷ [] = sym (drop-append_seam front (x ∷ [])) ∙ ap (λ n. drop n (front ++ x ∷ [])) same ∙ ap (drop (length log)) is ∙ drop-append_seam log (e ∷ []) in
      let one : x ≡ e = cc (lasts) in
      (subst (λ l. Lawful Routes l) fronts lawful, subst (λ l. MayFollow Routes l e) fronts (subst (λ y. MayFollow Routes front y) one may))

  all_front : (xs ys : List Entry) → AllByRecursion Fits (xs ++ ys) → AllByRecursion Fits xs × AllByRecursion Fits ys
  all_front [] ys all = (tt, all)
  all_front (x ∷ xs) ys all = let below = all_front xs ys all.1 in ((all.0, below.0), below.1)

  -- a start doesn't stop before a record of such a log
  pub not_stopped : (entries : List Entry) (last_file : LastState) (at : ℕ) → AllByRecursion Fits entries → Lawful Routes (events_of entries)
      → EndsWith Tells (map spelled entries) last_file → StopsAt last_file.checkpoint last_file.records at → at < length last_file.records → ⊥
  not_stopped entries last_file at fit lawful ends stops within =
      let rows = last_file.records in
      let front = front_spelled ends.before rows entries (record { are = sym ends.split; fit = fit }) in
      let back = front.rest in
      let rows_are : rows ≡ map spelled back =
      append_cancel_left ends.before rows (map spelled back)
      (sym ends.split ∙ ap (map spelled) front.is ∙ map-append spelled front.front back ∙ sym (ap (λ l. l ++ map spelled back) front.spells.are)) in
      let count : length rows ≡ length back = ap length rows_are ∙ length-map back spelled in
      let here : Entry = get_or back at (record { time = 0; event = Margin 0 }) in
      let cut : back ≡ take at back ++ here ∷ drop (suc at) back = split_at back at (record { time = 0; event = Margin 0 }) (omega (arith, within, count)) in
      let upto : List Entry = front.front ++ take at back in
      let whole : entries ≡ upto ++ here ∷ drop (suc at) back = front.is ∙ ap (λ l. front.front ++ l) cut ∙ sym (append_assoc front.front (take at back) (here ∷ drop (suc at) back)) in
      let fits = all_front upto (here ∷ drop (suc at) back) (subst (λ l. AllByRecursion Fits l) whole fit) in
      let short : EndsWith Tells (map spelled upto) (record { checkpoint = last_file.checkpoint; records = take at rows }) = record {
        before = ends.before;
        split = map-append spelled front.front (take at back) ∙ ap (λ l. l ++ map spelled (take at back)) (sym front.spells.are)
            ∙ ap (λ l. ends.before ++ l) (sym (take-map spelled at back) ∙ ap (take at) (sym rows_are));
        told = ends.told;
      } in
      let state_is = first_is upto (record { checkpoint = last_file.checkpoint; records = take at rows }) stops.state fits.0 short stops.starts in
      let events : events_of entries ≡ (events_of upto ++ here.event ∷ []) ++ events_of (drop (suc at) back) =
      ap events_of whole ∙ map-append (λ (e : Entry). e.event) upto (here ∷ drop (suc at) back) ∙ sym (append_assoc (events_of upto) (here.event ∷ []) (events_of (drop (suc at) back))) in
      let part = lawful_part Routes (events_of upto ++ here.event ∷ []) (events_of entries) (events_of (drop (suc at) back), sym events) lawful in
      let may = may_follow (events_of upto) here.event (events_of upto ++ here.event ∷ []) part refl in
      let allowed = ((decides Routes (events_of upto) here.event may.0).0 may.1).0 in
      let row : get_or rows at [] ≡ spelled here = ap (λ l. get_or l at []) rows_are
      ∙ get_or-map spelled back at (record { time = 0; event = Margin 0 }) [] (omega (arith, within, count)) in
      stops.there here fits.1.0 row (subst (λ s. allows s here.event ≡ true) (sym state_is) allowed)

  -- ---- no fault speaks against such a log

  pub some_file : (id : ℕ) (files : Files) (from : Origin) (head : Head) (records : List (List ℕ)) → IsLog id files from head records → HasNoFile files → ⊥
  some_file id files from head records log none =
      some_there id files from head records log head.number (before_le id files head from.number from.first from.before log.front log.ended) (omega arith) (none head.number)

  pub log_sound : (id : ℕ) (files : Files) (entries : List Entry) (fault : LogFault) → IsGatewayLog Routes id files entries
      → ((segment at : ℕ) → fault ≡ Damaged segment at → IsNoLog id files) → (fault ≡ Missing → HasNoFile files) → IsSound (Log fault)
  log_sound id files entries (Damaged segment at) is damaged missing = damaged segment at refl is.kept.from is.kept.head is.kept.kept is.kept.log
  log_sound id files entries Missing is damaged missing = some_file id files is.kept.from is.kept.head is.kept.kept is.kept.log (missing refl)
  log_sound id files entries LogMemory is damaged missing = tt
  log_sound id files entries Device is damaged missing = tt
  log_sound id files entries LogFull is damaged missing = tt
  log_sound id files entries TooLong is damaged missing = tt
  log_sound id files entries Empty is damaged missing = tt
  log_sound id files entries Taken is damaged missing = tt

  pub state_sound : (id : ℕ) (files : Files) (entries : List Entry) (last_file : LastState) (fault : OpenFault) → IsGatewayLog Routes id files entries
      → TellsLast Tells Spares id files last_file → IsCause last_file fault → IsSound fault
  state_sound id files entries last_file (Log fault) is tells cause = absurd cause
  state_sound id files entries last_file (Start Checkpoint) is tells cause =
      let ends = tells (map spelled entries) is.kept in
      let front = front_spelled ends.before last_file.records entries (record { are = sym ends.split; fit = is.fit }) in
      let told = ends.told front.front front.spells in
      cause (state_of (events_of front.front)) told.fits told.spells
  state_sound id files entries last_file (Start (Record at)) is tells cause =
      not_stopped entries last_file at is.fit is.lawful (tells (map spelled entries) is.kept) cause.0 cause.1
  state_sound id files entries last_file (Start StartMemory) is tells cause = tt
  state_sound id files entries last_file (Start (StartFull at)) is tells cause = tt
  state_sound id files entries last_file Numbers is tells cause =
      cause.1.1 (numbers_below entries cause.0 is.lawful (first_is entries last_file cause.0 is.fit (tells (map spelled entries) is.kept) cause.1.0))
