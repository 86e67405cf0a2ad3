-- What closing a journal leaves.
use Rattle.std.specs.Prelude.{◌≡◌, true, false, Option, None, Some, Result, MatchResult, option_map}
use Rattle.std.specs.declared.alloc.Global.{Global}
use Rattle.std.specs.declared.vec.Vec.{Vec}
use Rattle.gw_gate.specs.declared.chapter.Start as chapter
use Rattle.gw_gate.specs.declared.event.Entry.{Entry}
use Rattle.gw_gate.specs.Journal.{Journal, from, start_after}
use Rattle.gw_gate.specs.Chapters.{is_pending}
use Rattle.gw_gate.specs.Entries.{start_seen, entries_seen}

-- a journal that was closed, as it lies in memory
abbrev pub parts_seen : chapter.Start × Vec Entry Global → Journal
parts_seen p = record { start = start_seen p.0; entries = entries_seen p.1.items }

-- the journal that was closed, if it was, and the one that is open
abbrev pub CutTo : Journal → Option Journal → Journal → Type 0
CutTo old None new = (is_pending old ≡ true) × (new ≡ old)
CutTo old (Some chapter) new = (is_pending old ≡ false) × (chapter ≡ old) × (new ≡ from (start_after old))

abbrev pub Closes : {E : Type 0} → Journal → Result (Option (chapter.Start × Vec Entry Global)) E → Journal → Type 0
Closes old result new = MatchResult result (λ o. CutTo old (option_map parts_seen o) new) (λ e. (is_pending old ≡ false) × (new ≡ old))
