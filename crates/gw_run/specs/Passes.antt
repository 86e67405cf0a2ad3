-- What the passes of a locked gate hold, and what is counted under its lock.
use Rattle.std.specs.Prelude.{◌≡◌, ℕ, ◌+◌, ◌<◌, List, filter_map, length, sum_by}
use Rattle.gw_gate.specs.Headline.{IsTranslated}
use Rattle.gw_gate.specs.Journal.{Journal, end}
use Rattle.gw_gate.specs.Lawful.{IsLawful}
use Rattle.gw_gate.specs.Meaning.{Makes}
use Rattle.gw_gate.specs.Replies.{EventSeen, ReplySeen, reply}
use Rattle.gw_crew.specs.Notes.{NoteSeen, ReceiptSeen, receipt_of}

-- the receipts among notes, in order
abbrev pub receipts : List NoteSeen → List ReceiptSeen
receipts notes = filter_map receipt_of notes

-- a pass: how many parts of the ledger its share has, what its share counts, and its notes
pub record PassSeen : Type 0 where
  pub parts : ℕ
  pub amount : ℕ
  pub notes : List NoteSeen

-- its share counts its receipts
abbrev pub IsCounted : PassSeen → Type 0
IsCounted pass = pass.amount ≡ length (receipts pass.notes)

-- and it has a part of the ledger, so it may count on
pub record MayCount (pass : PassSeen) : Type 0 where
  pub counted : IsCounted pass
  pub part : 0 < pass.parts

-- how many parts of the ledger passes have, and how many receipts
abbrev pub part_count : List PassSeen → ℕ
part_count passes = sum_by (λ pass. pass.parts) passes

abbrev pub receipt_count : List PassSeen → ℕ
receipt_count passes = sum_by (λ pass. length (receipts pass.notes)) passes

-- they have every part of a ledger of this many
pub record HaveAll (parts : ℕ) (passes : List PassSeen) : Type 0 where
  pub some : 0 < length passes
  pub every : part_count passes ≡ parts

-- a gate whose passes have ended, with how many entries were made in all when they began, and how many the book of the ledger has
pub record CountedSeen : Type 0 where
  pub gate : Journal
  pub since : ℕ
  pub total : ℕ

-- since then it got as many entries as the passes have receipts
abbrev pub AreCounted : CountedSeen → List PassSeen → Type 0
AreCounted counted passes = counted.since + receipt_count passes ≡ end counted.gate

-- ---- a step under the lock

-- the reply is the one that a lawful journal gives to the event
pub record IsReplyTo (event : EventSeen) (given : ReplySeen) : Type 0 where
  pub journal : Journal
  pub lawful : IsLawful (IsTranslated Makes) journal
  pub reply_is : given ≡ reply journal event
