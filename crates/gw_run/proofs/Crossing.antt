-- A locked gate may be sent to threads and shared by them, and what a pass leaves may be sent back.
use denote.RattleType.{RattleType}
use denote.Param.Send.{IsSend, IsSync, sendable}
use Rattle.std.proofs.Crossing.{crosses}
use Rattle.std.specs.declared.sync.ledger.Ledger as ledger
use Rattle.std.proofs.sync.ledger.Book.TheSendSync as book
use Rattle.std.proofs.sync.ledger.Share.TheSendSync as share
use Rattle.gw_plan.proofs.Crossing.{plans_cross}
use Rattle.gw_gate.proofs.Crossing.{Entry-send, Gate-send}
use Rattle.gw_crew.proofs.door.Phase.TheSendSync as phase
use Rattle.gw_crew.specs.contracts.note.Receipt as Receipt
use Rattle.gw_crew.specs.contracts.note.Note as Note
use Rattle.gw_run.specs.contracts.locked.Locked as Locked
use Rattle.gw_run.specs.contracts.locked.LockedGate as LockedGate
use Rattle.gw_run.specs.contracts.pass.Receipts as Receipts

Locked-send : (L : RattleType) (g : ledger.Ghosts L.Denot) → IsSend (Locked.the_field L g).row
Locked-send L g = search (Gate-send, book.the_send, phase.the_field_send, crosses, sendable) depth 60 fits 50000

pub LockedGate-sync : (L : RattleType) (g : ledger.Ghosts L.Denot) → IsSync (LockedGate.the_field L g).row
LockedGate-sync L g = search (Locked-send, crosses, sendable) depth 60 fits 50000

-- ---- what a pass leaves

Receipt-send : IsSend (Receipt.the_field).row
Receipt-send = search (Entry-send, sendable) depth 60 fits 50000

Note-send : IsSend (Note.the_field).row
Note-send = search (Receipt-send, plans_cross, crosses, sendable) depth 60 fits 50000

pub Receipts-send : (L : RattleType) (g : ledger.Ghosts L.Denot) → IsSend (Receipts.the_field L g).row
Receipts-send L g = search (Note-send, share.the_send, crosses, sendable) depth 60 fits 50000
