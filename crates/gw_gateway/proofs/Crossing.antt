-- An office may be sent to threads.
use denote.RattleType.{RattleType}
use denote.Param.Send.{IsSend, sendable}
use denote.Param.SendFields.{as_row_send}
use Rattle.std.proofs.Crossing.{crosses}
use Rattle.gw_plan.proofs.Crossing.{plans_cross}
use Rattle.gw_journal.specs.declared.book.Naming as naming
use Rattle.gw_journal.specs.declared.storage.Storage as storage
use Rattle.gw_ledger.proofs.ledger.Ledger.TheSendSync as ledger
use Rattle.gw_ledger.proofs.accepting.Look.TheSendSync as look
use Rattle.gw_gateway.specs.contracts.plans.InForce as InForce
use Rattle.gw_gateway.specs.contracts.office.Office as Office

InForce-send : (J : RattleType) (j : naming.Ghosts J.Denot) → IsSend (InForce.the_field J j).row
InForce-send J j = search (look.the_send, plans_cross, crosses, sendable) depth 60 fits 50000

Office-field : (J S : RattleType) (j : naming.Ghosts J.Denot) (s : storage.Ghosts S.Denot) → IsSend S → IsSend (Office.the_field J S j s).row
Office-field J S j s h = search (ledger.the_send, InForce-send, h, crosses, sendable) depth 60 fits 50000

pub Office-send : (J S : RattleType) (j : naming.Ghosts J.Denot) (s : storage.Ghosts S.Denot) → IsSend S → IsSend (Office.the_row J S j s)
Office-send J S j s h = as_row_send (Office.the_field J S j s) (Office-field J S j s h)
