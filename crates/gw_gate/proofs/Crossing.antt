-- A gate may be sent to a thread; and so may an entry and a chapter.
use denote.Param.Send.{IsSend, sendable}
use Rattle.std.proofs.Crossing.{crosses}
use Rattle.gw_plan.proofs.Crossing.{plans_cross}
use Rattle.gw_reorder.proofs.desk.Desk.TheSendSync as desk
use Rattle.gw_gate.proofs.books.Pair.TheSendSync as pair
use Rattle.gw_gate.specs.contracts.event.Entry as Entry
use Rattle.gw_gate.specs.contracts.chapter.Start as Start
use Rattle.gw_gate.specs.contracts.chapter.Chapter as Chapter
use Rattle.gw_gate.specs.contracts.books.Books as Books
use Rattle.gw_gate.specs.contracts.gate.Gate as Gate

pub Entry-send : IsSend (Entry.the_field).row
Entry-send = search (plans_cross, crosses, sendable) depth 60 fits 50000

Start-send : IsSend (Start.the_field).row
Start-send = search (plans_cross, crosses, sendable) depth 60 fits 50000

pub Chapter-send : IsSend (Chapter.the_field).row
Chapter-send = search (Entry-send, Start-send, crosses, sendable) depth 60 fits 50000

Books-send : IsSend (Books.the_field).row
Books-send = search (Entry-send, Start-send, desk.the_send, pair.the_field_send, plans_cross, crosses, sendable) depth 60 fits 50000

pub Gate-send : IsSend (Gate.the_field).row
Gate-send = search (Books-send, sendable) depth 60 fits 50000
