-- What is kept of refusals may be sent to another thread.
use denote.Param.Send.{IsSend, sendable}
use denote.Param.SendFields.{as_row_send}
use Rattle.std.proofs.Crossing.{crosses}
use Rattle.gw_page.specs.contracts.recent.Recent as Recent

Recent-field : IsSend (Recent.the_field).row
Recent-field = search (crosses, sendable) depth 60 fits 50000

pub Recent-send : IsSend Recent.the_row
Recent-send = as_row_send Recent.the_field Recent-field
