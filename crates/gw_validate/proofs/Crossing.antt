-- What is kept of a message may be sent to threads, and shared by them.
use denote.Param.Send.{IsSend, IsSync, sendable}
use Rattle.std.proofs.Crossing.{crosses, Vec-send, Vec-sync}
use Rattle.gw_validate.proofs.occurrences.Occurrences.TheLaws.TheKnot as occurrences
use Rattle.gw_validate.specs.contracts.occurrences.Found as Found

pub Found-send : IsSend (Found.the_field).row
Found-send = occurrences.send-Found (search (crosses, sendable) depth 20) (λ h s. Vec-send h s)

pub Found-sync : IsSync (Found.the_field).row
Found-sync = occurrences.sync-Found (search (crosses, sendable) depth 20) (λ h s. Vec-sync h s)
