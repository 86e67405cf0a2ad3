use Rattle.std.proofs.Common.{ap, Err}
use Rattle.gw_log.specs.declared.fault.LogFault.{LogFault}
use Rattle.gw_log.proofs.segment.Segment.open.Goals as goal

pub returns-in-Err-clause-damaged : goal.returns-in-Err-clause-damaged
returns-in-Err-clause-damaged g c = λ honest segment at is. c.in-Err.ensures.damaged honest segment at (ap (λ (f : LogFault). Err f) is)
