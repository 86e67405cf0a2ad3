use Rattle.std.proofs.Common.{subst}
use Rattle.std.specs.Option.{option_map}
use Rattle.gw_gate.specs.Values.{event_seen, reply_seen}
use Rattle.gw_crew.specs.Seen.{note_seen}
use Rattle.gw_crew.specs.Solos.{Stepped}
use Rattle.gw_run.specs.Passes.{CountedSeen}
use Rattle.gw_run.proofs.counted.Counted.step.Goals as goal

pub returns-clause-step : goal.returns-clause-step
returns-clause-step g c =
    subst (λ (s : CountedSeen). Stepped s.gate (event_seen c.args.event) (reply_seen c.in_ok-reply.reply)
    (option_map note_seen c.in_ok-reply.note) c.step.new.gate)
    c.self.view_is c.in_ok-reply.ensures
