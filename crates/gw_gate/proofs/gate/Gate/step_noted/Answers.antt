use Rattle.std.proofs.Common.{true}
use Rattle.gw_gate.specs.Headline.{IsTranslated}
use Rattle.gw_gate.specs.Meaning.{Makes}
use Rattle.gw_gate.specs.Values.{event_seen, noted_seen}
use Rattle.gw_gate.proofs.Lasting.{lawful_noted}
use Rattle.gw_gate.proofs.gate.Gate.step_noted.Goals as goal

pub invariant_of-self : goal.invariant_of-self
invariant_of-self c =
    lawful_noted (IsTranslated Makes) true c.self.inside.books c.step.new.self (event_seen c.args.event) (noted_seen c.step.result) c.known.ensures c.step.ensures c.self.invariant

pub step-requires : goal.step-requires
step-requires c = c.self.invariant
