use Rattle.gw_forward.specs.Forwards.{has_end}
use Rattle.gw_forward.specs.own.Steps.{no_memory, no_record}
use Rattle.gw_forward.proofs.forwarding.framed.Goals as goal

pub returns-then-not-is_content-clause-not : goal.returns-then-not-is_content-clause-not
returns-then-not-is_content-clause-not c =
    no_record (has_end (λ whole. let yes = c.is_content.ensures.1 whole in let no = c.if-not-is_content.true in absurd cc))

pub returns-in_default-clause-not : goal.returns-in_default-clause-not
returns-in_default-clause-not c = no_memory

pub returns-in-Err-clause-not : goal.returns-in-Err-clause-not
returns-in-Err-clause-not c = no_memory
