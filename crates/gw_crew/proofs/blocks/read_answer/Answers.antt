use Rattle.std.proofs.Common.{rules, ◌≡◌, arith}
use Rattle.gw_ack.specs.declared.receipt.AckFault.TheVariants.{Memory}
use Rattle.gw_crew.specs.Carries.{not_acknowledged}
use Rattle.gw_crew.proofs.Answering.{says_so, denied_so}
use Rattle.gw_crew.proofs.blocks.read_answer.Goals as goal

pub returns-in-Ok-clause-says : goal.returns-in-Ok-clause-says
returns-in-Ok-clause-says c =
    says_so c.args.content.now c.args.control.now c.in-Ok.ack c.in-Ok.ensures.read c.in-Ok.ensures.unreadable
    (c.reads_or_fails.ensures c.args.content.now (λ k. let byte = c.type_inv.content k in omega (arith, byte)))

pub returns-in-Err : goal.returns-in-Err
returns-in-Err c =
    let other : ¬ (c.in-Err.field-0 ≡ Memory) = λ e. search rules in
    record { says = tt; not = not_acknowledged (λ ack. denied_so _ c.args.content.now c.args.control.now ack other (c.in-Err.ensures.acknowledged ack)) }
