use Rattle.std.proofs.Common.{rules, ◌≡◌, ⊎_elim}
use Rattle.gw_er7.specs.declared.fault.ReadFault.TheVariants.{Memory}
use Rattle.gw_stream.specs.Answers.{readable, unreadable}
use Rattle.gw_stream.proofs.exchange.exchange.Goals as goal

pub returns : goal.returns
returns g c =
    let other : ¬ (c.in-Err.fault ≡ Memory) = λ e. search rules in
    let is_read = unreadable _ (⊎_elim (λ memory. absurd (other memory)) (λ faulty. faulty) c.in-Err.ensures.err) in
    record {
      answer = c.settle-in_default.ensures.answer _ is_read c.blank.ensures;
      lawful = c.settle-in_default.ensures.lawful;
      begun = c.settle-in_default.ensures.begun _ is_read;
    }

pub returns-in-Ok-clause-answer : goal.returns-in-Ok-clause-answer
returns-in-Ok-clause-answer g c =
    c.settle.ensures.answer _ (readable _ c.segment_count.ensures.message c.in-Ok.ensures.ok) c.in_ok-header-in-Ok.ensures
