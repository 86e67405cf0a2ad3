use Rattle.gw_gateway.proofs.Answering.{answered, went_on}
use Rattle.gw_gateway.proofs.sender.answer_sender.Goals as goal

pub returns-clause-answers : goal.returns-clause-answers
returns-clause-answers g c = answered g.J.Naming.before (λ (s : _). s.waiting) _ _ _ _ _ _ c.answer_blocks.ensures.ends

pub returns-clause-on : goal.returns-clause-on
returns-clause-on g c = went_on g.J.Naming.before (λ (s : _). s.waiting) _ _ _ _ _ _ c.answer_blocks.ensures.ends
