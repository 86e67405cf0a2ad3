use Rattle.gw_session.proofs.Meeting.{seen_at_door}
use Rattle.gw_session.proofs.sessions.answer_all.Goals as goal

pub returns-clause-door : goal.returns-clause-door
returns-clause-door g c =
    (seen_at_door (λ (s : _). s.door.ghost_name) (λ (s : _). g.C.Clock.gives s.clock.now) (λ (s : _). g.D.Door.noted s.door.now) _ _ _ _ _ _
    c.answer_blocks.ensures.ends).0

pub returns-clause-ends : goal.returns-clause-ends
returns-clause-ends g c =
    (seen_at_door (λ (s : _). s.door.ghost_name) (λ (s : _). g.C.Clock.gives s.clock.now) (λ (s : _). g.D.Door.noted s.door.now) _ _ _ _ _ _
    c.answer_blocks.ensures.ends).1
