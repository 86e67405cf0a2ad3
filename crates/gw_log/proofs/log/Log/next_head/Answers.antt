use Rattle.gw_log.proofs.Turning.{next_spelled}
use Rattle.gw_log.proofs.log.Log.next_head.Goals as goal

pub returns-clause-ok : goal.returns-clause-ok
returns-clause-ok g c =
    rw (← c.self.view_is) (next_spelled _ _ _ _ _ _ c.number-number.ensures c.size-size.ensures c.in_ok-spell_head.ensures.spelled c.in_ok-spell_head.ensures.wide)
