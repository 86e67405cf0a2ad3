use Rattle.std.proofs.Common.{ap, sym, subst}
use Rattle.gw_log.specs.State.{SegmentState}
use Rattle.gw_log.specs.own.Turns.{HasEnded}
use Rattle.gw_log.proofs.Turning.{leaves_at}
use Rattle.gw_log.proofs.segment.Segment.follow.Goals as goal

pub returns-clause-ended : goal.returns-clause-ended
returns-clause-ended g c = λ these st none.
    subst (λ (d : g.row.D.Denot). HasEnded c.args.self.now.number these (g.D.Disk.seen c.args.self.now.disk) (g.D.Disk.seen d))
    (sym (ap (λ (s : SegmentState g.row.D.Denot). s.disk) c.self.view_is)) (c.in_ok-size.ensures.ok these st none).ended

pub returns-clause-any_moment : goal.returns-clause-any_moment
returns-clause-any_moment g c = λ these st none.
    leaves_at _ _ _ _ _ _ (ap (λ (s : SegmentState g.row.D.Denot). s.disk) c.self.view_is) (c.turn.ensures.any_moment these st none)
