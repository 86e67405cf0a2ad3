use Rattle.std.proofs.Common.{◌∙◌, ap}
use Rattle.std.specs.Prelude.{max}
use Rattle.gw_log.specs.State.{SegmentState}
use Rattle.gw_log.specs.Chain.{LogState}
use Rattle.gw_log.proofs.Turning.{leaves_at, going_as, goes_as}
use Rattle.gw_log.proofs.log.Log.begin_next.Goals as goal

pub returns-in-Err-clause-any_moment : goal.returns-in-Err-clause-any_moment
returns-in-Err-clause-any_moment g c =
    let most = c.max.ensures ∙ ap (λ (s : LogState g.row.D.Denot). max c.args.keep s.keep) c.go_on.view_is in
    let same = ap (λ (s : SegmentState g.row.D.Denot). s.disk) c.fail.ensures ∙ ap (λ (s : LogState g.row.D.Denot). s.segment.disk) c.self.view_is in
    λ from head these h.
    leaves_at _ _ _ _ _ _ same
    (going_as g.D.Disk.seen g.D.Disk.may_leave g.D.Disk.moment g.D.Disk.left_since c.args.self.now c.go_on-2.new.self c.args.checkpoint.now _ _ most
    c.go_on-2.ensures.any_moment from head these h)

pub returns-in-Ok-clause-any_moment : goal.returns-in-Ok-clause-any_moment
returns-in-Ok-clause-any_moment g c =
    let most = c.max.ensures ∙ ap (λ (s : LogState g.row.D.Denot). max c.args.keep s.keep) c.go_on.view_is in
    going_as g.D.Disk.seen g.D.Disk.may_leave g.D.Disk.moment g.D.Disk.left_since c.args.self.now c.go_on-2.new.self c.args.checkpoint.now _ _ most
    c.go_on-2.ensures.any_moment

pub returns-in-Ok-clause-ok : goal.returns-in-Ok-clause-ok
returns-in-Ok-clause-ok g c =
    let most = c.max.ensures ∙ ap (λ (s : LogState g.row.D.Denot). max c.args.keep s.keep) c.go_on.view_is in
    λ from head these h.
    goes_as g.D.Disk.seen g.D.Disk.may_leave g.D.Disk.moment g.D.Disk.left_since c.args.self.now c.go_on-2.new.self c.args.checkpoint.now _ _ most from _
    (c.in-Ok.ensures.ok from head these h)
