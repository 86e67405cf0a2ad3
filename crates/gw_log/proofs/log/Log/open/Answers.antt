use Rattle.std.proofs.Common.{◌≡◌, ◌-◌, ℕ, length, ap, subst, arith, Err}
use Rattle.std.specs.Prelude.{Vec}
use Rattle.std.specs.declared.alloc.Global.{Global}
use Rattle.std.proofs.lemmas.List.{length-map}
use Rattle.gw_log.specs.declared.fault.LogFault.{LogFault}
use Rattle.gw_log.specs.State.{SegmentState, records_of}
use Rattle.gw_log.proofs.Turning.{leaves_at}
use Rattle.gw_log.proofs.Founding.{opened, of_last, head_at, none_behind}
use Rattle.gw_log.proofs.log.Log.open.Goals as goal

pub returns-clause-ok : goal.returns-clause-ok
returns-clause-ok g c = λ honest from head records log.
    let same = ap (λ (s : SegmentState g.row.D.Denot). s.disk) c.over.ensures in
    let was = subst g.D.Disk.honest same honest in
    let rows = c.in-Ok.found.records.items in
    let count : c.saturating_sub.result ≡ length (records_of rows) - 1 = omega (arith, c.saturating_sub.ensures, c.len.ensures, length-map rows (λ (v : Vec ℕ Global). v.items)) in
    opened _ _ _ _ _ _ _ log _ _ _ _ _ _ _ _ _ c.over.ensures (c.in-Ok.ensures.has was) (c.in-Ok.ensures.found was from head records log) (c.in-Ok.ensures.staged was)
    (c.in-Ok.ensures.below was) (c.in-Ok.ensures.above was) count

pub returns-clause-records : goal.returns-clause-records
returns-clause-records g c = λ honest from head records log.
    let same = ap (λ (s : SegmentState g.row.D.Denot). s.disk) c.over.ensures in
    let was = subst g.D.Disk.honest same honest in
    of_last _ _ _ _ _ log _ _ (c.in-Ok.ensures.found was from head records log).its_number (c.in-Ok.ensures.has was)

pub returns-clause-any_moment : goal.returns-clause-any_moment
returns-clause-any_moment g c = λ honest from head records log.
    let same = ap (λ (s : SegmentState g.row.D.Denot). s.disk) c.over.ensures in
    leaves_at _ _ _ _ _ _ same (c.in-Ok.ensures.any_moment (subst g.D.Disk.honest same honest) from head records log)

pub returns-clause-head : goal.returns-clause-head
returns-clause-head g c = λ honest.
    let same = ap (λ (s : SegmentState g.row.D.Denot). s.disk) c.over.ensures in
    let number = ap (λ (s : SegmentState g.row.D.Denot). s.number) c.over.ensures in
    head_at c.args.id c.over.result.number c.in-Ok.found.number c.in-Ok.found.place.first c.in-Ok.found.place.before c.in-Ok.found.place.keep
    (g.D.Disk.seen c.args.disk) number (c.in-Ok.ensures.head (subst g.D.Disk.honest same honest))

pub returns-clause-behind : goal.returns-clause-behind
returns-clause-behind g c = λ honest n lt.
    let same = ap (λ (s : SegmentState g.row.D.Denot). s.disk) c.over.ensures in
    let number = ap (λ (s : SegmentState g.row.D.Denot). s.number) c.over.ensures in
    none_behind _ _ _ (c.in-Ok.ensures.behind (subst g.D.Disk.honest same honest)) n (omega (arith, lt, number))

pub returns-in-Err-clause-undamaged : goal.returns-in-Err-clause-undamaged
returns-in-Err-clause-undamaged g c = λ honest segment at is. c.in-Err.ensures.damaged honest segment at (ap (λ (f : LogFault). Err f) is)
