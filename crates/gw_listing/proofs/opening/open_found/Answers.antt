use Rattle.std.proofs.Common.{ap, subst, ◌∙◌}
use Rattle.gw_listing.proofs.Given.{open_listed}
use Rattle.gw_listing.proofs.opening.open_found.Goals as goal

pub returns-clause-log : goal.returns-clause-log
returns-clause-log g c = λ honest from head records log.
    let opened = subst g.D.Disk.honest c.into_disk.ensures (c.in_ok-walk.ensures.back honest) in
    let ends = c.in-Ok.ensures.first (c.in_ok-log.ensures.back opened) in
    open_listed g.D.Disk.seen g.D.Disk.may_leave c.in-Ok.found.1 c.in-Ok.found.0 _ _ _ c.args.disk c.look.new.disk _ c.in_ok-log.log from head records
    c.in_ok-walk.ensures.id c.in_ok-walk.ensures.first (c.in_ok-walk.ensures.last ∙ c.number-last.ensures) c.in-Ok.ensures.seen
    (c.in_ok-walk.ensures.seen ∙ ap g.D.Disk.seen c.into_disk.ensures) ends.0 ends.1 (c.in_ok-log.ensures.ok opened from head records) log
