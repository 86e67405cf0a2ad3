use Rattle.std.proofs.Common.{rules, ◌<◌, ◌^◌, [], subst}
use Rattle.std.specs.Prelude.{IfSome}
use Rattle.gw_log.specs.State.{ReadsOn}
use Rattle.gw_listing.proofs.Given.{begun}
use Rattle.gw_listing.proofs.walk.begin_file.Goals as goal

pub returns-else-not-is_open-clause-read : goal.returns-else-not-is_open-clause-read
returns-else-not-is_open-clause-read g c = λ honest.
    let small : c.in-Ok.size < 2 ^ 62 = search rules in
    subst (λ o. IfSome o (λ r. ReadsOn g.D.Disk.seen c.at-reader.result c.next.new.self r.items)) c.in-Ok-Some.field-0-is
    (c.in-Ok-Some.ensures.some honest) []
    (begun g.D.Disk.seen g.D.Disk.honest c.args.disk c.size.new.self c.at-reader.result c.args.number c.in-Ok.size _ c.at-reader.ensures
    c.in-Ok.ensures.size c.in-Ok.ensures.seen small (c.in-Ok-Some.ensures.back honest))
