use Rattle.std.proofs.Common.{rules, ◌≡◌, ◌+◌, ◌<◌, ◌∷◌, true, false, length, subst}
use Rattle.std.specs.Prelude.{IfSome}
use Rattle.gw_log.specs.State.{ReadsOn}
use Rattle.gw_listing.proofs.Given.{next_listed, end_listed}
use Rattle.gw_listing.proofs.walk.Walk.next.Goals as goal

pub returns-then-is_at_end-2-clause-none : goal.returns-then-is_at_end-2-clause-none
returns-then-is_at_end-2-clause-none g c =
    let empty : length c.in-Some.record.items ≡ 0 = search rules in
    let all_open : c.next.new.self.is_open ≡ true = search rules in
    rw (← c.self.view_is) (λ honest before listed.
    end_listed g.D.Disk.seen _ c.next.new.self before c.in-Some.record.items listed
    (subst (λ o. IfSome o (λ r. ReadsOn g.D.Disk.seen c.self.inside.reader c.next.new.self r.items)) c.in-Some.is
    (c.in_ok-record.ensures.some honest) (c.self.inside.head.items ∷ listed.these) listed.read)
    all_open c.in_ok-record.ensures.seen c.in_ok-record.ensures.number empty)

pub returns-clause-some : goal.returns-clause-some
returns-clause-some g c =
    let long : 0 < length c.in-Some.record.items = search rules in
    let next : c.in-Some-checked_add.next ≡ c.self.inside.place + 1 = search rules in
    let fresh : c.self.inside.is_ended ≡ false = search rules in
    let all_open : c.next.new.self.is_open ≡ true = search rules in
    rw (← c.self.view_is) (λ honest before listed.
    next_listed g.D.Disk.seen _ c.next.new.self _ before c.in-Some.record.items listed
    (subst (λ o. IfSome o (λ r. ReadsOn g.D.Disk.seen c.self.inside.reader c.next.new.self r.items)) c.in-Some.is
    (c.in_ok-record.ensures.some honest) (c.self.inside.head.items ∷ listed.these) listed.read)
    all_open c.in_ok-record.ensures.seen c.in_ok-record.ensures.number long next fresh)
