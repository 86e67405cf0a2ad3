use Rattle.gw_log.proofs.Moments.{weaker, joined, stepped}
use Rattle.gw_log.proofs.Sound.{added_old, added_then, begins_then, added_gate, put_alone, put_both}
use Rattle.gw_log.proofs.steps.put.Goals as goal

pub returns-in_err-write_at-clause-any_moment : goal.returns-in_err-write_at-clause-any_moment
returns-in_err-write_at-clause-any_moment g c = λ close these last more st is few.
    stepped _ _ _ _ _ _ g.met.D.Disk.only_now c.write_at.ensures.time (added_old _ _ _ _ _ _ these last st close more few _ is)
    (λ f may. added_then _ _ _ _ _ _ these last st close more few _ is f (c.write_at.ensures.crash f may))

pub returns-in_err-sync-clause-any_moment : goal.returns-in_err-sync-clause-any_moment
returns-in_err-sync-clause-any_moment g c = λ close these last more st is few.
    let first = stepped _ _ _ _ _ _ g.met.D.Disk.only_now c.write_at.ensures.time (added_old _ _ _ _ _ _ these last st close more few _ is)
    (λ f may. added_then _ _ _ _ _ _ these last st close more few _ is f (c.write_at.ensures.crash f may)) in
    joined _ _ _ _ _ _ first (stepped _ _ _ _ _ _ g.met.D.Disk.only_now c.sync.ensures.time
    (λ f may. added_then _ _ _ _ _ _ these last st close more few _ is f (c.write_at.ensures.crash f may))
    (λ f may. added_then _ _ _ _ _ _ these last st close more few _ is f (c.write_at.ensures.crash f (c.sync.ensures.crash f may))))

pub returns-then-end-reach-clause-any_moment : goal.returns-then-end-reach-clause-any_moment
returns-then-end-reach-clause-any_moment g c = λ close these last more st is few.
    let first = stepped _ _ _ _ _ _ g.met.D.Disk.only_now c.write_at.ensures.time (added_old _ _ _ _ _ _ these last st close more few _ is)
    (λ f may. added_then _ _ _ _ _ _ these last st close more few _ is f (c.write_at.ensures.crash f may)) in
    joined _ _ _ _ _ _ first (stepped _ _ _ _ _ _ g.met.D.Disk.only_now c.sync.ensures.time
    (λ f may. added_then _ _ _ _ _ _ these last st close more few _ is f (c.write_at.ensures.crash f may))
    (λ f may. added_then _ _ _ _ _ _ these last st close more few _ is f (c.write_at.ensures.crash f (c.sync.ensures.crash f may))))

pub returns-then-end-reach-clause-ok : goal.returns-then-end-reach-clause-ok
returns-then-end-reach-clause-ok g c = λ close these last more st is few differs.
    put_alone _ _ _ _ _ _ these last st close more few _ is _ _ c.if-end-reach.true c.in_ok-write_at.ensures.written c.write_at.ensures.crash c.sync.ensures.seen
    c.sync.ensures.crash c.in_ok-sync.ensures.durable

pub returns-in_err-write_synced-clause-any_moment : goal.returns-in_err-write_synced-clause-any_moment
returns-in_err-write_synced-clause-any_moment g c = λ close these last more st is few.
    let first = stepped _ _ _ _ _ _ g.met.D.Disk.only_now c.write_at.ensures.time (added_old _ _ _ _ _ _ these last st close more few _ is)
    (λ f may. added_then _ _ _ _ _ _ these last st close more few _ is f (c.write_at.ensures.crash f may)) in
    joined _ _ _ _ _ _ first (weaker _ _ _ _ _ _ (λ f after. added_gate _ _ _ _ _ _ these last st close more few _ is _ f c.if-end-reach.false
    (λ d may. begins_then _ _ _ _ _ _ these last st close more few _ is d (c.write_at.ensures.crash d may)) after) c.write_synced.ensures.any_moment)

pub returns-clause-any_moment : goal.returns-clause-any_moment
returns-clause-any_moment g c = λ close these last more st is few.
    let first = stepped _ _ _ _ _ _ g.met.D.Disk.only_now c.write_at.ensures.time (added_old _ _ _ _ _ _ these last st close more few _ is)
    (λ f may. added_then _ _ _ _ _ _ these last st close more few _ is f (c.write_at.ensures.crash f may)) in
    joined _ _ _ _ _ _ first (weaker _ _ _ _ _ _ (λ f after. added_gate _ _ _ _ _ _ these last st close more few _ is _ f c.if-end-reach.false
    (λ d may. begins_then _ _ _ _ _ _ these last st close more few _ is d (c.write_at.ensures.crash d may)) after) c.write_synced.ensures.any_moment)

pub returns-clause-ok : goal.returns-clause-ok
returns-clause-ok g c = λ close these last more st is few differs.
    let second = c.in_ok-write_synced.ensures in
    put_both _ _ _ _ _ _ these last st close more few _ is _ _ c.if-end-reach.false c.in_ok-write_at.ensures.written c.write_at.ensures.crash second.written
    c.write_synced.ensures.crash second.durable
