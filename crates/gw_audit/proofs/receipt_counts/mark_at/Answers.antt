use Rattle.std.proofs.Common.{arith, ◌-◌, ◌<◌, length}
use Rattle.gw_audit.proofs.Marking.{mark_more, read_as}
use Rattle.gw_audit.proofs.receipt_counts.mark_at.Goals as goal

pub returns-then-index-lt2-clause-marks : goal.returns-then-index-lt2-clause-marks
returns-then-index-lt2-clause-marks c e all was =
    let marks = c.args.marks.now.items in
    let place = c.args.at - c.args.since in
    let ok = c.args.marks.now.ok in
    let inside : place < length marks = (let a = c.if-place-len.true in omega (arith, a, ok, c.len.ensures)) in
    let read = read_as marks place c.index_mut.result.now inside c.index_mut.ensures.value in
    let seen = read_as marks place c.index.result.now inside c.index.ensures in
    mark_more marks c.args.since all (record { at = c.args.at; entry = e }) place c.index_mut.result.now
    (let a = c.if-at-since.false in omega (arith, a)) inside (let l = c.if-index-lt2.true in omega (arith, l, read, seen)) read was
