use Rattle.std.proofs.Common.{◌≡◌, ◌++◌, map, take}
use Rattle.gw_ack.specs.Answers.{field}
use Rattle.gw_ack.specs.Seen.{rows}
use Rattle.gw_ack.proofs.rows.add_field.Given as goal

abbrev pub invariant-loop-i : goal.invariant-loop-i
invariant-loop-i l = rows l.table.items ≡ rows l.fn.table.items ++ field l.number (map (λ part. part.now) (take l.i l.parts))
