use Rattle.std.proofs.Common.{◌≡◌, ◌++◌, ◌+◌, ◌-◌, ◌≤◌, length, map, take}
use Rattle.std.specs.VecDeque.{deque_len, deque_capacity}
use Rattle.gw_gate.specs.Seen.{conforming_seen}
use Rattle.gw_gate.specs.Journal.{pair}
use Rattle.gw_gate.specs.Values.{pair_seen}
use Rattle.gw_gate.proofs.books.issue_all.Given as goal

abbrev pub invariant-loop-place : goal.invariant-loop-place
invariant-loop-place l = record {
  pairs : map pair_seen l.queue.items ≡ map pair_seen l.initial.queue.items ++ map (pair l.n) (take l.place (conforming_seen l.conforming).receivers);
  room : deque_len l.queue + (length (conforming_seen l.conforming).receivers - l.place) ≤ deque_capacity l.queue;
}
