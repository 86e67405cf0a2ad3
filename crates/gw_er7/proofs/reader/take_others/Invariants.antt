use Rattle.std.proofs.Common.{◌≡◌, ◌+◌, ◌<◌, ◌≤◌, ◌++◌, length}
use Rattle.gw_er7.specs.Content.{lines_from, first_bad}
use Rattle.gw_er7.specs.View.{lying}
use Rattle.gw_er7.specs.own.Separators.{held_in}
use Rattle.gw_er7.specs.own.Gathered.{others_of, IsTaken, LinesLie}
use Rattle.gw_er7.proofs.reader.take_others.Given as goal

abbrev pub invariant-loop-line : goal.invariant-loop-line
invariant-loop-line l = record {
  taken : IsTaken l.starts.items l.taken;
  content : l.taken.content.now ≡ l.fn.taken.content.now;
  read : lying l.starts.items (held_in l.taken) ++ others_of l.classes (lines_from l.here l.rest) ≡ lying l.fn.starts.items (held_in l.fn.taken) ++ others_of l.classes (lines_from l.fn.at l.fn.bytes);
  bad : first_bad l.classes.field (lines_from l.fn.at l.fn.bytes) ≡ first_bad l.classes.field (lines_from l.here l.rest);
  all : length (lines_from l.fn.at l.fn.bytes) ≡ l.count + length (lines_from l.here l.rest);
  lie : LinesLie l.fn.taken.content.now (lines_from l.here l.rest);
  room : l.here ≤ l.fn.at + length l.fn.bytes + 1;
  later : 0 < length l.rest → l.here + length l.rest ≤ l.fn.at + length l.fn.bytes;
  few : l.count + length l.rest ≤ length l.fn.bytes;
}

abbrev pub decreases-loop-line : goal.decreases-loop-line
decreases-loop-line l = length l.rest
