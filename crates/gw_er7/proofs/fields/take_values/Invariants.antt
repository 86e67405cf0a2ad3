use Rattle.std.proofs.Common.{◌≡◌, ◌++◌, ◌+◌, ◌≤◌, length}
use Rattle.gw_er7.specs.Message.{numbers}
use Rattle.gw_er7.specs.Entries.{fields}
use Rattle.gw_er7.specs.own.Separators.{separators, bytes_of, taken_by, Keeps, Lies}
use Rattle.gw_er7.specs.View.{AreInside}
use Rattle.gw_er7.proofs.Separated.{rest}
use Rattle.gw_er7.proofs.fields.take_values.Given as goal

abbrev pub invariant-loop-rest : goal.invariant-loop-rest
invariant-loop-rest l = record {
  inside : AreInside (bytes_of l.taken) l.taken.spans;
  content : l.taken.content.now ≡ l.fn.taken.content.now;
  kept : Keeps l.fn.taken l.taken;
  read : taken_by l.taken ++ rest l.classes (separators l.classes) (numbers l.place) l.rest ≡ taken_by l.fn.taken ++ fields l.classes l.fn.first l.fn.bytes;
  lies : Lies l.fn.taken.content.now l.here l.rest;
  field : l.place.field + length l.rest ≤ length l.fn.bytes + 3;
  rep : l.place.rep + length l.rest ≤ length l.fn.bytes + 3;
  comp : l.place.comp + length l.rest ≤ length l.fn.bytes + 3;
  sub : l.place.sub + length l.rest ≤ length l.fn.bytes + 3;
}

abbrev pub decreases-loop-rest : goal.decreases-loop-rest
decreases-loop-rest l = length l.rest
