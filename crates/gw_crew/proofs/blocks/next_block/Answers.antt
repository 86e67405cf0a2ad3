use Rattle.std.proofs.Common.{rules, refl, ap, Ok, arith}
use Rattle.std.proofs.lemmas.Grind.{common_steps}
use Rattle.gw_mllp.specs.Stream.{Overlong}
use Rattle.gw_crew.specs.Carries.{ended, line, memory, read, turns}
use Rattle.gw_crew.proofs.Carrying.{in_vain, next_so, reading_ends, reading_long, reads_more}
use Rattle.gw_crew.proofs.blocks.next_block.Goals as goal

pub returns-in_default-read-clause-none : goal.returns-in_default-read-clause-none
returns-in_default-read-clause-none g c = λ control s blocks was. line (read (search rules))

pub returns-then-count-eq0-clause-none : goal.returns-then-count-eq0-clause-none
returns-then-count-eq0-clause-none g c =
    let eats = rw c.if-count-eq0.true at c.in-Ok.ensures.bytes in
    let end = eats.1 refl (let long = c.read.auto.buf in search rules) in
    λ control s blocks was.
    (let at_end = reading_ends _ _ _ _ _ _ (c.reads.invariant.reading s blocks was) eats.0 end c.reads.invariant.empty in line (ended at_end.0 at_end.1))

pub returns-in_default-take_piece-clause-none : goal.returns-in_default-take_piece-clause-none
returns-in_default-take_piece-clause-none g c = λ control s blocks was. memory refl (search rules)

pub returns-in-Some-next_block-clause-next : goal.returns-in-Some-next_block-clause-next
returns-in-Some-next_block-clause-next g c =
    let long = c.read.auto.buf in
    next_so _ _ _ _ _ _ _ _ _ _ c.reads.invariant.reading c.in-Ok.ensures.bytes.0 (grind (arith, common_steps)) (grind (arith, common_steps))
    c.in-Ok.ensures.counted (first_of (omega arith, search rules)) c.in-Ok-take_piece.ensures.stands c.in-Some-next_block.ensures.given

pub returns-then-not-on-clause-none : goal.returns-then-not-on-clause-none
returns-then-not-on-clause-none g c =
    let long = c.read.auto.buf in
    let run = reads_more _ _ _ _ _ _ _ _ _ c.reads.invariant.reading c.in-Ok.ensures.bytes.0 (grind (arith, common_steps)) (grind (arith, common_steps))
    c.in-Ok.ensures.counted c.in-Ok-take_piece.ensures.stands refl in
    let over = c.in-Ok-take_piece.ensures.over (ap Ok c.if-not-on.true) in
    λ control s blocks was. line (ended Overlong (reading_long _ _ _ _ _ (run s blocks was) c.in_default-next_block.ensures.none.0 over))

pub reads-preserved : goal.reads-preserved
reads-preserved g c =
    let none = c.in_default-next_block.ensures.none in
    let long = c.read.auto.buf in
    record {
      works = search rules;
      empty = search (rules, none);
      reading = reads_more _ _ _ _ _ _ _ _ _ c.reads.invariant.reading c.in-Ok.ensures.bytes.0 (grind (arith, common_steps)) (grind (arith, common_steps))
          c.in-Ok.ensures.counted c.in-Ok-take_piece.ensures.stands none.1;
    }

pub returns-clause-none : goal.returns-clause-none
returns-clause-none g c =
    λ control s blocks was. turns refl c.reads.invariant.works
    (in_vain _ _ _ _ _ (c.reads.invariant.reading s blocks was) (first_of (omega arith, search rules)) (first_of (omega arith, search rules)))
