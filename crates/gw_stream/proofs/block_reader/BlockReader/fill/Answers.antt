use Rattle.std.proofs.Common.{rules, refl, arith}
use Rattle.std.proofs.lemmas.Grind.{common_steps}
use Rattle.gw_stream.specs.Walked.{read, too_long}
use Rattle.gw_stream.proofs.Walking.{ends_long, ends_at, goes_read, stops_within}
use Rattle.gw_stream.proofs.block_reader.BlockReader.fill.Goals as goal

pub returns-then-eq-clause-stops : goal.returns-then-eq-clause-stops
returns-then-eq-clause-stops g c = too_long (ends_long _ c.requires.none (search rules))

pub returns-in-Err-clause-stops : goal.returns-in-Err-clause-stops
returns-in-Err-clause-stops g c =
    let eats = rw c.if-count-eq0.true at c.in-Ok.ensures.bytes in
    let long = c.read.auto.buf in
    let within = c.in-Err.ensures.err in
    stops_within _ _ within.1 _ within.0 (ends_at _ _ _ c.requires.none within.2 eats.0 (eats.1 refl (search rules)))

pub returns-clause-goes : goal.returns-clause-goes
returns-clause-goes g c err =
    let long = c.read.auto.buf in
    goes_read _ _ _ c.in-Ok.ensures.bytes.0 (grind (arith, common_steps)) (grind (arith, common_steps)) (search rules)
    c.in-Ok-take_piece.ensures.fed refl c.in-Ok.ensures.counted
