use Rattle.std.proofs.Common.{sym, arith, rules}
use Rattle.std.proofs.lemmas.List.{length-take}
use Rattle.gw_er7.proofs.Sequences.{body_found, body_not_found, not_opened, is_opened, no_body}
use Rattle.gw_er7.proofs.escapes.body_at.Goals as goal

pub returns-in_err-end-clause-none : goal.returns-in_err-end-clause-none
returns-in_err-end-clause-none c =
    rw c.from_residual.ensures (not_opened c.args.delimiters c.args.first c.args.after.now (body_not_found c.args.delimiters c.args.after.now c.in_err-end.ensures))

pub returns-then-is_body-clause-some : goal.returns-then-is_body-clause-some
returns-then-is_body-clause-some c =
    let after = c.args.after.now in
    let found = body_found c.args.delimiters after c.in_ok-end.end c.in_ok-end.ensures in
    let place = c.in_ok-end.ensures in
    (is_opened c.args.delimiters c.args.first after c.in_ok-end.end (search rules) found place.0.high (sym c.if-is_body.ensures), sym found, omega (arith, length-take c.in_ok-end.end after, place.0.high))

pub returns-else-is_body-clause-none : goal.returns-else-is_body-clause-none
returns-else-is_body-clause-none c =
    no_body c.args.delimiters c.args.first c.args.after.now c.in_ok-end.end (body_found c.args.delimiters c.args.after.now c.in_ok-end.end c.in_ok-end.ensures) (sym c.if-is_body.ensures)
