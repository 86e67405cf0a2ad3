use Rattle.std.proofs.Common.{arith, rules, sym, ◌+◌, take}
use Rattle.std.proofs.lemmas.List.{take_rest}
use Rattle.gw_er7.specs.Text.{standard}
use Rattle.gw_er7.proofs.Sequences.{body_found, body_not_found}
use Rattle.gw_er7.proofs.Canonicals.{plain_first, other_first, no_end, empty_body, bad_body, good_body, all_of, small_take}
use Rattle.gw_er7.proofs.decide.behind_first.Goals as goal

pub returns-then-is_plain : goal.returns-then-is_plain
returns-then-is_plain c = plain_first c.args.first c.args.after.now (omega (arith, c.ranges.first.fits)) (sym c.if-is_plain.ensures)

pub returns-then-first-ne92 : goal.returns-then-first-ne92
returns-then-first-ne92 c = other_first c.args.first c.args.after.now (sym c.if-is_plain.ensures) (search rules)

pub returns-in_err-end : goal.returns-in_err-end
returns-in_err-end c = rw c.from_residual.ensures (no_end c.args.first c.args.after.now (search rules) (body_not_found standard c.args.after.now c.in_err-end.ensures))

pub returns-then-is_empty : goal.returns-then-is_empty
returns-then-is_empty c =
    let found = body_found standard c.args.after.now c.in_ok-end.end c.in_ok-end.ensures in
    empty_body c.args.first c.args.after.now c.in_ok-end.end (search rules) found (search rules)

pub returns-then-not-are_plain : goal.returns-then-not-are_plain
returns-then-not-are_plain c =
    let found = body_found standard c.args.after.now c.in_ok-end.end c.in_ok-end.ensures in
    bad_body c.args.first c.args.after.now c.in_ok-end.end (search rules) found (sym c.if-not-are_plain.ensures)

pub returns : goal.returns
returns c =
    let after = c.args.after.now in
    let end = c.in_ok-end.end in
    let found = body_found standard after end c.in_ok-end.ensures in
    good_body c.args.first after end _ (search rules) c.in_ok-end.ensures.0.high (search rules) found (search rules) (all_of (take end after) (small_take end after (λ i. omega (arith, c.type_inv.after i))) (sym c.if-not-are_plain.ensures)) (take_rest after (end + 1))
