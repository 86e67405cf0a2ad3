use Rattle.std.proofs.Common.{◌≡◌, ◌≤◌, ◌++◌, ◌∙◌, ℕ, List, take, drop, length, ap, arith, ◌-◌, ◌+◌}
use Rattle.std.specs.Prelude.{not}
use Rattle.std.specs.List.{position_or_len}
use Rattle.std.proofs.lemmas.List.{take_rest}
use Rattle.std.proofs.lemmas.List.Sums.{prefix_len-le-length}
use Rattle.gw_er7.specs.declared.delimiters.Delimiters.{Delimiters}
use Rattle.gw_er7.proofs.Heads.{stops, head_taken}
use Rattle.gw_er7.proofs.Sequences.{sequence_taken, plain_taken, first_is}
use Rattle.gw_er7.proofs.escapes.push_canonical.Goals as goal

within : (d : Delimiters) (bs : List ℕ) (n : ℕ) → n ≡ position_or_len (stops d) bs → n ≤ length bs
within d bs n e = omega (arith, e, prefix_len-le-length (λ b. not (stops d b)) bs)

pub push_first-requires : goal.push_first-requires
push_first-requires c = within c.args.delimiters c.args.raw.now _ c.requires

pub push_first-requires-in-None : goal.push_first-requires-in-None
push_first-requires-in-None c = within c.args.delimiters _ _ c.head_len.ensures

pub loop-rest-init : goal.loop-rest-init
loop-rest-init c =
    let raw = c.args.raw.now in
    let text = c.args.text.now.items in
    head_taken c.args.delimiters text c.push_first.new.text.items raw c.in_ok-rest.rest.now (c.in_ok-rest.ensures.head ∙ ap (λ (n : ℕ). text ++ take n raw) c.requires) (c.in_ok-rest.ensures.rest ∙ ap (λ (n : ℕ). drop n raw) c.requires)

pub loop-rest-preserved : goal.loop-rest-preserved
loop-rest-preserved c =
    let rest = c.loop-rest.rest.now in
    let after = take (length rest - 1) (drop 1 rest) in
    let text = c.push_plainly.new.text.items in
    let len = c.head_len.ensures in
    head_taken c.args.delimiters text c.push_first-in-None.new.text.items after c.in_ok-rest-in-None.rest.now
    (c.in_ok-rest-in-None.ensures.head ∙ ap (λ (n : ℕ). text ++ take n after) len) (c.in_ok-rest-in-None.ensures.rest ∙ ap (λ (n : ℕ). drop n after) len)
    ∙ plain_taken c.args.delimiters c.loop-rest.text.items text _ rest after _ c.loop-rest.invariant (first_is rest c.in-len1-up.len_at_least) c.in-None.ensures.none c.in_ok-push_plainly-in-None.ensures

pub loop-rest-preserved-in-Some : goal.loop-rest-preserved-in-Some
loop-rest-preserved-in-Some c =
    let rest = c.loop-rest.rest.now in
    let after = take (length rest - 1) (drop 1 rest) in
    let body = c.in-Some.body.now in
    sequence_taken c.args.delimiters c.loop-rest.text.items c.push_meaning.new.text.items _ rest after body _ _ c.loop-rest.invariant
    (first_is rest c.in-len1-up.len_at_least) c.in-Some.ensures.some.0 c.in-Some.ensures.some.1 c.in_ok-push_meaning-in-Some.ensures (take_rest after (length body + 1))
