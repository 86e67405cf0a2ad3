use Rattle.std.proofs.Common.{◌≡◌, IfOk, ap, subst, sym, ◌∙◌}
use Rattle.gw_leaves.specs.Leaves.{may_be_long}
use Rattle.gw_leaves.specs.own.Held.{given_texts}
use Rattle.gw_leaves.proofs.Comparing.{long_at}
use Rattle.gw_leaves.proofs.given.may_be_long.Goals as goal

pub returns : goal.returns
returns c =
    let s = c.args.context.now in
    subst (λ x. IfOk c.some_given.result (λ b. b ≡ x))
    (long_at s c.args.given c.origin_of-origin.result c.len_of-len.result c.origin_of-origin.ensures.rows c.origin_of-origin.ensures.table c.len_of-len.ensures (sym c.is_any.ensures ∙ c.if-is_any.false) c.in-Some.most
    ∙ ap (may_be_long s.target.count (given_texts s c.args.given)) (sym c.in-Some.is))
    c.some_given.ensures
