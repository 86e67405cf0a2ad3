use Rattle.std.proofs.Common.{◌≡◌, IfOk, ap, subst, sym, ◌∙◌}
use Rattle.std.specs.Prelude.{not, option_and_then}
use Rattle.gw_profile.specs.Seen.{Contents, sub as sub_value}
use Rattle.gw_profile.specs.Value.{table_of as table_in}
use Rattle.gw_maplang.specs.Seen.{now}
use Rattle.gw_leaves.proofs.Comparing.{unlisted_at}
use Rattle.gw_leaves.proofs.given.may_be_unlisted.Goals as goal

pub returns : goal.returns
returns c =
    let s = c.args.context.now in
    let origin = c.origin_of-origin.result in
    subst (λ x. IfOk c.some_given.result (λ b. b ≡ x))
    (unlisted_at s c.args.given origin c.len_of.result c.origin_of-origin.ensures.rows c.origin_of-origin.ensures.table c.len_of.ensures (sym c.is_any.ensures ∙ c.if-is_any.false)
    (sub_value c.args.sub.now) (now c.table_of-name.result) c.table_named.result c.table_of-name.ensures
    (c.table_named.ensures ∙ ap (λ (t : Contents). option_and_then (λ n. table_in n t.tables) (now c.table_of-name.result)) c.target.ensures) (c.is_none.ensures ∙ ap not c.if-is_none.false))
    c.some_given.ensures
