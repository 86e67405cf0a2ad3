use Rattle.std.proofs.Common.{ℕ, sym, ap, ◌∙◌}
use Rattle.std.specs.Global.{Vec}
use Rattle.std.specs.List.{list_any}
use Rattle.gw_profile.specs.Numbered.{comp_of, sub_of, some_sub}
use Rattle.gw_profile.specs.Seen.{profile_value}
use Rattle.gw_resolve.specs.Resolved.{of_field}
use Rattle.gw_resolve.specs.Seen.{reference}
use Rattle.gw_leaves.specs.Leaves.{is_absent, source_shape, sub_values}
use Rattle.gw_leaves.specs.Reached.{may_be}
use Rattle.gw_leaves.specs.Uses.{sources_value}
use Rattle.gw_leaves.proofs.Filtered.{there_and}
use Rattle.gw_leaves.proofs.Inserted.{any_map}
use Rattle.gw_leaves.proofs.reached.can_hold.Goals as goal

pub returns-then-not-is_absent : goal.returns-then-not-is_absent
returns-then-not-is_absent c =
    let s = sources_value c.args.sources in
    let from = reference c.args.from.now in
    let at = c.args.condition.now.place in
    let shape = source_shape s (of_field from at.comp at.sub) in
    let texts = c.values.result.now in
    let sub = c.sub_of-sub.ensures ∙ ap (λ o. sub_of o at.sub) (c.comp_of.ensures ∙ ap (λ o. comp_of o at.comp) c.at_field.ensures) in
    let source = ap (λ p. sub_values (profile_value p) (some_sub c.sub_of-sub.result)) c.source.ensures in
    let known = source ∙ ap (sub_values s.profile) sub in
    let absent = c.is_absent.ensures ∙ ap is_absent c.place_presence.ensures in
    c.may_be_one.ensures
    ∙ ap (λ w. list_any (λ (v : Vec ℕ). may_be w v.items) texts) known
    ∙ sym (any_map (λ (v : Vec ℕ). v.items) (may_be shape.values) texts)
    ∙ ap (list_any (may_be shape.values)) c.values.ensures
    ∙ there_and (is_absent shape.presence) _ (sym absent ∙ c.if-not-is_absent.true)
