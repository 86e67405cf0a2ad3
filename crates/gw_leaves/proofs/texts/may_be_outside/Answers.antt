use Rattle.std.proofs.Common.{Some, ℕ, sym, ap, ◌∙◌}
use Rattle.std.specs.Prelude.{not}
use Rattle.std.specs.List.{list_any}
use Rattle.std.specs.Global.{Vec}
use Rattle.gw_profile.specs.Fault.{is_among}
use Rattle.gw_profile.proofs.Kept.{among_map}
use Rattle.gw_leaves.specs.Leaves.{may_be_unlisted}
use Rattle.gw_leaves.specs.Texts.{items_all, some_items, values_value}
use Rattle.gw_leaves.proofs.Inserted.{any_map}
use Rattle.gw_leaves.proofs.texts.may_be_outside.Goals as goal

pub returns-in-Listed : goal.returns-in-Listed
returns-in-Listed c =
    let all = items_all c.in-Some.all.now in
    c.some_outside.ensures
    ∙ (λ i. list_any (λ (v : Vec ℕ). not (among_map (λ (w : Vec ℕ). w.items) v.items c.in-Some.all.now i)) (c.deref.ensures.value i))
    ∙ sym (any_map (λ (v : Vec ℕ). v.items) (λ t. not (is_among t all)) c.in-Listed.texts.items)
    ∙ sym (ap (λ v. may_be_unlisted (values_value v) (Some all)) c.in-Listed.is)
    ∙ sym (ap (λ t. may_be_unlisted (values_value c.args.values.now) (some_items t)) c.in-Some.is)
