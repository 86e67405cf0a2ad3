use Rattle.std.proofs.Common.{◌≡◌, sym, ap, ◌∙◌, subst, OnOk, List, ℕ, ◌++◌}
use Rattle.gw_profile.specs.declared.shape.Card.{Card}
use Rattle.gw_profile.specs.Line.{allows}
use Rattle.gw_profile.specs.Seen.{forest}
use Rattle.gw_profile.specs.LookAhead.{first_names}
use Rattle.gw_profile.specs.Nodes.{first_of_node, card_of}
use Rattle.gw_profile.proofs.Rows.{first_of_group}
use Rattle.gw_profile.proofs.rules.+first.Goals as goal

pub add_first_of-returns-in-Group : goal.add_first_of-returns-in-Group
add_first_of-returns-in-Group t c =
    subst (λ (l : List (List ℕ)). OnOk c.add_first_names.result (c.add_first_names.new.out.items ≡ c.args.out.now.items ++ l))
    (ap (λ l. first_names (forest l)) c.deref.ensures.value ∙ first_of_group c.in-Group.group (sym (c.if-not-allows.ensures ∙ ap (λ (k : Card). allows k.max 1) (c.card.ensures ∙ ap card_of c.in-Group.is))) ∙ ap first_of_node (sym c.in-Group.is))
    c.add_first_names.ensures
