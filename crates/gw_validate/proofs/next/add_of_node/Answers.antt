use Rattle.std.proofs.Common.{◌≡◌, ◌++◌, OnOk, List, ℕ, sym, ap, ◌∙◌, subst}
use Rattle.gw_profile.specs.LookAhead.{first_names}
use Rattle.gw_profile.specs.Seen.{forest}
use Rattle.gw_validate.specs.own.Firsts.{first_of}
use Rattle.gw_validate.proofs.Walking.{first_of_group}
use Rattle.gw_validate.proofs.next.add_of_node.Goals as goal

pub returns-in-Group : goal.returns-in-Group
returns-in-Group c =
    subst (λ (l : List (List ℕ)). OnOk c.add_first_names.result (c.add_first_names.new.out.items ≡ c.args.found.now.items ++ l))
    (ap (λ l. first_names (forest l)) c.deref.ensures.value ∙ first_of_group c.in-Group.group c.args.due.max (sym c.if-not-has_room.ensures) ∙ ap (λ n. first_of n c.args.due.max) (sym c.in-Group.is))
    c.add_first_names.ensures
