use Rattle.std.proofs.Common.{List, ℕ, ◌∙◌, subst, IfOk}
use Rattle.gw_profile.specs.declared.node.Node.{Node}
use Rattle.gw_profile.specs.Seen.{forest}
use Rattle.gw_validate.specs.Next.{AreNext}
use Rattle.gw_validate.proofs.next.next_names.Goals as goal

pub returns : goal.returns
returns c =
    subst (λ (before : List (List ℕ)). IfOk c.next_of.result (λ found. AreNext (forest c.args.profile.now.nodes) before found.items)) (c.deref.ensures.value ∙ c.in_ok-names.ensures)
    (subst (λ (l : List Node). IfOk c.next_of.result (λ found. AreNext (forest l) c.deref.result.now found.items)) c.nodes.ensures.value c.next_of.ensures)
