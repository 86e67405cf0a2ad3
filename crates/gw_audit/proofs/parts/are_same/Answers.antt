use Rattle.std.proofs.Common.{◌≡◌, ◌∙◌, List, [], ap, sym}
use Rattle.std.specs.Prelude.{Result, Ok, Err}
use Rattle.std.proofs.lemmas.Slice.Eq.{bytes_eq-Decides}
use Rattle.gw_plan.specs.Held.{PlanHeld, plan_value}
use Rattle.gw_plan.specs.Shapes.{PlanValue, ReceiverValue}
use Rattle.gw_plan.specs.Whole.{spelled}
use Rattle.gw_gate.specs.Seen.{plan_seen}
use Rattle.gw_audit.proofs.parts.are_same.Goals as goal

abbrev receivers_of : {E : Type 0} → Result PlanValue E → List ReceiverValue
receivers_of (Ok plan) = plan.receivers
receivers_of (Err fault) = []

-- two plans of one text have the same receivers
same_plan : (p q : PlanHeld) → spelled p.text ≡ Ok (plan_value p) → spelled q.text ≡ Ok (plan_value q) → p.text ≡ q.text → plan_seen p ≡ plan_seen q
same_plan p q one two e =
    let receivers : p.receivers ≡ q.receivers = ap receivers_of (sym one ∙ ap spelled e ∙ two) in
    λ i. record { text = e i; receivers = receivers i }

pub returns : goal.returns
returns c =
    let p = c.args.plan.now in
    let q = c.args.other.now in (
      λ t. same_plan p q c.is_spelled.ensures c.is_spelled-2.ensures ((bytes_eq-Decides p.text q.text).0 (sym c.have_same_text.ensures ∙ t)),
      λ e. c.have_same_text.ensures ∙ (bytes_eq-Decides p.text q.text).1 (ap (λ s. s.text) e),
    )
