use Rattle.std.proofs.Common.{◌≡◌, ◌∙◌, sym, ap, ap₂, subst, map, ℕ, List, Ok, Err}
use Rattle.std.specs.Prelude.{Result}
use Rattle.std.proofs.Math.Path.{fun_ext}
use Rattle.gw_er7.specs.Message.{SegmentValue}
use Rattle.gw_plan.specs.declared.senders.HeaderField.{HeaderField}
use Rattle.gw_plan.specs.Senders.{Header}
use Rattle.gw_plan.specs.Held.{PlanHeld, plan_value, FoundAt}
use Rattle.gw_plan.specs.Index.{number_for}
use Rattle.gw_plan.specs.Kept.{key_of}
use Rattle.gw_plan.specs.Routing.{header_text, header_of, is_accepted, routed}
use Rattle.gw_plan.proofs.Routes.{ByNumber, by_number, found_at}
use Rattle.gw_plan.proofs.plan.Plan.find.Goals as goal

-- what is found by the texts that were read from the message
by_found : (p : PlanHeld) (m : List SegmentValue) (code event : List ℕ) (header : Header) (found : Result ℕ ℕ) → code ≡ header_text m 9 1 → event ≡ header_text m 9 2
    → ((field : HeaderField) → header field ≡ header_of m field) → found ≡ number_for code event header (map key_of p.routes)
    → ByNumber p.routes (is_accepted p.versions (header_text m 12 1)) (is_accepted p.processing (header_text m 11 1)) found (routed (plan_value p) m)
by_found p m code event header found ec ee eh e =
    subst (λ n. ByNumber p.routes (is_accepted p.versions (header_text m 12 1)) (is_accepted p.processing (header_text m 11 1)) n (routed (plan_value p) m))
    (sym (e ∙ ap₂ (λ c v. number_for c v header (map key_of p.routes)) ec ee ∙ ap (λ (h : Header). number_for (header_text m 9 1) (header_text m 9 2) h (map key_of p.routes)) (fun_ext eh)))
    (by_number (header_text m 9 1) (header_text m 9 2) (header_of m) p.routes (is_accepted p.versions (header_text m 12 1)) (is_accepted p.processing (header_text m 11 1)))

-- the same through the fields that the plan is a view of
by_view : (p q : PlanHeld) (m : List SegmentValue) (code event : List ℕ) (header : Header) (found : Result ℕ ℕ) → p ≡ q → code ≡ header_text m 9 1 → event ≡ header_text m 9 2
    → ((field : HeaderField) → header field ≡ header_of m field) → found ≡ number_for code event header (map key_of p.routes)
    → ByNumber q.routes (is_accepted q.versions (header_text m 12 1)) (is_accepted q.processing (header_text m 11 1)) found (routed (plan_value q) m)
by_view p q m code event header found pq ec ee eh e =
    by_found q m code event header found ec ee eh (e ∙ ap (λ (x : PlanHeld). number_for code event header (map key_of x.routes)) pq)

pub returns-in-Err : goal.returns-in-Err
returns-in-Err c =
    by_view _ c.args.self.now c.args.message.now _ _ _ (Err c.in-Err.code) c.self.view_is c.header_text-code.ensures c.header_text-event.ensures c.header_of-header.ensures
    (sym c.in-Err.is ∙ c.find.ensures _ c.self.invariant.indexed)

pub returns-in-Ok : goal.returns-in-Ok
returns-in-Ok c =
    subst (λ r. FoundAt c.args.self.now.routes r (routed (plan_value c.args.self.now) c.args.message.now)) (sym c.tested.ensures)
    (found_at c.args.self.now.routes _ _ c.in-Ok.number _
    (by_view _ c.args.self.now c.args.message.now _ _ _ (Ok c.in-Ok.number) c.self.view_is c.header_text-code.ensures c.header_text-event.ensures c.header_of-header.ensures
    (sym c.in-Ok.is ∙ c.find.ensures _ c.self.invariant.indexed)))
