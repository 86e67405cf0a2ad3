-- What the calls of plans, messages and translations answer, in the gate's words.
use Rattle.std.proofs.Common.{◌≡◌, ◌↔◌, ◌&&◌, ◌==◌, ◌∙◌, ℕ, Bool, true, false, IsTrue, List, [], ◌∷◌, map, length, slice_get, Some, refl, sym, ap, arith, subst}
use Rattle.std.specs.Prelude.{Ok, bytes_eq}
use Rattle.std.specs.FinMap.{same_entries_map}
use Rattle.std.proofs.lemmas.Grind.{common_steps}
use Rattle.std.proofs.lemmas.List.{length-map}
use Rattle.std.proofs.lemmas.Bool.{false≢true}
use Rattle.std.proofs.lemmas.Slice.Eq.{bytes_eq-Decides}
use Rattle.gw_er7.specs.Message.{SegmentValue, IsMessage}
use Rattle.gw_validate.specs.Conforming.{Conforms}
use Rattle.gw_plan.specs.Shapes.{RouteValue, PlanValue}
use Rattle.gw_plan.specs.Held.{PlanHeld, RouteHeld, plan_value, route_value, map_between}
use Rattle.gw_plan.specs.Routing.{routed}
use Rattle.gw_plan.specs.Whole.{spelled}
use Rattle.gw_plan.specs.Admitted.{ConformingHeld, IsUnder, IsSameSource}
use Rattle.gw_plan.specs.Translating.{TranslatedHeld, IsSameTranslated, MakesFor, Translates}
use Rattle.gw_gate.specs.Parts.{MessageSeen, is_under, same_message, same_receivers, same_source, same_translated}
use Rattle.gw_gate.specs.Seen.{segment_seen, message_seen, plan_seen, receivers_by, conforming_seen, translated_seen}
use Rattle.gw_gate.specs.Meaning.{Admits, Makes}
use Rattle.gw_plan.proofs.Alike.{numbers_are}
use Rattle.gw_plan.proofs.Once.{made_once}
use Rattle.gw_plan.proofs.Routes.{ok_same}
use Rattle.gw_gate.proofs.Sames.{and_both, and_true, message_decides, receivers_decide}

-- two answers that say the same
pub one_answer : (a b : Bool) → (a ≡ true → b ≡ true) → (b ≡ true → a ≡ true) → a ≡ b
one_answer true true f g = refl
one_answer false false f g = refl
one_answer true false f g = sym (f refl)
one_answer false true f g = g refl

number_same : (m n : ℕ) → m ≡ n → (m == n) ≡ true
number_same m n e = grind (arith, common_steps)

same_number : (m n : ℕ) → (m == n) ≡ true → m ≡ n
same_number m n e = grind (arith, common_steps)

same_segments : (s t : SegmentValue) → segment_seen s ≡ segment_seen t → s ≡ t
same_segments s t e =
    let at = same_entries_map s.at t.at (ap (λ x. x.texts) e) in
    let name : s.name ≡ t.name = ap (λ x. x.name) e in
    λ i. record { name = name i; at = at i }

-- messages that are seen alike are the same
pub same_messages : (m n : List SegmentValue) → message_seen m ≡ message_seen n → m ≡ n
same_messages [] [] e = refl
same_messages [] (t ∷ n) e = absurd (false≢true (sym (ap is_cons e)))
  where
    is_cons : MessageSeen → Bool
    is_cons [] = true
    is_cons (x ∷ xs) = false
same_messages (s ∷ m) [] e = absurd (false≢true (ap is_cons e))
  where
    is_cons : MessageSeen → Bool
    is_cons [] = true
    is_cons (x ∷ xs) = false
same_messages (s ∷ m) (t ∷ n) e =
    let p : segment_seen s ≡ segment_seen t = cc in
    let q : message_seen m ≡ message_seen n = cc in
    let a = same_segments s t p in
    let b = same_messages m n q in
    λ i. a i ∷ b i

pub under_is : (c : ConformingHeld) (version : ℕ) (plan : PlanHeld) (r : Bool) → IsTrue r ↔ IsUnder c version plan → r ≡ is_under (conforming_seen c) version (plan_seen plan)
under_is c version plan r h =
    one_answer r (is_under (conforming_seen c) version (plan_seen plan))
    (λ e. let u = h.0 e in and_true (c.version == version) (bytes_eq c.plan.text plan.text) (number_same c.version version u.same_version) ((bytes_eq-Decides c.plan.text plan.text).1 u.same_text))
    (λ e. let both = and_both (c.version == version) (bytes_eq c.plan.text plan.text) e in
    h.1 (record { same_version = same_number c.version version both.0; same_text = (bytes_eq-Decides c.plan.text plan.text).0 both.1 }))

pub alike_is : (p q : PlanHeld) (r : Bool) → IsTrue r ↔ (p.receivers ≡ q.receivers) → r ≡ same_receivers (plan_seen p) (plan_seen q)
alike_is p q r h =
    one_answer r (same_receivers (plan_seen p) (plan_seen q)) (λ e. (receivers_decide (plan_seen p) (plan_seen q)).1 (h.0 e)) (λ e. h.1 ((receivers_decide (plan_seen p) (plan_seen q)).0 e))

source_true : (c d : ConformingHeld) → IsSameSource c d → same_source (conforming_seen c) (conforming_seen d) ≡ true
source_true c d same =
    and_true (same_message (message_seen c.tree.message) (message_seen d.tree.message) && (c.version == d.version)) (bytes_eq c.plan.text d.plan.text)
    (and_true (same_message (message_seen c.tree.message) (message_seen d.tree.message)) (c.version == d.version)
    ((message_decides (message_seen c.tree.message) (message_seen d.tree.message)).1 (ap message_seen same.message)) (number_same c.version d.version same.version))
    ((bytes_eq-Decides c.plan.text d.plan.text).1 same.text)

true_source : (c d : ConformingHeld) → same_source (conforming_seen c) (conforming_seen d) ≡ true → IsSameSource c d
true_source c d e =
    let both = and_both (same_message (message_seen c.tree.message) (message_seen d.tree.message) && (c.version == d.version)) (bytes_eq c.plan.text d.plan.text) e in
    let rest = and_both (same_message (message_seen c.tree.message) (message_seen d.tree.message)) (c.version == d.version) both.0 in
    record {
      message = same_messages c.tree.message d.tree.message ((message_decides (message_seen c.tree.message) (message_seen d.tree.message)).0 rest.0);
      version = same_number c.version d.version rest.1;
      text = (bytes_eq-Decides c.plan.text d.plan.text).0 both.1;
    }

pub source_is : (c d : ConformingHeld) (r : Bool) → IsTrue r ↔ IsSameSource c d → r ≡ same_source (conforming_seen c) (conforming_seen d)
source_is c d r h = one_answer r (same_source (conforming_seen c) (conforming_seen d)) (λ e. source_true c d (h.0 e)) (λ e. h.1 (true_source c d e))

pub translated_is : (t u : TranslatedHeld) (r : Bool) → IsTrue r ↔ IsSameTranslated t u → r ≡ same_translated (translated_seen t) (translated_seen u)
translated_is t u r h =
    let s = same_source (conforming_seen t.source) (conforming_seen u.source) in
    let m = same_message (message_seen t.message) (message_seen u.message) in
    one_answer r (same_translated (translated_seen t) (translated_seen u))
    (λ e. let same = h.0 e in
    and_true (s && (t.receiver == u.receiver)) m
    (and_true s (t.receiver == u.receiver) (source_true t.source u.source same.source) (number_same t.receiver u.receiver same.receiver))
    ((message_decides (message_seen t.message) (message_seen u.message)).1 (ap message_seen same.message)))
    (λ e. let both = and_both (s && (t.receiver == u.receiver)) m e in
    let rest = and_both s (t.receiver == u.receiver) both.0 in
    h.1 (record {
      source = true_source t.source u.source rest.0;
      receiver = same_number t.receiver u.receiver rest.1;
      message = same_messages t.message u.message ((message_decides (message_seen t.message) (message_seen u.message)).0 both.1);
    }))

-- ---- routes

pub receivers_are : (c : ConformingHeld) (route : RouteHeld) → routed (plan_value c.plan) c.tree.message ≡ Ok (route_value route) → (conforming_seen c).receivers ≡ map (λ l. l.0) route.legs
receivers_are c route e = ap receivers_by e ∙ numbers_are map_between route.legs

pub as_many : (c : ConformingHeld) (route : RouteHeld) → routed (plan_value c.plan) c.tree.message ≡ Ok (route_value route) → length route.legs ≡ length (conforming_seen c).receivers
as_many c route e = sym (ap length (receivers_are c route e) ∙ length-map route.legs (λ l. l.0))

pub receiver_is : (c : ConformingHeld) (route : RouteHeld) (place r : ℕ) → routed (plan_value c.plan) c.tree.message ≡ Ok (route_value route) → slice_get (map (λ l. l.0) route.legs) place ≡ Some r → slice_get (conforming_seen c).receivers place ≡ Some r
receiver_is c route place r e is = ap (λ l. slice_get l place) (receivers_are c route e) ∙ is

-- ---- what a plan makes

pub makes : (t : TranslatedHeld) → Translates t.source t.receiver t.message → spelled t.source.plan.text ≡ Ok (plan_value t.source.plan) → Makes t.source.plan.text (message_seen t.source.tree.message) t.receiver (message_seen t.message)
makes t is spells = record {
  source = t.source.tree.message;
  source_is = refl;
  result = t.message;
  result_is = refl;
  plan = plan_value t.source.plan;
  spells = spells;
  makes = is;
}

-- of one message, for one receiver, one message
pub makes_once : (text : List ℕ) (message : MessageSeen) (r : ℕ) (made other : MessageSeen) → Makes text message r made → Makes text message r other → made ≡ other
makes_once text message r made other x y =
    let source : y.source ≡ x.source = same_messages y.source x.source (y.source_is ∙ sym x.source_is) in
    let plan : y.plan ≡ x.plan = ok_same (spelled text) y.spells x.spells in
    let again : MakesFor x.plan x.source r y.result =
    subst (λ (m : List SegmentValue). MakesFor x.plan m r y.result) source (subst (λ (p : PlanValue). MakesFor p y.source r y.result) plan y.makes) in
    sym x.result_is ∙ ap message_seen (made_once x.plan x.source r x.result y.result x.makes again) ∙ y.result_is

-- ---- what a plan admits

pub admits : (c : ConformingHeld) (route : RouteValue) → routed (plan_value c.plan) c.tree.message ≡ Ok route → spelled c.plan.text ≡ Ok (plan_value c.plan)
    → IsMessage c.tree.message → Conforms route.profile c.tree.message → Admits (conforming_seen c)
admits c route routed_so spells is_message conforms = record {
  message = c.tree.message;
  message_is = refl;
  is_message = is_message;
  plan = plan_value c.plan;
  spells = spells;
  route = route;
  routed_so = routed_so;
  receivers = sym (ap receivers_by routed_so);
  conforms = conforms;
}
