-- The plans, messages and translations of the program, as a gate sees them.
use Rattle.std.specs.Prelude.{ℕ, List, [], map, Result, Ok, Err}
use Rattle.std.specs.FinMap as texts
use Rattle.gw_er7.specs.Message.{SegmentValue}
use Rattle.gw_plan.specs.Shapes.{RouteValue}
use Rattle.gw_plan.specs.Held.{PlanHeld, plan_value}
use Rattle.gw_plan.specs.Routing.{routed}
use Rattle.gw_plan.specs.Admitted.{ConformingHeld}
use Rattle.gw_plan.specs.Translating.{TranslatedHeld}
pub use Rattle.gw_plan.specs.declared.conforming.Conforming.{Conforming}
pub use Rattle.gw_plan.specs.declared.translated.Translated.{Translated}
use Rattle.gw_gate.specs.Parts.{SegmentSeen, MessageSeen, PlanSeen, ConformingSeen, TranslatedSeen}

abbrev pub segment_seen : SegmentValue → SegmentSeen
segment_seen s = record { name = s.name; texts = texts.entries s.at }

abbrev pub message_seen : List SegmentValue → MessageSeen
message_seen m = map segment_seen m

abbrev pub plan_seen : PlanHeld → PlanSeen
plan_seen p = record { text = p.text; receivers = p.receivers }

-- the receivers of a route, in its order
abbrev pub receivers_by : Result RouteValue ℕ → List ℕ
receivers_by (Ok route) = map (λ l. l.0) route.legs
receivers_by (Err code) = []

abbrev pub conforming_seen : ConformingHeld → ConformingSeen
conforming_seen c = record {
  text = c.plan.text;
  version = c.version;
  message = message_seen c.tree.message;
  receivers = receivers_by (routed (plan_value c.plan) c.tree.message);
}

abbrev pub translated_seen : TranslatedHeld → TranslatedSeen
translated_seen t = record { source = conforming_seen t.source; receiver = t.receiver; message = message_seen t.message }
