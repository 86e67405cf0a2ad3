-- Parts of the program, without where they lie in memory.
use Rattle.std.specs.Prelude.{ℕ, List, Option, map}
use Rattle.std.specs.Option.{option_map}
use Rattle.std.specs.Arc.{arc_value}
use Rattle.std.specs.Global.{Vec}
use Rattle.std.specs.declared.alloc.Global.{Global}
use Rattle.std.specs.declared.sync.Arc.{Arc}
use denote.Ref.{Bor}
use Rattle.gw_profile.specs.Seen as profiles
use Rattle.gw_check.specs.Kept.{CheckedValue}
use Rattle.gw_plan.specs.declared.form.Line as declared
use Rattle.gw_plan.specs.declared.plan.Receiver.{Receiver}
use Rattle.gw_plan.specs.Shapes.{ReceiverValue}
use Rattle.gw_plan.specs.Held.{RouteHeld, PlanHeld}
use Rattle.gw_plan.specs.Line as Spec
use Rattle.gw_plan.specs.Senders.{Senders}
use Rattle.gw_plan.specs.declared.senders.Senders as kept
use Rattle.gw_plan.specs.Index.{said}

abbrev pub now_all : List (Bor (List ℕ)) → List (List ℕ)
now_all all = map (λ bytes. bytes.now) all

abbrev pub bytes_all : List (Vec ℕ) → List (List ℕ)
bytes_all all = map (λ bytes. bytes.items) all

abbrev pub line : declared.Line → Spec.Line
line (declared.TheVariants.Begins name) = Spec.Begins name.now
line declared.TheVariants.Widens = Spec.Widens
line (declared.TheVariants.Receives name address) = Spec.Receives name.now address.now
line (declared.TheVariants.Versions accepted) = Spec.Versions (now_all accepted.items)
line (declared.TheVariants.Processing accepted) = Spec.Processing (now_all accepted.items)
line (declared.TheVariants.Opens kind) = Spec.Opens kind
line (declared.TheVariants.Routes route) = Spec.Routes route.code.now route.event.now (option_map said route.senders) route.profile.now
line (declared.TheVariants.Delivers receiver map) = Spec.Delivers receiver.now map.now

abbrev pub receiver_value : Receiver → ReceiverValue
receiver_value r = record { name = r.name.items; address = r.address.items }

-- a receiver by its name
abbrev pub receiver_entry : Vec ℕ × Vec ℕ → ReceiverValue
receiver_entry e = record { name = e.0.items; address = e.1.items }

abbrev pub senders_value : kept.Senders → Senders
senders_value s = record { field = s.field; words = bytes_all s.words.items }

-- a route and a plan, by their fields
abbrev pub held_route : (code event : Vec ℕ) → Option kept.Senders → Arc profiles.Contents Global → List (ℕ × Arc CheckedValue Global) → RouteHeld
held_route code event senders profile legs =
    record { code = code.items; event = event.items; senders = option_map senders_value senders; profile = arc_value profile; legs = map (λ l. (l.0, arc_value l.1)) legs }

abbrev pub held_plan : Vec ℕ → Vec Receiver → (versions processing : Vec (Vec ℕ)) → Vec RouteHeld → PlanHeld
held_plan text receivers versions processing routes =
    record {
      text = text.items;
      receivers = map receiver_value receivers.items;
      versions = bytes_all versions.items;
      processing = bytes_all processing.items;
      routes = routes.items;
    }
