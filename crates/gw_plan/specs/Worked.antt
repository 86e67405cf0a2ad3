-- A worked plan, and texts with one fault each.
use Rattle.std.specs.Prelude.{ℕ, Option, Some, None, List, [], ◌∷◌, codes, Result}
use Rattle.gw_profile.specs.declared.shape.Count.TheVariants.{Octets}
use Rattle.gw_profile.specs.Shapes.{nothing, ProfileValue}
use Rattle.gw_plan.specs.declared.senders.HeaderField.TheVariants.{SendingApplication, SendingFacility}
use Rattle.gw_plan.specs.Senders.{Senders, Header}
use Rattle.gw_plan.specs.Shapes.{RouteValue, PlanValue}
use Rattle.gw_plan.specs.Joined.{joined}
use Rattle.gw_plan.specs.Routing.{routed_by}

-- ---- routes

abbrev profile : ProfileValue
profile = record { name = codes "P2"; count = Octets; tables = []; nodes = nothing }

-- admissions, and messages without an event
abbrev pub admission : RouteValue
admission = record { code = codes "ADT"; event = codes "A01"; senders = None; profile = profile; legs = [] }

abbrev pub report : RouteValue
report = record { code = codes "ORU"; event = []; senders = None; profile = profile; legs = [] }

abbrev pub worked : PlanValue
worked = record { receivers = []; versions = codes "2.5.1" ∷ []; processing = codes "P" ∷ codes "T" ∷ []; routes = admission ∷ report ∷ [] }

-- a header that says nothing, and one from this application and facility
abbrev pub no_header : Header
no_header field = []

abbrev pub from_there : List ℕ → List ℕ → Header
from_there application facility SendingApplication = application
from_there application facility SendingFacility = facility
from_there application facility other = []

-- reports of two applications, of a facility, and of all others
abbrev pub report_of : Option Senders → RouteValue
report_of senders = record { code = codes "ORU"; event = codes "R01"; senders = senders; profile = profile; legs = [] }

abbrev pub of_applications : RouteValue
of_applications = report_of (Some (record { field = SendingApplication; words = codes "LAB1" ∷ codes "LAB2" ∷ [] }))

abbrev pub of_facility : RouteValue
of_facility = report_of (Some (record { field = SendingFacility; words = codes "NORTH" ∷ [] }))

abbrev pub of_others : RouteValue
of_others = report_of None

abbrev pub told_apart : PlanValue
told_apart = record { receivers = []; versions = []; processing = []; routes = of_applications ∷ of_facility ∷ [] }

abbrev pub with_others : PlanValue
with_others = record told_apart { routes = of_applications ∷ of_facility ∷ of_others ∷ [] }

-- the same without `accept` lines
abbrev pub open_worked : PlanValue
open_worked = record worked { versions = []; processing = [] }

-- the route of a report from this application and facility
abbrev pub report_from : PlanValue → List ℕ → List ℕ → Result RouteValue ℕ
report_from plan application facility = routed_by plan (codes "ORU") (codes "R01") (from_there application facility) [] []

-- ---- texts, by their lines behind the first

abbrev pub plan : List (List ℕ) → List ℕ
plan lines = joined (codes "plan G" ∷ lines)

abbrev pub second_receiver : List ℕ
second_receiver = plan (codes "receiver A x" ∷ codes "receiver A y" ∷ [])

abbrev pub stray_leg : List ℕ
stray_leg = plan (codes "receiver A x" ∷ codes "to A by M" ∷ [])

abbrev pub unknown_profile : List ℕ
unknown_profile = plan (codes "route ADT A01 from P" ∷ [])

-- of a profile that stands in no text: a fault that comes before its name is looked for is distinguished from it
abbrev pub of_senders : List ℕ
of_senders = plan (codes "route ORU R01 of MSH-3 LAB1 from P" ∷ [])

abbrev pub wide_senders : List ℕ
wide_senders = plan (codes "language 2" ∷ codes "route ORU R01 of MSH-3 LAB1 from P" ∷ [])

abbrev pub twice_said : List ℕ
twice_said = plan (codes "language 2" ∷ codes "route ORU R01 of MSH-3 LAB1 LAB1 from P" ∷ [])

abbrev pub other_field : List ℕ
other_field = plan (codes "language 2" ∷ codes "route ORU R01 of MSH-7 LAB1 from P" ∷ [])

abbrev pub no_sender : List ℕ
no_sender = plan (codes "language 2" ∷ codes "route ORU R01 of MSH-3 from P" ∷ [])

abbrev pub late_language : List ℕ
late_language = plan (codes "receiver A x" ∷ codes "language 2" ∷ [])

abbrev pub other_language : List ℕ
other_language = plan (codes "language 3" ∷ [])

abbrev pub twice_wide : List ℕ
twice_wide = plan (codes "language 2" ∷ codes "language 2" ∷ [])

abbrev pub empty_profile : List ℕ
empty_profile = plan (codes "begin profile" ∷ codes "stop" ∷ [])

abbrev pub broken_profile : List ℕ
broken_profile = plan (codes "begin profile" ∷ codes "profile P" ∷ codes "\"x" ∷ codes "stop" ∷ [])

abbrev pub refused_profile : List ℕ
refused_profile = plan (codes "begin profile" ∷ codes "profile P" ∷ codes "segment" ∷ codes "stop" ∷ [])

abbrev pub headless_profile : List ℕ
headless_profile = plan (codes "begin profile" ∷ codes "profile P" ∷ codes "stop" ∷ [])

abbrev pub unstopped_profile : List ℕ
unstopped_profile = plan (codes "begin profile" ∷ codes "profile P" ∷ [])

abbrev pub stray_map : List ℕ
stray_map = plan (codes "begin map" ∷ codes "map M from A to B" ∷ codes "row" ∷ codes "stop" ∷ [])
