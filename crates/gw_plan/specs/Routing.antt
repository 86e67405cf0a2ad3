-- Which route a message takes (HL7 v2.5.1 chapter 2, 2.15.9 "MSH - message header segment").
use Rattle.std.specs.Prelude.{ℕ, Bool, true, ◌&&◌, if◌then◌else◌, List, [], ◌∷◌, Option, Some, None, bytes_eq, Result, Ok, Err}
use Rattle.std.specs.List.{list_any}
use Rattle.gw_er7.specs.Message.{SegmentValue, text_of}
use Rattle.gw_plan.specs.Shapes.{PlanValue, RouteValue}
use Rattle.gw_plan.specs.Senders.{Header, field_number, are_of}
use Rattle.gw_plan.specs.Draft.{is_for}

-- the canonical text of MSH-field.component, by repetition and subcomponent 1
abbrev pub header_text : List SegmentValue → ℕ → ℕ → List ℕ
header_text [] field comp = []
header_text (header ∷ segments) field comp = text_of header.at field 1 comp 1

-- some route is for this code
abbrev pub is_code : List ℕ → List RouteValue → Bool
is_code code routes = list_any (λ r. bytes_eq code r.code) routes

-- whether a route takes a message of this code, event and header
abbrev pub takes : List ℕ → List ℕ → Header → RouteValue → Bool
takes code event header r = is_for code event r && are_of header r.senders

-- the first route that takes such a message
abbrev pub route_for : List ℕ → List ℕ → Header → List RouteValue → Option RouteValue
route_for code event header [] = None
route_for code event header (r ∷ routes) = if takes code event header r then Some r else route_for code event header routes

-- whether a text is accepted: any is, where none is said
abbrev pub is_accepted : List (List ℕ) → List ℕ → Bool
is_accepted [] text = true
is_accepted (word ∷ words) text = list_any (bytes_eq text) (word ∷ words)

-- the tests of version and processing id, for a route that is there
abbrev pub admitted : Bool → Bool → Option RouteValue → Result RouteValue ℕ
admitted version processing None = Err 201
admitted version processing (Some route) = if version then (if processing then Ok route else Err 202) else Err 203

-- The message type, the event and the senders, the version, the processing id: the first test that fails gives its code (HL7 table 0357).
abbrev pub routed_by : PlanValue → (code event : List ℕ) → Header → (version processing : List ℕ) → Result RouteValue ℕ
routed_by plan code event header version processing =
    if is_code code plan.routes
    then admitted (is_accepted plan.versions version) (is_accepted plan.processing processing) (route_for code event header plan.routes)
    else Err 200

-- the texts of a message that name its senders
abbrev pub header_of : List SegmentValue → Header
header_of m field = header_text m (field_number field) 1

-- the route of a message by MSH-9.1, MSH-9.2, its senders, MSH-12.1 and MSH-11.1, or the code of the first test that fails
abbrev pub routed : PlanValue → List SegmentValue → Result RouteValue ℕ
routed plan m = routed_by plan (header_text m 9 1) (header_text m 9 2) (header_of m) (header_text m 12 1) (header_text m 11 1)
