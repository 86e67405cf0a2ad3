-- The journal of a gate, and what it says.
use Rattle.std.specs.Prelude.{ℕ, ◌+◌, ◌==◌, ◌&&◌, Bool, if◌then◌else◌, List, [], ◌∷◌, ◌++◌, map, filter, find, length, Option, None, Some}
use Rattle.std.specs.List.{list_any}
use Rattle.gw_gate.specs.Parts.{PlanSeen, ConformingSeen, TranslatedSeen, delivers}

-- ---- what a journal is

-- an entry
pub data EntrySeen : Type 0 where
  WasAccepted : (n arrival : ℕ) → (conforming : ConformingSeen) → EntrySeen
  WasRefused : (arrival code : ℕ) → EntrySeen
  WasSwapped : (version : ℕ) → (plan : PlanSeen) → EntrySeen
  WasTaken : (n receiver : ℕ) → EntrySeen
  WasKept : (n : ℕ) → (translated : TranslatedSeen) → EntrySeen
  WasIssued : (n receiver : ℕ) → EntrySeen
  WasOut : (n receiver : ℕ) → (translated : TranslatedSeen) → EntrySeen

-- a plan with its number
pub record Version : Type 0 where
  pub number : ℕ
  pub plan : PlanSeen

-- where a journal starts: under which version and plan, and after how many acceptances, arrivals and entries
pub record Start : Type 0 where
  pub version : ℕ
  pub plan : PlanSeen
  pub acceptances : ℕ
  pub arrivals : ℕ
  pub entries : ℕ

pub record Journal : Type 0 where
  pub start : Start
  pub entries : List EntrySeen

-- the start of a gate that opens with this plan
abbrev pub opening : PlanSeen → Start
opening plan = record { version = 0; plan = plan; acceptances = 0; arrivals = 0; entries = 0 }

-- nothing happened yet
abbrev pub from : Start → Journal
from start = record { start = start; entries = [] }

-- one entry more
abbrev pub with_entry : Journal → EntrySeen → Journal
with_entry j e = record j { entries = j.entries ++ e ∷ [] }

-- ---- what its entries say

-- the plans that were swapped in, in order
abbrev pub swapped : List EntrySeen → List Version
swapped [] = []
swapped (WasSwapped v plan ∷ h) = record { number = v; plan = plan } ∷ swapped h
swapped (e ∷ h) = swapped h

-- an acceptance
pub record Acceptance : Type 0 where
  pub n : ℕ
  pub conforming : ConformingSeen

-- the acceptances, in order
abbrev pub accepted : List EntrySeen → List Acceptance
accepted [] = []
accepted (WasAccepted n arrival c ∷ h) = record { n = n; conforming = c } ∷ accepted h
accepted (e ∷ h) = accepted h

-- how many arrivals there were, accepted and refused
abbrev pub arrivals : List EntrySeen → ℕ
arrivals [] = 0
arrivals (WasAccepted n arrival c ∷ h) = arrivals h + 1
arrivals (WasRefused arrival code ∷ h) = arrivals h + 1
arrivals (e ∷ h) = arrivals h

-- the numbers of what was accepted for this receiver, in order
abbrev pub due : List EntrySeen → ℕ → List ℕ
due h r = map (λ a. a.n) (filter (λ a. delivers a.conforming r) (accepted h))

-- whether this number is due to this receiver
abbrev pub is_due : List EntrySeen → ℕ → ℕ → Bool
is_due h n r = list_any (λ m. m == n) (due h r)

-- what was accepted under this number
abbrev pub acceptance : List EntrySeen → ℕ → Option Acceptance
acceptance h n = find (λ a. a.n == n) (accepted h)

-- a number with a receiver
pub record Pair : Type 0 where
  pub n : ℕ
  pub receiver : ℕ

abbrev pub pair : ℕ → ℕ → Pair
pair n r = record { n = n; receiver = r }

-- the pairs to be worked on: of each acceptance one for each receiver of its route, and those issued again, all in order of entry
abbrev pub issued : List EntrySeen → List Pair
issued [] = []
issued (WasAccepted n arrival c ∷ h) = map (pair n) c.receivers ++ issued h
issued (WasIssued n r ∷ h) = pair n r ∷ issued h
issued (e ∷ h) = issued h

-- how many jobs were taken
abbrev pub jobs : List EntrySeen → ℕ
jobs [] = 0
jobs (WasTaken n r ∷ h) = jobs h + 1
jobs (e ∷ h) = jobs h

-- what was kept for this pair
abbrev pub kept : List EntrySeen → ℕ → ℕ → Option TranslatedSeen
kept [] n r = None
kept (WasKept m t ∷ h) n r = if (m == n) && (t.receiver == r) then Some t else kept h n r
kept (e ∷ h) n r = kept h n r

-- a translation that was released, with its number
pub record Release : Type 0 where
  pub n : ℕ
  pub translated : TranslatedSeen

-- what was released to this receiver, in order
abbrev pub released : List EntrySeen → ℕ → List Release
released [] r = []
released (WasOut n to t ∷ h) r = if to == r then record { n = n; translated = t } ∷ released h r else released h r
released (e ∷ h) r = released h r

-- ---- what the journal says, counted from its start

-- the plans: the one it starts with, and those swapped in
abbrev pub plans : Journal → List Version
plans j = record { number = j.start.version; plan = j.start.plan } ∷ swapped j.entries

abbrev pub last_of : Version → List Version → Version
last_of version [] = version
last_of version (next ∷ versions) = last_of next versions

-- the last of the plans
abbrev pub current : Journal → Version
current j = last_of (record { number = j.start.version; plan = j.start.plan }) (swapped j.entries)

-- the number that the next acceptance gets
abbrev pub next_number : Journal → ℕ
next_number j = j.start.acceptances + length (accepted j.entries)

-- the number that the next arrival gets
abbrev pub next_arrival : Journal → ℕ
next_arrival j = j.start.arrivals + arrivals j.entries + 1

-- how many entries were made in all
abbrev pub end : Journal → ℕ
end j = j.start.entries + length j.entries

-- where the next journal starts, when this one is closed
abbrev pub start_after : Journal → Start
start_after j = record {
  version = (current j).number;
  plan = (current j).plan;
  acceptances = next_number j;
  arrivals = j.start.arrivals + arrivals j.entries;
  entries = end j;
}
