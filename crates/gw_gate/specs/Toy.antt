-- A toy: one receiver, two plans, messages of one segment.
use Rattle.std.specs.Prelude.{ℕ, ◌+◌, [], ◌∷◌}
use Rattle.gw_gate.specs.Parts.{MessageSeen, PlanSeen, ConformingSeen, TranslatedSeen}
use Rattle.gw_gate.specs.Journal.{Journal, opening, from}
use Rattle.gw_gate.specs.Replies.{Arrives, Takes, Puts, run, most}

abbrev pub first_plan : PlanSeen
first_plan = record { text = 1 ∷ []; receivers = record { name = 65 ∷ []; address = [] } ∷ [] }

abbrev pub second_plan : PlanSeen
second_plan = record { text = 2 ∷ []; receivers = record { name = 65 ∷ []; address = [] } ∷ [] }

-- a plan with another receiver
abbrev pub other_plan : PlanSeen
other_plan = record { text = 3 ∷ []; receivers = record { name = 66 ∷ []; address = [] } ∷ [] }

-- a message of one segment with this name
abbrev pub named : ℕ → MessageSeen
named m = record { name = m ∷ []; texts = [] } ∷ []

-- a message that was admitted under the first plan as version 0, for the one receiver
abbrev pub message : ℕ → ConformingSeen
message m = record { text = 1 ∷ []; version = 0; message = named m; receivers = 0 ∷ [] }

-- what the first plan makes of it: it adds 100 to the name
abbrev pub made : ℕ → TranslatedSeen
made m = record { source = message m; receiver = 0; message = named (m + 100) }

-- the same, as if the message had been admitted under version 1
abbrev pub made_later : ℕ → TranslatedSeen
made_later m = record { source = record (message m) { version = 1 }; receiver = 0; message = named (m + 100) }

abbrev pub opened : Journal
opened = from (opening first_plan)

-- two messages, both taken and put
abbrev pub worked : Journal
worked = run most opened (Arrives (message 10) ∷ Arrives (message 11) ∷ Takes ∷ Takes ∷ Puts 1 (made 11) ∷ Puts 0 (made 10) ∷ [])

-- one message, taken
abbrev pub taken : Journal
taken = run most opened (Arrives (message 10) ∷ Takes ∷ [])
