-- What the replies of a door say.
use Rattle.std.proofs.Common.{◌≡◌, ℕ, List, [], ◌∷◌, Option, None, Some, refl, sym, ap, subst}
use Rattle.gw_gate.specs.Journal.{WasAccepted, WasRefused}
use Rattle.gw_gate.specs.Parts.{ConformingSeen}
use Rattle.gw_gate.specs.Replies.{Arrives, Refuses, ReplySeen, IsAccepted, IsStale, IsRefused, IsFull}
use Rattle.gw_ack.specs.declared.reply.Reply.{Reply}
use Rattle.gw_ack.specs.declared.reply.Reply.TheVariants.{Reject}
use Rattle.gw_crew.specs.Notes.{NoteSeen, WasStale, WasFull, Added, Notes}
use Rattle.gw_crew.specs.own.Turns.{Adds}
use Rattle.gw_session.specs.Sessions.{HasCode}
use Rattle.gw_session.specs.own.Steps.{ArriveSeen, ComesTo, EndsIn, arrival_of, arrive_of}
use Rattle.gw_session.specs.own.Steps as steps

came_noted : (c : ConformingSeen) (given : ReplySeen) (old new : List NoteSeen) → Notes (Arrives c) given old new → Adds (ComesTo c (arrive_of given)) old new
came_noted c (IsAccepted n arrival) old new noted =
    record { more = Added noted.at (WasAccepted n arrival c) ∷ []; holds = record { at = noted.at; n = n; is = refl }; noted = noted.notes }
came_noted c (IsStale v back) old new noted = record {
  more = WasStale v back ∷ [];
  holds = record { same = noted.answers; version = v; is = ap (λ d. WasStale v d ∷ []) noted.answers };
  noted = noted.notes;
}
came_noted c (IsFull back) old new noted = record { more = WasFull ∷ []; holds = refl; noted = noted.notes }
came_noted c given old new noted = absurd noted.answers

pub arrive_noted : (c : ConformingSeen) (given : ReplySeen) (came : ArriveSeen) (old new : List NoteSeen) → came ≡ arrive_of given
    → Notes (Arrives c) given old new → Adds (ComesTo c came) old new
arrive_noted c given came old new is noted = subst (λ x. Adds (ComesTo c x) old new) (sym is) (came_noted c given old new noted)

-- what is noted of a refusal, by the number of the arrival
abbrev pub Ended : Reply → Option ℕ → List NoteSeen → Type 0
Ended asked (Some number) notes = EndsIn asked number asked notes
Ended asked None notes = EndsIn asked 0 (Reject 207) notes

ended : (asked : Reply) (code : ℕ) (given : ReplySeen) (old new : List NoteSeen) → HasCode asked code → Notes (Refuses code) given old new
    → Adds (Ended asked (arrival_of given)) old new
ended asked code (IsRefused arrival) old new has noted =
    record { more = Added noted.at (WasRefused arrival code) ∷ []; holds = steps.refused noted.at arrival code has; noted = noted.notes }
ended asked code (IsFull back) old new has noted = record { more = WasFull ∷ []; holds = steps.full; noted = noted.notes }
ended asked code given old new has noted = absurd noted.answers

pub ended_so : (asked : Reply) (code : ℕ) (given : ReplySeen) (number : Option ℕ) (old new : List NoteSeen) → HasCode asked code
    → number ≡ arrival_of given → Notes (Refuses code) given old new → Adds (Ended asked number) old new
ended_so asked code given number old new has is noted = subst (λ o. Adds (Ended asked o) old new) (sym is) (ended asked code given old new has noted)
