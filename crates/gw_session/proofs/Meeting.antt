-- A judge at a door, seen through the notes.
use Rattle.std.proofs.Common.{◌≡◌, ◌∙◌, ℕ, List, Option, Result, refl}
use Rattle.gw_er7.specs.Message.{SegmentValue}
use Rattle.gw_stream.specs.declared.counts.Counts.{Counts}
use Rattle.gw_stream.specs.declared.fault.RunFault.{RunFault}
use Rattle.gw_stream.specs.declared.judge.Outcome.{Outcome}
use Rattle.gw_stream.specs.Exchanges.{AllExchanged, SomeExchanged}
use Rattle.gw_stream.specs.Streams.{Ends}
use Rattle.gw_stream.proofs.Exchanging.{ends_seen}
use Rattle.gw_crew.specs.Notes.{NoteSeen}
use Rattle.gw_crew.specs.own.Turns.{Adds}
use Rattle.gw_session.specs.Sessions.{Breaks, IsOutcome, SameNotes, SessionAll, SessionPart, Settles}
use Rattle.gw_session.specs.own.Steps.{SameStamps}

-- stamps that can be given are so from the first on
pub same_stamps : (Before Mid After : List ℕ → Type 0) → SameStamps Before Mid → SameStamps Mid After → SameStamps Before After
same_stamps Before Mid After first then stamp = (λ given. (first stamp).0 ((then stamp).0 given), λ given. (then stamp).1 ((first stamp).1 given))

pub settled_so : (Gives : List ℕ → Type 0) (old new : List NoteSeen) (place : ℕ) (what : Option (List SegmentValue)) (outcome : Outcome)
    → Adds (λ notes. IsOutcome what notes outcome.number outcome.reply) old new → Gives outcome.stamp → Settles Gives old new place what outcome
settled_so Gives old new place what outcome settled given = record { notes = settled.more; is_outcome = settled.holds; noted = settled.noted; given = given }

-- the same by what gave its stamps at first
pub settled_as : (Gives Given : List ℕ → Type 0) (old new : List NoteSeen) (place : ℕ) (what : Option (List SegmentValue)) (outcome : Outcome)
    → SameStamps Gives Given → Settles Given old new place what outcome → Settles Gives old new place what outcome
settled_as Gives Given old new place what outcome same is =
    record { notes = is.notes; is_outcome = is.is_outcome; noted = is.noted; given = (same outcome.stamp).0 is.given }

-- ---- a judge that keeps a door and a clock

module _ {S N : Type 0} (name : S → N) (gives : S → List ℕ → Type 0) (noted : S → List NoteSeen) where
  abbrev SettlesHere : S → S → ℕ → Option (List SegmentValue) → Outcome → Type 0
  SettlesHere s t place what outcome = (name t ≡ name s) × SameStamps (gives s) (gives t) × Settles (gives s) (noted s) (noted t) place what outcome

  abbrev BreaksHere : S → S → Option (List SegmentValue) → Type 0
  BreaksHere s t what = (name t ≡ name s) × SameStamps (gives s) (gives t) × Breaks (noted s) (noted t) what

  abbrev SecuresHere : S → S → Type 0
  SecuresHere s t = (name t ≡ name s) × SameStamps (gives s) (gives t) × (noted t ≡ noted s)

  pub seen_at_door : (stream before after : Option (List ℕ)) (s t : S) (result : Result Counts RunFault)
      → Ends (AllExchanged SettlesHere SecuresHere stream s t before after)
      (λ fault. SomeExchanged SettlesHere SecuresHere BreaksHere (λ u v. ⊥) stream s t before after) result
      → (name t ≡ name s)
      × Ends (SessionAll (gives s) stream (noted s) (noted t) before after) (λ fault. SessionPart (gives s) stream (noted s) (noted t) before after) result
  seen_at_door stream before after s t result ends =
      let seen = ends_seen SettlesHere (Settles (gives s)) SecuresHere SameNotes BreaksHere Breaks (λ u v. ⊥) (λ u v. ⊥) noted (λ u. (name u ≡ name s) × SameStamps (gives s) (gives u))
      (λ u v place what outcome keeps is. (
        (is.0 ∙ keeps.0, same_stamps (gives s) (gives u) (gives v) keeps.1 is.1),
        settled_as (gives s) (gives u) (noted u) (noted v) place what outcome keeps.1 is.2,
      ))
      (λ u v keeps is. ((is.0 ∙ keeps.0, same_stamps (gives s) (gives u) (gives v) keeps.1 is.1), is.2))
      (λ u v what keeps is. ((is.0 ∙ keeps.0, same_stamps (gives s) (gives u) (gives v) keeps.1 is.1), is.2))
      (λ u v keeps never. absurd never)
      stream s t before after (refl, λ stamp. (λ given. given, λ given. given)) result ends in
      (seen.0.0, seen.1)
