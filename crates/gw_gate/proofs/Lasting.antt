-- Journals stay lawful.
use Rattle.std.proofs.Common.{◌≡◌, Bool, List, [], ◌∷◌, Option, None, Some, refl, sym, subst}
use Rattle.std.specs.Prelude.{Result, Ok, Err}
use Rattle.gw_gate.specs.Parts.{TranslatedSeen}
use Rattle.gw_gate.specs.Journal.{EntrySeen, Journal}
use Rattle.gw_gate.specs.Replies.{EventSeen, ReplySeen, added, most, reply, with_added, closed_by, or_next, after, run, Steps, StepsNoted}
use Rattle.gw_gate.specs.Lawful.{IsEvent, AreEvents, empty, more, IsLawful}

module _ (IsTranslated : TranslatedSeen → Type 0) where
  pub lawful_with : (j : Journal) (event : EventSeen) (o : Option EntrySeen) → o ≡ added event (reply j event) → IsEvent IsTranslated event
      → IsLawful IsTranslated j → IsLawful IsTranslated (with_added j o)
  lawful_with j event None is fact lawful = lawful
  lawful_with j event (Some e) is fact lawful = more j.entries event e lawful fact (sym is)

  -- an empty journal is lawful, wherever it starts
  lawful_or : (j : Journal) (o : Option Journal) → IsLawful IsTranslated j → IsLawful IsTranslated (or_next j o)
  lawful_or j None lawful = lawful
  lawful_or j (Some chapter) lawful = empty

  pub lawful_after : (j : Journal) (event : EventSeen) → IsEvent IsTranslated event → IsLawful IsTranslated j → IsLawful IsTranslated (after most j event)
  lawful_after j event fact lawful = lawful_or (with_added j (added event (reply j event))) (closed_by (reply j event)) (lawful_with j event (added event (reply j event)) refl fact lawful)

  pub lawful_run : (j : Journal) (events : List EventSeen) → AreEvents IsTranslated events → IsLawful IsTranslated j → IsLawful IsTranslated (run most j events)
  lawful_run j [] facts lawful = lawful
  lawful_run j (event ∷ events) facts lawful = lawful_run (after most j event) events facts.1 (lawful_after j event facts.0 lawful)

  pub lawful_step : (old new : Journal) (event : EventSeen) (result : Result ReplySeen EventSeen) → IsEvent IsTranslated event → Steps old event result new
      → IsLawful IsTranslated old → IsLawful IsTranslated new
  lawful_step old new event (Ok given) fact steps lawful = subst (IsLawful IsTranslated) (sym steps.new_is) (lawful_after old event fact lawful)
  lawful_step old new event (Err back) fact steps lawful = subst (IsLawful IsTranslated) (sym steps.new_is) lawful

  pub lawful_noted : (takes : Bool) (old new : Journal) (event : EventSeen) (result : Result (ReplySeen × Option EntrySeen) EventSeen) → IsEvent IsTranslated event → StepsNoted takes old event result new
      → IsLawful IsTranslated old → IsLawful IsTranslated new
  lawful_noted takes old new event (Ok given) fact steps lawful = subst (IsLawful IsTranslated) (sym steps.replied.new_is) (lawful_after old event fact lawful)
  lawful_noted takes old new event (Err back) fact steps lawful = subst (IsLawful IsTranslated) (sym steps.new_is) lawful
