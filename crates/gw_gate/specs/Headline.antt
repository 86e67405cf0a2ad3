-- What a receiver is sent, over every lawful journal.
use Rattle.std.specs.Prelude.{◌≡◌, ℕ, ◌+◌, ◌≤◌, List, [], ◌∷◌, map, take, length, slice_get, Some, ⊤}
use Rattle.std.specs.List.{AllByRecursion}
use Rattle.gw_gate.specs.Parts.{MessageSeen, TranslatedSeen}
use Rattle.gw_gate.specs.Journal.{Journal, Version, Acceptance, Release, plans, accepted, acceptance, due, released}
use Rattle.gw_gate.specs.Meaning.{Admits}

-- numbers that never fall
abbrev pub NeverFall : ℕ → List ℕ → Type 0
NeverFall low [] = ⊤
NeverFall low (n ∷ ns) = (low ≤ n) × NeverFall n ns

-- the versions under which messages were accepted never fall
abbrev pub VersionsRise : Journal → Type 0
VersionsRise j = NeverFall j.start.version (map (λ a. a.conforming.version) (accepted j.entries))

-- numbers that count on from this one
abbrev pub CountFrom : ℕ → List ℕ → Type 0
CountFrom first [] = ⊤
CountFrom first (n ∷ ns) = (n ≡ first) × CountFrom (first + 1) ns

-- numbers of which each is above the one before it, and the first at least low
abbrev pub RiseFrom : ℕ → List ℕ → Type 0
RiseFrom low [] = ⊤
RiseFrom low (n ∷ ns) = (low ≤ n) × RiseFrom (n + 1) ns

-- Acceptances and plans are numbered on from the start, so each number occurs once. Each due number occurs once too.
pub record Numbered (j : Journal) : Type 0 where
  pub accepted : CountFrom j.start.acceptances (map (λ a. a.n) (accepted j.entries))
  pub plans : CountFrom j.start.version (map (λ v. v.number) (plans j))
  pub due : (r : ℕ) → RiseFrom j.start.acceptances (due j.entries r)

-- Given: what the plan of a text makes of a message for a receiver.
module _ (Means : List ℕ → MessageSeen → ℕ → MessageSeen → Type 0) where
  -- a translation is what its plan makes of its source's message
  abbrev pub IsTranslated : TranslatedSeen → Type 0
  IsTranslated t = Means t.source.text t.source.message t.receiver t.message

  -- What was released is what the plan of the version makes under which its message was accepted; and by that plan's text the message conforms to the profile of its route.
  pub record IsSent (j : Journal) (r : ℕ) (out : Release) : Type 0 where
    pub by : Acceptance
    pub accepted : acceptance j.entries out.n ≡ Some by
    pub version : Version
    pub place : ℕ
    pub among : slice_get (plans j) place ≡ Some version
    pub number : by.conforming.version ≡ version.number
    pub text : by.conforming.text ≡ version.plan.text
    pub admitted : Admits by.conforming
    pub means : Means version.plan.text by.conforming.message r out.translated.message

  -- What was released to a receiver is a beginning of what was due to it, in order and each once; and each is such a translation.
  pub record InOrder (j : Journal) (r : ℕ) : Type 0 where
    pub order : map (λ out. out.n) (released j.entries r) ≡ take (length (released j.entries r)) (due j.entries r)
    pub each : AllByRecursion (IsSent j r) (released j.entries r)
