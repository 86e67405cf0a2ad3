-- How a run that gathers its answers comes on.
use Rattle.std.specs.Prelude.{◌≡◌, ℕ, ◌+◌, ◌≤◌, Bool, true, false, List, ◌++◌, length, map, take, Option, Result, IfOk}
use Rattle.std.specs.Io.KnownBytes.{Appends}
use Rattle.gw_ack.specs.Headers.{HeaderValue}
use Rattle.gw_mllp.specs.Stream.{block}
use Rattle.gw_stream.specs.declared.by_profile.ByProfile.{ByProfile}
use Rattle.gw_stream.specs.declared.counts.Counts.{Counts}
use Rattle.gw_stream.specs.declared.exchange.Answer as program
use Rattle.gw_stream.specs.declared.fault.RunFault.{RunFault}
use Rattle.gw_stream.specs.declared.fault.RunFault.TheVariants.{Memory, Write, Withheld}
use Rattle.gw_stream.specs.declared.judge.Outcome.{Outcome}
use Rattle.gw_stream.specs.Answers.{Answer, IsReadAs, IsSaidUnder, IsSettled, Message, ValidatedBy, header_for}
use Rattle.gw_stream.specs.Counted.{IsTotal, nothing, with_answer}
use Rattle.gw_stream.specs.Exchanges.{Exchange, Exchanges, blocks_of, content_of, with_answers}
use Rattle.gw_stream.specs.Sent.{SendsPart}
use Rattle.gw_stream.specs.Walked.{Place, Walks}

abbrev pub answered : program.Answer → Answer
answered a = record { code = a.code; content = a.content.items }

-- whatever content is read so, it is settled, and the answer under this header says so, if one was made
abbrev pub SettlesRead : {E : Type 0} → (Option Message → Outcome → Type 0) → Option Message → HeaderValue → Result program.Answer E → Type 0
SettlesRead Settles what header result =
    (content : List ℕ) → IsReadAs content what → header ≡ header_for what → IfOk result (λ a. IsSettled Settles content (answered a))

-- what a judge by one profile settles
pub record ProfileSettles (old new : ByProfile) (number : ℕ) (what : Option Message) (outcome : Outcome) : Type 0 where
  pub same : new ≡ old
  pub says : IsSaidUnder (ValidatedBy old.profile) old.stamp number what outcome

-- what was gathered when an allocation failed was secured and went out, whole or in part; or it was withheld
pub data SentAtLast {S : Type 0} (Secures Withholds : S → S → Type 0) (old new : S) (before after : Option (List ℕ)) (gathered : List ℕ)
    : Bool → RunFault → Type 0 where
  sent : Secures old new → Appends before after gathered → SentAtLast Secures Withholds old new before after gathered false Memory
  cut : Secures old new → SendsPart before after gathered → SentAtLast Secures Withholds old new before after gathered true Write
  held : Withholds old new → after ≡ before → SentAtLast Secures Withholds old new before after gathered false Withheld

module _ {S : Type 0} (Settles : S → S → ℕ → Option Message → Outcome → Type 0) where
  -- a content was settled, its answer's block gathered and counted
  pub record Gathers (old new : S) (content before after : List ℕ) (c c' : Counts) : Type 0 where
    pub answer : Answer
    pub settled : IsSettled (Settles old new (c.answered + 1)) content answer
    pub gathered : after ≡ before ++ block answer.content
    pub counted : c' ≡ with_answer answer.code c

  -- All blocks that were given so far were settled, and their answers' blocks written but for those that are gathered: those that are secured.
  pub record Progress (Secures : S → S → Type 0) (old new : S) (left : Option (List ℕ)) (reads : ℕ) (here : Place) (before after : Option (List ℕ))
      (gathered : List ℕ) (counts : Counts) : Type 0 where
    pub done : List Exchange
    pub kept : ℕ
    pub each : Exchanges Settles Secures old kept done new
    pub within : kept ≤ length done
    pub walks : Walks left reads here (map content_of done)
    pub sent : List ℕ
    pub written : Appends before after sent
    pub out : sent ≡ blocks_of (take kept done)
    pub whole : blocks_of done ≡ sent ++ gathered
    pub counted : counts ≡ with_answers done nothing
    pub number : counts.answered ≡ length done
    pub total : IsTotal counts
