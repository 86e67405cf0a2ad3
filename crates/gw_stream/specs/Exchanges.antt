-- Contents that are answered in turn, by a judge whose state changes with each.
use Rattle.std.specs.Prelude.{◌≡◌, ℕ, ◌+◌, List, [], ◌∷◌, ◌++◌, length, map, take, Option, IfSome, Result}
use Rattle.std.specs.Io.KnownBytes.{Appends}
use Rattle.std.specs.List.{flat_map}
use Rattle.gw_ack.specs.declared.reply.Reply.{Reply}
use Rattle.gw_mllp.specs.Stream.{Has, Tail, block}
use Rattle.gw_stream.specs.declared.counts.Counts.{Counts}
use Rattle.gw_stream.specs.declared.fault.RunFault.{RunFault}
use Rattle.gw_stream.specs.declared.judge.Outcome.{Outcome}
use Rattle.gw_stream.specs.Answers.{Answer, IsReadAs, IsSaidUnder, IsSettled, Message}
use Rattle.gw_stream.specs.Counted.{nothing, with_answer}
use Rattle.gw_stream.specs.Sent.{SendsPart}
use Rattle.gw_stream.specs.Streams.{Ends, HasFirst}

-- a content and its answer
pub record Exchange : Type 0 where
  pub content : List ℕ
  pub answer : Answer

abbrev pub content_of : Exchange → List ℕ
content_of e = e.content

-- the blocks of the answers
abbrev pub blocks_of : List Exchange → List ℕ
blocks_of done = flat_map (λ e. block e.answer.content) done

-- these answers more
abbrev pub with_answers : List Exchange → Counts → Counts
with_answers [] counts = counts
with_answers (e ∷ done) counts = with_answers done (with_answer e.answer.code counts)

module _ {S : Type 0} (Settles : S → S → ℕ → Option Message → Outcome → Type 0) (Breaks : S → S → Option Message → Type 0) where
  -- The first of these contents was perhaps begun, under this number, and not answered: its judge failed, or its answer wasn't made.
  pub data Begins (number : ℕ) (from : S) : List (List ℕ) → S → Type 0 where
    not_yet : (others : List (List ℕ)) → Begins number from others from
    begun : (content : List ℕ) (others : List (List ℕ)) (what : Option Message) (to : S) → IsReadAs content what
        → Breaks from to what → Begins number from (content ∷ others) to
    unanswered : (content : List ℕ) (others : List (List ℕ)) (what : Option Message) (outcome : Outcome) (to : S) → IsReadAs content what
        → Settles from to number what outcome → Begins number from (content ∷ others) to

module _ {S : Type 0} (Secures Withholds : S → S → Type 0) where
  -- At the end of a run nothing more is secured, or all is, or it is withheld: so many are secured in all.
  pub data Closes (kept all : ℕ) (from to : S) : ℕ → Type 0 where
    as_it_is : to ≡ from → Closes kept all from to kept
    secured_last : Secures from to → Closes kept all from to all
    withheld : Withholds from to → Closes kept all from to kept

module _ {S : Type 0} (Settles : S → S → ℕ → Option Message → Outcome → Type 0) (Secures : S → S → Type 0) where
  -- From this state on a judge settled contents in turn, numbered from 1, secured the first of them, as many as this, and came to that state.
  pub data Exchanges (from : S) : ℕ → List Exchange → S → Type 0 where
    none : Exchanges from 0 [] from
    more : (mid to : S) (kept : ℕ) (done : List Exchange) (content : List ℕ) (answer : Answer) → Exchanges from kept done mid
        → IsSettled (Settles mid to (length done + 1)) content answer → Exchanges from kept (done ++ record { content = content; answer = answer } ∷ []) to
    secured : (mid to : S) (kept : ℕ) (done : List Exchange) → Exchanges from kept done mid → Secures mid to → Exchanges from (length done) done to

  -- All blocks of the stream were settled in turn, and secured: known bytes grew by the blocks of their answers, and of nothing else, and these are their counts.
  pub record AllExchanged (stream : Option (List ℕ)) (old new : S) (before after : Option (List ℕ)) (tail : Tail) (counts : Counts) : Type 0 where
    pub done : List Exchange
    pub each : Exchanges old (length done) done new
    pub cut : IfSome stream (λ bytes. Has bytes (map content_of done) tail)
    pub bytes : Appends before after (blocks_of done)
    pub counted : counts ≡ with_answers done nothing

  -- The first blocks of the stream were settled in turn, the next one perhaps begun, and some of them secured:
  -- known bytes grew by a beginning of the blocks of the answers to those that were secured.
  module _ (Breaks : S → S → Option Message → Type 0) (Withholds : S → S → Type 0) where
    pub record SomeExchanged (stream : Option (List ℕ)) (old new : S) (before after : Option (List ℕ)) : Type 0 where
      pub done : List Exchange
      pub mid : S
      pub kept : ℕ
      pub each : Exchanges old kept done mid
      pub others : List (List ℕ)
      pub last : S
      pub begins : Begins Settles Breaks (length done + 1) mid others last
      pub secured_in_all : ℕ
      pub closes : Closes Secures Withholds kept (length done) last new secured_in_all
      pub first : IfSome stream (λ bytes. HasFirst bytes (map content_of done ++ others))
      pub bytes : SendsPart before after (blocks_of (take secured_in_all done))

    -- what a run did, by its result: all blocks were settled, or the first ones
    abbrev pub EndsExchanged : Option (List ℕ) → S → S → Option (List ℕ) → Option (List ℕ) → Result Counts RunFault → Type 0
    EndsExchanged stream old new before after result =
        Ends (AllExchanged stream old new before after) (λ fault. SomeExchanged stream old new before after) result

-- ---- by what is said to each message alone

-- each answer has this stamp, and the number of its block; nothing is kept from one to the next
abbrev pub Answers : (Message → Reply → Type 0) → List ℕ → Unit {0} → Unit {0} → ℕ → Option Message → Outcome → Type 0
Answers Judged stamp old new number = IsSaidUnder Judged stamp number

-- known bytes grew by the blocks of the answers to all blocks of the stream, and of nothing else, and these are their counts
abbrev pub AnswersAll : (Message → Reply → Type 0) → List ℕ → Option (List ℕ) → Option (List ℕ) → Option (List ℕ) → Tail → Counts → Type 0
AnswersAll Judged stamp stream before after = AllExchanged (Answers Judged stamp) (λ old new. Unit {0}) stream tt tt before after

-- known bytes grew by a beginning of the blocks of the answers to the first blocks of the stream
abbrev pub AnswersPart : (Message → Reply → Type 0) → List ℕ → Option (List ℕ) → Option (List ℕ) → Option (List ℕ) → Type 0
AnswersPart Judged stamp stream before after =
    SomeExchanged (Answers Judged stamp) (λ old new. Unit {0}) (λ old new what. Unit {0}) (λ old new. ⊥) stream tt tt before after

-- what a run did, by its result: all blocks were answered, or the first ones
abbrev pub EndsAnswered : (Message → Reply → Type 0) → List ℕ → Option (List ℕ) → Option (List ℕ) → Option (List ℕ) → Result Counts RunFault → Type 0
EndsAnswered Judged stamp stream before after result =
    Ends (AnswersAll Judged stamp stream before after) (λ fault. AnswersPart Judged stamp stream before after) result
