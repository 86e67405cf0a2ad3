-- What a run sends to its writers, in order: one writer for the answers, and one for each receiver.
use Rattle.std.specs.Prelude.{ℕ, ◌==◌, Bool, true, false, ◌||◌, if◌then◌else◌, List, [], ◌∷◌, ◌++◌, map, Option, None, Vec, slice_index_or}
use Rattle.std.specs.Io.KnownBytes.{Appends}
use Rattle.std.specs.List.{list_any}
use Rattle.std.specs.declared.alloc.Global.{Global}
use Rattle.gw_stream.specs.declared.sink.Sink as sink
use Rattle.gw_stream.specs.Sent.{BeginsWith}

-- the sender of the messages, who is answered, or the receiver of this number
pub data Whom : Type 0 where
  sender : Whom
  receiver : ℕ → Whom

abbrev pub is_same : Whom → Whom → Bool
is_same sender sender = true
is_same sender (receiver r) = false
is_same (receiver r) sender = false
is_same (receiver r) (receiver s) = r == s

-- bytes for someone
pub record Post : Type 0 where
  pub whom : Whom
  pub bytes : List ℕ

-- one, for the receiver of this number
abbrev pub one_for : ℕ → List ℕ → List Post
one_for number bytes = record { whom = receiver number; bytes = bytes } ∷ []

-- those for this one, in order
abbrev pub bytes_to : Whom → List Post → List ℕ
bytes_to whom [] = []
bytes_to whom (post ∷ posts) = (if is_same whom post.whom then post.bytes else []) ++ bytes_to whom posts

-- what the writers hold, where that is known
pub record Known : Type 0 where
  pub to_sender : Option (List ℕ)
  pub to_receivers : List (Option (List ℕ))

-- by what each of them says of itself
abbrev pub known : {A W : Type 0} → (A → Option (List ℕ)) → (W → Option (List ℕ)) → A → List W → Known
known by_answers by_out answers outs = record { to_sender = by_answers answers; to_receivers = map by_out outs }

-- what the writers hold has changed in this way
abbrev pub Changes : {A W : Type 0} → sink.Ghosts A → sink.Ghosts W → A → A → Vec W Global → Vec W Global → (Known → Known → Type 0) → Type 0
Changes by_answers by_out answers answers' outs outs' So =
    So (known by_answers.contents by_out.contents answers outs.items) (known by_answers.contents by_out.contents answers' outs'.items)

-- what the writer to this one holds
abbrev pub held_by : Known → Whom → Option (List ℕ)
held_by all sender = all.to_sender
held_by all (receiver r) = slice_index_or all.to_receivers r None

-- Each writer's known bytes grew by the posts for it, and by nothing else.
abbrev pub Sends : List Post → Known → Known → Type 0
Sends posts old new = (whom : Whom) → Appends (held_by old whom) (held_by new whom) (bytes_to whom posts)

-- Posts were sent in order: none, or the first of them in part and no other, or the first of them whole and then a beginning of the others.
pub data IsBeginning : List Post → List Post → Type 0 where
  none : (posts : List Post) → IsBeginning [] posts
  part : (post : Post) (posts : List Post) (front : List ℕ) → BeginsWith post.bytes front → IsBeginning (record post { bytes = front } ∷ []) (post ∷ posts)
  whole : (post : Post) (sent posts : List Post) → IsBeginning sent posts → IsBeginning (post ∷ sent) (post ∷ posts)

-- each writer's known bytes grew by a beginning of the posts, as they were sent in order
pub record SendsSome (posts : List Post) (old new : Known) : Type 0 where
  pub sent : List Post
  pub begins : IsBeginning sent posts
  pub sends : Sends sent old new

-- whether a writer failed, by what each of them says of itself
abbrev pub some_failed : {A W : Type 0} → (A → Bool) → (W → Bool) → A → List W → Bool
some_failed by_answers by_out answers outs = by_answers answers || list_any by_out outs

-- ---- the receivers' writers alone

abbrev pub all_held : Option (List ℕ) → List (Option (List ℕ)) → Known
all_held to_sender to_receivers = record { to_sender = to_sender; to_receivers = to_receivers }

abbrev pub SendsOut : List Post → List (Option (List ℕ)) → List (Option (List ℕ)) → Type 0
SendsOut posts old new = (to_sender : Option (List ℕ)) → Sends posts (all_held to_sender old) (all_held to_sender new)

abbrev pub SendsSomeOut : List Post → List (Option (List ℕ)) → List (Option (List ℕ)) → Type 0
SendsSomeOut posts old new = (to_sender : Option (List ℕ)) → SendsSome posts (all_held to_sender old) (all_held to_sender new)
