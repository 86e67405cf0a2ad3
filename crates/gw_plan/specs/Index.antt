-- How a route is found by its code and event, and by its senders.
use Rattle.std.specs.Prelude.{◌≡◌, ℕ, ◌+◌, true, Bool, not, ◌&&◌, ◌||◌, nat_eq, nat_lt, if◌then◌else◌, List, [], ◌∷◌, ◌++◌, map, length, Option, Some, None, bytes_eq, is_none, is_some, Result, Ok, Err}
use Rattle.std.specs.List.{list_any, position_from, AllZip, AllByRecursion}
use Rattle.std.specs.Map.{lookup}
use Rattle.std.specs.Global.{Vec}
use Rattle.gw_plan.specs.declared.index.Index.{Index}
use Rattle.gw_plan.specs.declared.senders.HeaderField.TheVariants.{SendingApplication, SendingFacility, ReceivingApplication, ReceivingFacility, MessageProfile}
use Rattle.gw_plan.specs.declared.senders.Header as declared
use Rattle.gw_plan.specs.declared.senders.SaidSenders as declared_senders
use Rattle.gw_plan.specs.Senders.{Senders, Header, field_number, are_of, says, again}

-- the code, the event and the senders of a route
pub record Key : Type 0 where
  pub code : List ℕ
  pub event : List ℕ
  pub senders : Option Senders

abbrev pub is_pair : List ℕ → List ℕ → Key → Bool
is_pair code event k = bytes_eq code k.code && bytes_eq event k.event

abbrev pub key_for : List ℕ → List ℕ → Option Senders → Key
key_for code event senders = record { code = code; event = event; senders = senders }

-- whether a route takes a message
abbrev pub is_key : List ℕ → List ℕ → Header → Key → Bool
is_key code event header k = is_pair code event k && are_of header k.senders

-- with one more behind the others
abbrev pub with_key : Key → List Key → List Key
with_key key keys = keys ++ key ∷ []

abbrev pub number_if_some : Option ℕ → Result ℕ ℕ
number_if_some None = Err 201
number_if_some (Some number) = Ok number

-- the number of the first route that takes a message; or the code that is answered, as no route is for its code or none takes it (HL7 table 0357)
abbrev pub number_for : List ℕ → List ℕ → Header → List Key → Result ℕ ℕ
number_for code event header keys =
    if list_any (λ k. bytes_eq code k.code) keys then number_if_some (position_from (is_key code event header) 0 keys) else Err 200

-- the texts of a header, wherever their bytes are in memory
abbrev pub header : declared.Header → Header
header h SendingApplication = h.sending_application.now
header h SendingFacility = h.sending_facility.now
header h ReceivingApplication = h.receiving_application.now
header h ReceivingFacility = h.receiving_facility.now
header h MessageProfile = h.message_profile.now

-- the senders that a line says, likewise
abbrev pub said : declared_senders.SaidSenders → Senders
said s = record { field = s.field; words = map (λ word. word.now) s.words.items }

-- ---- which keys exclude each other

-- whether a route takes what is left of a code and event
abbrev pub ends : List ℕ → List ℕ → Key → Bool
ends code event k = is_pair code event k && is_none k.senders

abbrev pub has_word : List ℕ → List ℕ → Senders → List ℕ → Key → Bool
has_word code event s word k = is_pair code event k && says s.field word k.senders

-- no message reaches a route behind these, or one word is said of two
abbrev pub is_again : List ℕ → List ℕ → Option Senders → List Key → Bool
is_again code event None keys = list_any (ends code event) keys
is_again code event (Some s) keys = list_any (ends code event) keys || again (λ word. list_any (has_word code event s word) keys) s.words

-- ---- slots: what is looked up by hash

-- a code and an event with a word of a field; or with field 0 and no word, for what is left
pub record Slot : Type 0 where
  pub code : List ℕ
  pub event : List ℕ
  pub field : ℕ
  pub word : List ℕ

abbrev pub is_slot : List ℕ → List ℕ → ℕ → List ℕ → Slot → Bool
is_slot code event field word s = (bytes_eq code s.code && bytes_eq event s.event) && (nat_eq field s.field && bytes_eq word s.word)

abbrev pub is_same_slot : Slot → Slot → Bool
is_same_slot s t = is_slot s.code s.event s.field s.word t

-- the slots of a route
abbrev pub slots_for : List ℕ → List ℕ → Option Senders → List Slot
slots_for code event None = record { code = code; event = event; field = 0; word = [] } ∷ []
slots_for code event (Some s) = map (λ word. record { code = code; event = event; field = field_number s.field; word = word }) s.words

abbrev pub slots_of : Key → List Slot
slots_of k = slots_for k.code k.event k.senders

abbrev pub numbered : ℕ → List Slot → List (Slot × ℕ)
numbered number slots = map (λ slot. (slot, number)) slots

-- the slots of routes that are numbered from here on, each with its route's number
abbrev pub slots_from : ℕ → List Key → List (Slot × ℕ)
slots_from number [] = []
slots_from number (k ∷ keys) = numbered number (slots_of k) ++ slots_from (number + 1) keys

-- ---- words and their numbers

-- the number of a word among words
abbrev pub at : List ℕ → List (Vec ℕ) → Option ℕ
at word words = position_from (λ k. bytes_eq word k.items) 0 words

-- what is found by hash: the numbers of a code and an event, a field, the number of a word; and the number of the route
abbrev pub Found : Type 0
Found = ((ℕ × ℕ) × (ℕ × ℕ)) × ℕ

-- a slot as it is found
pub record IsFound (codes events words : List (Vec ℕ)) (found : Found) (slot : Slot × ℕ) : Type 0 where
  pub code : at slot.0.code codes ≡ Some found.0.0.0
  pub event : at slot.0.event events ≡ Some found.0.0.1
  pub field : found.0.1.0 ≡ slot.0.field
  pub word : at slot.0.word words ≡ Some found.0.1.1
  pub number : found.1 ≡ slot.1

abbrev pub AreFound : Index → List (Slot × ℕ) → Type 0
AreFound index slots = AllZip (IsFound index.codes.keys index.events.keys index.words.keys) index.numbers.entries slots

-- the words with these numbers are this code and this event
pub record IsPair (index : Index) (pair : ℕ × ℕ) (code event : List ℕ) : Type 0 where
  pub code_is : at code index.codes.keys ≡ Some pair.0
  pub event_is : at event index.events.keys ≡ Some pair.1

-- each code is that of a route
abbrev pub AreUsed : Index → List Key → Type 0
AreUsed index keys = AllByRecursion (λ c. list_any (λ k. bytes_eq c.items k.code) keys ≡ true) index.codes.keys

-- the code and the event of a key have numbers
pub record IsKnown (codes events : List (Vec ℕ)) (k : Key) : Type 0 where
  pub code : is_some (at k.code codes) ≡ true
  pub event : is_some (at k.event events) ≡ true

abbrev pub AreKnown : Index → List Key → Type 0
AreKnown index keys = AllByRecursion (IsKnown index.codes.keys index.events.keys) keys

-- what is found are the slots of the routes with these keys
pub record Indexes (index : Index) (keys : List Key) : Type 0 where
  pub found : AreFound index (slots_from 0 keys)
  pub used : AreUsed index keys
  pub known : AreKnown index keys

-- by the numbers of a code and an event: the number of the route that has this word of a field
abbrev pub IsAt : Index → ℕ × ℕ → ℕ → List ℕ → Option ℕ → Type 0
IsAt index pair field word found =
    (slots : List (Slot × ℕ)) (code event : List ℕ) → AreFound index slots → IsPair index pair code event
    → found ≡ lookup (is_slot code event field word) slots

-- likewise the number of the first route that takes messages of this header
abbrev pub IsFirst : Index → ℕ × ℕ → Header → Option ℕ → Type 0
IsFirst index pair header found =
    (keys : List Key) (code event : List ℕ) → AreFound index (slots_from 0 keys) → IsPair index pair code event
    → found ≡ position_from (is_key code event header) 0 keys

-- the lesser of two numbers, where there is one
abbrev pub sooner : Option ℕ → Option ℕ → Option ℕ
sooner None other = other
sooner (Some n) None = Some n
sooner (Some n) (Some m) = if nat_lt m n then Some m else Some n

-- ---- one route more

-- the codes and events are as they were
pub record IsBeside (old new : Index) : Type 0 where
  pub codes : new.codes.keys ≡ old.codes.keys
  pub events : new.events.keys ≡ old.events.keys

-- a slot is added exactly where it is new
pub record Adds (slots : List (Slot × ℕ)) (slot : Slot) (number : ℕ) (new : Index) (added : Bool) : Type 0 where
  pub fresh : added ≡ not (list_any (λ s. is_same_slot slot s.0) slots)
  pub more : added ≡ true → AreFound new (slots ++ (slot, number) ∷ [])

-- the slots of these senders, where none is there and none comes twice
pub record AddsAll (slots : List (Slot × ℕ)) (code event : List ℕ) (s : Senders) (number : ℕ) (new : Index) (added : Bool) : Type 0 where
  pub fresh : added ≡ not (again (λ word. list_any (λ t. is_slot code event (field_number s.field) word t.0) slots) s.words)
  pub more : added ≡ true → AreFound new (slots ++ numbered number (slots_for code event (Some s)))

-- what was found is still found, and the words with these numbers are this code and this event
pub record Numbers (old new : Index) (pair : ℕ × ℕ) (code event : List ℕ) : Type 0 where
  pub is_pair : IsPair new pair code event
  pub still : (slots : List (Slot × ℕ)) → AreFound old slots → AreFound new slots
  pub used : (keys : List Key) (senders : Option Senders) → AreUsed old keys → AreUsed new (with_key (key_for code event senders) keys)
  pub known : (keys : List Key) (senders : Option Senders) → AreKnown old keys → AreKnown new (with_key (key_for code event senders) keys)

-- a key is added exactly where no route above excludes it
pub record Joins (keys : List Key) (key : Key) (new : Index) (added : Bool) : Type 0 where
  pub fresh : added ≡ not (is_again key.code key.event key.senders keys)
  pub more : added ≡ true → Indexes new (with_key key keys)

-- the same by the numbers of a code and an event, and by that of the route: a slot, the slots of these senders, a key
abbrev pub AddsAt : Index → Index → ℕ × ℕ → ℕ → List ℕ → ℕ → Bool → Type 0
AddsAt old new pair field word number added =
    (slots : List (Slot × ℕ)) (code event : List ℕ) → AreFound old slots → IsPair old pair code event
    → Adds slots (record { code = code; event = event; field = field; word = word }) number new added

abbrev pub AddsAllAt : Index → Index → ℕ × ℕ → Senders → ℕ → Bool → Type 0
AddsAllAt old new pair s number added =
    (slots : List (Slot × ℕ)) (code event : List ℕ) → AreFound old slots → IsPair old pair code event
    → AddsAll slots code event s number new added

abbrev pub JoinsAt : Index → Index → Key → ℕ → Bool → Type 0
JoinsAt old new key number added = (keys : List Key) → Indexes old keys → number ≡ length keys → Joins keys key new added
