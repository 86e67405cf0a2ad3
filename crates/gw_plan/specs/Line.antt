-- The lines of a plan, and the words that spell them.
use Rattle.std.specs.Prelude.{ℕ, Bool, false, if◌then◌else◌, List, [], ◌∷◌, Option, Some, None, codes, bytes_eq, take, drop}
use Rattle.std.specs.List.{position_from}
use Rattle.gw_lines.specs.Words.{Word, words}
use Rattle.gw_lines.specs.Spelled.{plain_bytes, is_keyword}
use Rattle.gw_lines.specs.Parts.{◌>>=◌, first_word, name_at, behind, with_all}
use Rattle.gw_plan.specs.declared.senders.HeaderField.{HeaderField}
use Rattle.gw_plan.specs.declared.senders.HeaderField.TheVariants.{SendingApplication, SendingFacility, ReceivingApplication, ReceivingFacility, MessageProfile}
use Rattle.gw_plan.specs.Senders.{Senders}
use Rattle.gw_plan.specs.declared.form.Kind.{Kind}
use Rattle.gw_plan.specs.declared.form.Kind.TheVariants.{Profile, Map}

-- A line of the plan's own. The empty event means that the message has no event. No senders mean all.
pub data Line : Type 0 where
  Begins : (name : List ℕ) → Line
  Widens : Line
  Receives : (name address : List ℕ) → Line
  Versions : (accepted : List (List ℕ)) → Line
  Processing : (accepted : List (List ℕ)) → Line
  Opens : (kind : Kind) → Line
  Routes : (code event : List ℕ) (senders : Option Senders) (profile : List ℕ) → Line
  Delivers : (receiver map : List ℕ) → Line

-- ---- parts of a line

-- a word without quotes
abbrev pub plain_at : List Word → Option (List ℕ × List Word)
plain_at words = do
  w ← first_word words
  bytes ← plain_bytes w.0
  Some (bytes, w.1)

abbrev pub plain_words : List Word → Option (List (List ℕ))
plain_words [] = Some []
plain_words (w ∷ words) = do
  bytes ← plain_bytes w
  more ← plain_words words
  Some (bytes ∷ more)

-- WORD ...
abbrev pub some_words : List Word → Option (List (List ℕ))
some_words [] = None
some_words (w ∷ words) = plain_words (w ∷ words)

-- `-` means that the message has no event
abbrev pub event_of : List ℕ → List ℕ
event_of bytes = if bytes_eq bytes (codes "-") then [] else bytes

-- ---- lines

-- plan NAME
abbrev pub plan_form : List Word → Option Line
plan_form words = do
  name ← name_at words
  with_all name.1 (Begins name.0)

-- language 2
abbrev pub language_form : List Word → Option Line
language_form words = do
  more ← behind (codes "2") words
  with_all more Widens

-- receiver NAME ADDRESS
abbrev pub receiver_form : List Word → Option Line
receiver_form words = do
  name ← name_at words
  address ← plain_at name.1
  with_all address.1 (Receives name.0 address.0)

-- accept version WORD ...
abbrev pub versions_form : List Word → Option Line
versions_form words = do
  all ← some_words words
  Some (Versions all)

-- accept processing WORD ...
abbrev pub processing_form : List Word → Option Line
processing_form words = do
  all ← some_words words
  Some (Processing all)

abbrev pub accept_form : List Word → Option Line
accept_form [] = None
accept_form (kind ∷ words) =
    if is_keyword (codes "version") kind then versions_form words
    else if is_keyword (codes "processing") kind then processing_form words
    else None

-- begin profile, begin map
abbrev pub begin_form : List Word → Option Line
begin_form [] = None
begin_form (kind ∷ words) =
    if is_keyword (codes "profile") kind then with_all words (Opens Profile)
    else if is_keyword (codes "map") kind then with_all words (Opens Map)
    else None

-- from PROFILE, the last words of a line
abbrev pub source_at : List Word → Option (List ℕ)
source_at words = do
  source ← behind (codes "from") words
  profile ← name_at source
  with_all profile.1 profile.0

-- MSH-n, of the fields that tell messages of one code and event from each other
abbrev pub header_field : Word → Option HeaderField
header_field word =
    if is_keyword (codes "MSH-3") word then Some SendingApplication
    else if is_keyword (codes "MSH-4") word then Some SendingFacility
    else if is_keyword (codes "MSH-5") word then Some ReceivingApplication
    else if is_keyword (codes "MSH-6") word then Some ReceivingFacility
    else if is_keyword (codes "MSH-21") word then Some MessageProfile
    else None

-- the words before the word `from`, and those from it on
abbrev pub cut_at : List Word → Option ℕ → Option (List Word × List Word)
cut_at words None = None
cut_at words (Some place) = Some (take place words, drop place words)

abbrev pub is_from : Word → Bool
is_from word = is_keyword (codes "from") word

abbrev pub cut_at_from : List Word → Option (List Word × List Word)
cut_at_from words = cut_at words (position_from is_from 0 words)

-- MSH-n WORD ..., up to the word `from`
abbrev pub senders_at : List Word → Option (Senders × List Word)
senders_at words = do
  first ← first_word words
  field ← header_field first.0
  cut ← cut_at_from first.1
  said ← some_words cut.0
  Some (record { field = field; words = said }, cut.1)

-- whose messages by which profile: all, from PROFILE
abbrev pub all_by : List Word → Option (Option Senders × List ℕ)
all_by words = do
  profile ← source_at words
  Some (None, profile)

-- those of MSH-n WORD ... from PROFILE
abbrev pub some_by : List Word → Option (Option Senders × List ℕ)
some_by words = do
  senders ← senders_at words
  profile ← source_at senders.1
  Some (Some senders.0, profile)

abbrev pub taken_by : Option (List Word) → List Word → Option (Option Senders × List ℕ)
taken_by None words = all_by words
taken_by (Some more) words = some_by more

abbrev pub routes_by : List ℕ → List ℕ → Option (Option Senders × List ℕ) → Option Line
routes_by code event by = do
  takes ← by
  Some (Routes code event takes.0 takes.1)

-- route CODE EVENT from PROFILE, route CODE EVENT of MSH-n WORD ... from PROFILE
abbrev pub route_form : List Word → Option Line
route_form words = do
  code ← plain_at words
  event ← plain_at code.1
  routes_by code.0 (event_of event.0) (taken_by (behind (codes "of") event.1) event.1)

-- to RECEIVER by MAP
abbrev pub to_form : List Word → Option Line
to_form words = do
  receiver ← name_at words
  means ← behind (codes "by") receiver.1
  map ← name_at means
  with_all map.1 (Delivers receiver.0 map.0)

-- a line with as many words as its form has
abbrev pub fixed_form : Word → List Word → Option Line
fixed_form keyword words =
    if is_keyword (codes "plan") keyword then plan_form words
    else if is_keyword (codes "receiver") keyword then receiver_form words
    else if is_keyword (codes "language") keyword then language_form words
    else if is_keyword (codes "begin") keyword then begin_form words
    else if is_keyword (codes "to") keyword then to_form words
    else None

-- the line of a keyword and the words behind it
abbrev pub keyword_form : Word → List Word → Option Line
keyword_form keyword words =
    if is_keyword (codes "accept") keyword then accept_form words
    else if is_keyword (codes "route") keyword then route_form words
    else fixed_form keyword words

-- the line that these words are
abbrev pub form : List Word → Option Line
form [] = None
form (keyword ∷ words) = keyword_form keyword words

-- ---- the line that ends an inner text

abbrev pub is_stop_word : List Word → Bool
is_stop_word [] = false
is_stop_word (w ∷ []) = is_keyword (codes "stop") w
is_stop_word (w ∷ v ∷ words) = false

abbrev pub is_stop_line : Option (List Word) → Bool
is_stop_line None = false
is_stop_line (Some words) = is_stop_word words

-- a line that is the word `stop`
abbrev pub is_stop : List ℕ → Bool
is_stop line = is_stop_line (words line)
