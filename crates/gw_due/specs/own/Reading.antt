-- Reading from left to right: a part, and the bytes behind it; nothing where no part is spelled so.
use Rattle.std.specs.Prelude.{◌≡◌, ℕ, zero, suc, ◌*◌, List, [], ◌∷◌, length, take, drop, Option, Some, None, Result, Ok, Err, nat_lt, ◌==◌, if◌then◌else◌}
use Rattle.std.specs.Int.{Width, w32, w64, byte_len, from_be_bytes}
use Rattle.gw_due.specs.declared.fault.ReadFault.{ReadFault}
use Rattle.gw_due.specs.declared.fault.ReadFault.TheVariants.{Memory, Unreadable}
use Rattle.gw_due.specs.Events.{How, Taken, Refused, Skipped, Event, Planned, Accepted, Again, Passed, Named, Margin, Retired}
use Rattle.gw_due.specs.Spelling.{Entry}

-- what was returned, seen by view, is what is read, unless an allocation failed
abbrev pub Fails : {Y : Type 0} → ReadFault → Option Y → Type 0
Fails Memory read = Unit {0}
Fails Unreadable read = read ≡ None

abbrev pub Gives : {X Y : Type 0} → (X → Y) → Result X ReadFault → Option Y → Type 0
Gives view (Ok x) read = read ≡ Some (view x)
Gives view (Err e) read = Fails e read

abbrev pub Reader : Type 0 → Type 0
Reader A = List ℕ → Option (A × List ℕ)

infixl 10 ◌>>=◌
abbrev pub ◌>>=◌ : {A B : Type 0} → Option A → (A → Option B) → Option B
None >>= f = None
(Some x) >>= f = f x

-- one part behind the other
abbrev pub both : {A B : Type 0} → Reader A → Reader B → Reader (A × B)
both first second bytes = do
  a ← first bytes
  b ← second a.1
  Some ((a.0, b.0), b.1)

-- what a part makes
abbrev pub made : {A B : Type 0} → (A → B) → Reader A → Reader B
made make part bytes = do
  a ← part bytes
  Some (make a.0, a.1)

abbrev pub byte_at : Reader ℕ
byte_at [] = None
byte_at (b ∷ rest) = Some (b, rest)

abbrev pub number_at : Width → Reader ℕ
number_at w bytes = if nat_lt (length bytes) (byte_len w) then None else Some (from_be_bytes w (take (byte_len w) bytes), drop (byte_len w) bytes)

unfoldable pub text_at : Reader (List ℕ)
text_at bytes = do
  n ← number_at w32 bytes
  if nat_lt (length n.1) n.0 then None else Some (take n.0 n.1, drop n.0 n.1)

-- so many numbers of four bytes each
unfoldable pub numbers : ℕ → List ℕ → List ℕ
numbers zero bytes = []
numbers (suc n) bytes = from_be_bytes w32 (take 4 bytes) ∷ numbers n (drop 4 bytes)

unfoldable pub receivers_at : Reader (List ℕ)
receivers_at bytes = do
  n ← number_at w32 bytes
  if nat_lt (length n.1) (4 * n.0) then None else Some (numbers n.0 n.1, drop (4 * n.0) n.1)

unfoldable pub how_of : ℕ → Reader How
how_of flag rest =
    if flag == 0 then Some (Taken, rest)
    else if flag == 1 then made (λ p. Refused p.0 p.1) (both (number_at w32) text_at) rest
    else if flag == 2 then Some (Skipped, rest)
    else None

unfoldable pub how_at : Reader How
how_at bytes = do
  flag ← byte_at bytes
  how_of flag.0 flag.1

unfoldable pub accepted_at : Reader Event
accepted_at = made (λ p. Accepted p.0 p.1.0 p.1.1) (both (number_at w64) (both receivers_at text_at))

unfoldable pub passed_at : Reader Event
passed_at = made (λ p. Passed p.0 p.1.0 p.1.1) (both (number_at w32) (both (number_at w64) how_at))

unfoldable pub named_at : Reader Event
named_at = made (λ p. Named p.0 p.1.0 p.1.1) (both (number_at w32) (both text_at text_at))

unfoldable pub again_at : Reader Event
again_at = made (λ p. Again p.0 p.1) (both (number_at w32) (number_at w64))

unfoldable pub event_of : ℕ → Reader Event
event_of tag rest =
    if tag == 1 then made Planned text_at rest
    else if tag == 2 then accepted_at rest
    else if tag == 3 then again_at rest
    else if tag == 4 then passed_at rest
    else if tag == 5 then named_at rest
    else if tag == 6 then made Margin (number_at w64) rest
    else if tag == 7 then made Retired (number_at w64) rest
    else None

unfoldable pub event_at : Reader Event
event_at bytes = do
  tag ← byte_at bytes
  event_of tag.0 tag.1

-- a record is all of the bytes
unfoldable pub entry_of : List ℕ → Option Entry
entry_of bytes = do
  time ← number_at w64 bytes
  event ← event_at time.1
  if length event.1 == 0 then Some (record { time = time.0; event = event.0 }) else None
