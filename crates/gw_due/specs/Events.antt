-- What a record of a gateway's log says.
use Rattle.std.specs.Prelude.{ℕ, List}

-- how a receiver passed a message: it took it, or refused it, or a person skipped it
pub data How : Type 0 where
  Taken : How
  -- the code and the text of its refusal
  Refused : (code : ℕ) (reason : List ℕ) → How
  Skipped : How

-- A place is the number of a record in the log, from 0. A receiver is a number that its name has for good.
pub data Event : Type 0 where
  -- the plan of this text is in force from here on
  Planned : (text : List ℕ) → Event
  -- a message was accepted under this number: its bytes as they were read, and the receivers of its route
  Accepted : (number : ℕ) (to bytes : List ℕ) → Event
  -- the message at this place is due to a receiver once more
  Again : (receiver place : ℕ) → Event
  -- a receiver passed what was due to it at this place
  Passed : (receiver place : ℕ) (how : How) → Event
  -- a receiver has this number and this name, for good, and from here on this address
  Named : (receiver : ℕ) (name address : List ℕ) → Event
  -- numbers below this one may have been given to answers
  Margin : (number : ℕ) → Event
  -- segments below this one may be gone
  Retired : (segment : ℕ) → Event
