-- Reading a state from left to right.
use Rattle.std.specs.Prelude.{ℕ, zero, suc, List, [], ◌∷◌, length, Option, Some, None, ◌==◌, if◌then◌else◌}
use Rattle.std.specs.Int.{w32, w64}
use Rattle.gw_due.specs.State.{Receiver, State}
use Rattle.gw_due.specs.own.Reading.{Reader, ◌>>=◌, both, made, byte_at, number_at, text_at}

unfoldable pub perhaps_of : ℕ → Reader (Option ℕ)
perhaps_of flag rest =
    if flag == 0 then Some (None, rest)
    else if flag == 1 then made (λ n. Some n) (number_at w64) rest
    else None

unfoldable pub perhaps_at : Reader (Option ℕ)
perhaps_at bytes = do
  flag ← byte_at bytes
  perhaps_of flag.0 flag.1

abbrev pub receiver_of : ℕ × (List ℕ × (List ℕ × (ℕ × (ℕ × ℕ)))) → Receiver
receiver_of p = record { number = p.0; name = p.1.0; address = p.1.1.0; from = p.1.1.1.0; left = p.1.1.1.1.0; refused = p.1.1.1.1.1 }

unfoldable pub receiver_at : Reader Receiver
receiver_at = made receiver_of (both (number_at w32) (both text_at (both text_at (both (number_at w64) (both (number_at w64) (number_at w64))))))

-- so many receivers
unfoldable pub many_at : ℕ → Reader (List Receiver)
many_at zero bytes = Some ([], bytes)
many_at (suc n) bytes = do
  first ← receiver_at bytes
  others ← many_at n first.1
  Some (first.0 ∷ others.0, others.1)

unfoldable pub all_at : Reader (List Receiver)
all_at bytes = do
  n ← number_at w32 bytes
  many_at n.0 n.1

abbrev pub state_from : ℕ × (Option ℕ × (Option ℕ × (ℕ × (ℕ × List Receiver)))) → State
state_from p = record { next = p.0; plan = p.1.0; last = p.1.1.0; margin = p.1.1.1.0; oldest = p.1.1.1.1.0; receivers = p.1.1.1.1.1 }

unfoldable pub state_at : Reader State
state_at = made state_from (both (number_at w64) (both perhaps_at (both perhaps_at (both (number_at w64) (both (number_at w64) all_at)))))

-- a state is all of the bytes
unfoldable pub state_in : List ℕ → Option State
state_in bytes = do
  s ← state_at bytes
  if length s.1 == 0 then Some s.0 else None
