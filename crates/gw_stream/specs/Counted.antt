-- How many answers were written, by their codes.
use Rattle.std.specs.Prelude.{◌≡◌, ℕ, ◌+◌, ◌-◌, ◌^◌, min}
use Rattle.gw_ack.specs.declared.receipt.Ack.{Ack}
use Rattle.gw_ack.specs.declared.receipt.Ack.TheVariants.{AA, AE, AR}
use Rattle.gw_stream.specs.declared.counts.Counts.{Counts}

-- nothing yet
abbrev pub nothing : Counts
nothing = record { answered = 0; put = 0; sent = 0; aa = 0; ae = 0; ar = 0 }

-- one answer of this code more
abbrev pub with_answer : Ack → Counts → Counts
with_answer AA counts = record counts { answered = counts.answered + 1; aa = counts.aa + 1 }
with_answer AE counts = record counts { answered = counts.answered + 1; ae = counts.ae + 1 }
with_answer AR counts = record counts { answered = counts.answered + 1; ar = counts.ar + 1 }

-- the same, and the blocks that were sent, as far as a count of 64 bits can tell
abbrev pub with_one : Ack → ℕ → Counts → Counts
with_one code blocks counts = record (with_answer code counts) { sent = min (counts.sent + blocks) (2 ^ 64 - 1) }

-- each answer has one of the three codes
abbrev pub IsTotal : Counts → Type 0
IsTotal counts = counts.aa + counts.ae + counts.ar ≡ counts.answered
