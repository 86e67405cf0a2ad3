-- What the answer for a text says of the value that the text spells.
use Rattle.std.proofs.Common.{◌≡◌, ℕ, Bool, true, false, Result, Ok, Err, ap}
use Rattle.std.specs.Prelude.{if◌then◌else◌}
use Rattle.gw_lines.specs.Reading.{Gives, Unless, AnswersText, ◌>>=◌}

other_err : {X Y E : Type 0} {e f : E} → ◌≡◌ {A = Result X E} (Err e) (Err f) → ◌≡◌ {A = Result Y E} (Err f) (Err e)
other_err {X} {Y} {E} {e} {f} q = let r : f ≡ e = cc in ap Err r

pub gives_text : {S X Y E : Type 0} (memory too_large : E) (view : X → Y) (whole : S → ℕ → Result Y E) (large : Bool) (at : ℕ) (last : Result S E) (result : Result X E) → Unless memory result (AnswersText too_large (λ above n r. Gives memory view r (whole above n)) large at last result) → Gives memory view result (if large then Err too_large else (last >>= λ above. whole above at))
gives_text memory too_large view whole true at last (Ok x) h = let q : Ok x ≡ Err too_large = h (λ e. cc) in absurd (cc)
gives_text memory too_large view whole true at last (Err e) h = λ n. other_err (h (λ q. n (cc)))
gives_text memory too_large view whole false at (Ok above) (Ok x) h = h (λ e. cc)
gives_text memory too_large view whole false at (Ok above) (Err e) h = λ n. h (λ q. n (cc)) n
gives_text memory too_large view whole false at (Err f) (Ok x) h = let q : Ok x ≡ Err f = h (λ e. cc) in absurd (cc)
gives_text memory too_large view whole false at (Err f) (Err e) h = λ n. other_err (h (λ q. n (cc)))
