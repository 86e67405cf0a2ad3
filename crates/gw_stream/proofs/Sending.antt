use Rattle.std.proofs.Common.{◌≡◌, ◌<◌, ℕ, List, Option, length, take, drop, ◌+◌, ◌-◌, ◌≤◌, ◌++◌, arith, subst, sym, ap, ◌∙◌, take-append-drop, length-drop}
use Rattle.std.proofs.Math.Seq.{take-add}
use Rattle.std.proofs.lemmas.Grind.{common_steps}
use Rattle.std.proofs.KnownBytes.{Appends-trans, Appends-kept}
use Rattle.std.specs.Io.KnownBytes.{Keeps, Appends}
use Rattle.gw_stream.specs.Sent.{SendsPart, Sending}

-- the rest of the bytes, as a slice has it
rest_whole : (bytes : List ℕ) (sent : ℕ) → take (length bytes - sent) (drop sent bytes) ≡ drop sent bytes
rest_whole bytes sent = let e = length-drop sent bytes in grind (arith, common_steps)

pub sends_more : (a b c : Option (List ℕ)) (bytes : List ℕ) (sent turn n : ℕ) → Sending a b bytes sent turn
    → n ≤ length (take (length bytes - sent) (drop sent bytes)) → (0 < length (take (length bytes - sent) (drop sent bytes)) → 0 < n) → sent < length bytes
    → Appends b c (take n (take (length bytes - sent) (drop sent bytes))) → Sending a c bytes (sent + n) (turn + 1)
sends_more a b c bytes sent turn n before fits moves open_yet more =
    let whole = rest_whole bytes sent in
    let long : length (take (length bytes - sent) (drop sent bytes)) ≡ length bytes - sent = ap length whole ∙ length-drop sent bytes in
    let some : 0 < n = moves (omega arith) in
    let has = before.within in
    let went = before.moves in
    record {
      within = omega arith;
      moves = omega arith;
      appends =
          subst (Appends a c) (ap (λ l. take sent bytes ++ take n l) whole ∙ sym (take-add sent n bytes))
          (Appends-trans a b c (take sent bytes) (take n (take (length bytes - sent) (drop sent bytes))) before.appends more);
    }

pub sends_stopped : (a b c : Option (List ℕ)) (bytes : List ℕ) (sent turn : ℕ) → Sending a b bytes sent turn → Keeps b c → SendsPart a c bytes
sends_stopped a b c bytes sent turn before kept =
    (take sent bytes, Appends-kept a b c (take sent bytes) before.appends kept, (drop sent bytes, sym (take-append-drop sent bytes)))
