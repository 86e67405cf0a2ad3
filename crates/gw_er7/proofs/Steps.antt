-- Entries that are written one after the other: each text behind the separators that lead to its key.
use Rattle.std.proofs.Common.{◌≡◌, ℕ, suc, ◌+◌, ◌-◌, true, List, [], ◌∷◌, ◌++◌, map, refl, arith}
use Rattle.std.proofs.lemmas.Grind.{common_steps}
use Rattle.std.proofs.lemmas.Bool.Decides.{nat_tests}
use Rattle.std.specs.Prelude.{◌==◌}
use Rattle.std.proofs.lemmas.Bool.{eq-eqb, ne_eqb}
use Rattle.gw_er7.specs.declared.place.Place.{Place}
use Rattle.gw_er7.specs.Message.{numbers}
use Rattle.gw_er7.specs.Entries.{Entry, under}
use Rattle.gw_er7.specs.own.Gaps.{levels, leads, gaps}
use Rattle.gw_er7.specs.own.Ordered.{IsAbove, Above}

abbrev pub ones : List ℕ → List ℕ
ones [] = []
ones (t ∷ ts) = 1 ∷ ones ts

-- what is written of the entries behind a key
abbrev pub steps : List ℕ → List ℕ → List Entry → List ℕ
steps ts ns [] = []
steps ts ns (e ∷ es) = gaps ts ns e.0 ++ (e.1 ++ steps ts e.0 es)

-- ---- entries of one number, and those behind them

gaps-ones : (ts key : List ℕ) → gaps ts (ones ts) key ≡ leads ts key
gaps-ones [] key = refl
gaps-ones (t ∷ ts) [] = refl
gaps-ones (t ∷ ts) (k ∷ key) =
    let more = gaps-ones ts key in
    grind (arith, nat_tests)

-- a further separator leads to entries above n
abbrev pub behind : ℕ → List ℕ → ℕ → List Entry → List ℕ
behind t ts n [] = []
behind t ts n (e ∷ es) = t ∷ steps (t ∷ ts) ((n + 1) ∷ ones ts) (e ∷ es)

steps-behind : (t : ℕ) (ts : List ℕ) (n : ℕ) (ns : List ℕ) (es : List Entry) → Above n es → steps (t ∷ ts) (n ∷ ns) es ≡ behind t ts n es
steps-behind t ts n ns [] h = refl
steps-behind t ts n ns (e ∷ es) h = one e.0 (e.1 ++ steps (t ∷ ts) e.0 es) h.0
  where
    one : (key rest : List ℕ) → IsAbove n key → gaps (t ∷ ts) (n ∷ ns) key ++ rest ≡ t ∷ gaps (t ∷ ts) ((n + 1) ∷ ones ts) key ++ rest
    one [] rest above = absurd above
    one (k ∷ key) rest above =
        let apart = ne_eqb k n (λ e. absurd (omega arith)) in
        let count : k - n ≡ suc (k - (n + 1)) = omega (arith, above) in
        let begun = gaps-ones ts key in
        rw (apart, count) (grind (arith, common_steps))

pub steps-under : (t : ℕ) (ts : List ℕ) (n : ℕ) (ns : List ℕ) (es later : List Entry) → Above n later → steps (t ∷ ts) (n ∷ ns) (map (under n) es ++ later) ≡ steps ts ns es ++ behind t ts n later
steps-under t ts n ns [] later h = steps-behind t ts n ns later h
steps-under t ts n ns (e ∷ es) later h =
    let same : (n == n) ≡ true = eq-eqb n n refl in
    let more = steps-under t ts n e.0 es later h in
    rw same (grind (arith, common_steps))

-- ---- a loop over the texts

-- a text was written
pub stepped : (es later : List Entry) (to : Place) (text : List ℕ) (from : Place) (out mid new target : List ℕ) → es ≡ (numbers to, text) ∷ later
    → mid ≡ out ++ gaps levels (numbers from) (numbers to) → new ≡ mid ++ text
    → out ++ steps levels (numbers from) es ≡ target → new ++ steps levels (numbers to) later ≡ target
stepped es later to text from out mid new target next m e h = grind (arith, common_steps)
