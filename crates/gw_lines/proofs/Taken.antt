-- What holds of the lines that a declared form takes.
use Rattle.std.proofs.Common.{◌≡◌, ℕ, ◌+◌, Bool, true, false, List, [], ◌∷◌, length, Option, Some, None, Result, Ok, Err, refl, subst}
use Rattle.std.specs.Prelude.{if◌then◌else◌}
use Rattle.std.specs.List.{AllByRecursion}
use Rattle.gw_lines.specs.Words.{Word, words, lines}
use Rattle.gw_lines.specs.Reading.{Takes, first_of, unless, adding, added, accepted, with_line, spelled_by, spelled_below, is_too_large, ◌>>=◌}
use Rattle.gw_lines.specs.Grammar.{Grammar, tested, takes, AllTaken}

-- no test says that its fault applies
abbrev pub Clear : {E : Type 0} → List (Bool × E) → Type 0
Clear {E} faults = AllByRecursion (λ (f : Bool × E). f.0 ≡ false) faults

pub clear_of : {E : Type 0} (faults : List (Bool × E)) → first_of faults ≡ None → Clear faults
clear_of [] h = tt
clear_of ((true, e) ∷ more) h = absurd (cc)
clear_of ((false, e) ∷ more) h = (refl, clear_of more h)

-- a line that was taken is what its words are, and no test speaks against it
pub taken_by : {L E : Type 0} (g : Grammar L E) (above : List L) (at : ℕ) (ws : List Word) (line : L) → takes g above at ws ≡ Ok line → (g.form at ws ≡ Some line) × (first_of (g.tests above at line) ≡ None)
taken_by {L} {E} g above at ws line e = by (g.form at ws) refl e
  where
    Is : L → Type 0
    Is l = (g.form at ws ≡ Some l) × (first_of (g.tests above at l) ≡ None)

    last : (l : L) → g.form at ws ≡ Some l → (f : Option E) → first_of (g.tests above at l) ≡ f → unless f l ≡ Ok line → Is line
    last l k None h e = let same : l ≡ line = cc in subst Is same (k, h)
    last l k (Some x) h e = absurd (cc)

    by : (o : Option L) → g.form at ws ≡ o → tested g above at o ≡ Ok line → Is line
    by None k e = absurd (cc)
    by (Some l) k e = last l k (first_of (g.tests above at l)) refl e

-- ---- texts

module _ {L E : Type 0} (take : Takes L E) (broken : ℕ → E) (Q : List L → Type 0)
    (step : (above : List L) (at : ℕ) (bytes : List ℕ) (ws : List Word) (line : L) → words bytes ≡ Some ws → take above at ws ≡ Ok line → Q above → Q (line ∷ above)) where
  one_keeps : (above : List L) (at : ℕ) (bytes : List ℕ) (ws : Option (List Word)) (all : List L) → words bytes ≡ ws → Q above → with_line (broken at) (adding take) above at ws ≡ Ok all → Q all
  one_keeps above at bytes None all w q e = absurd (cc)
  one_keeps above at bytes (Some []) all w q e = let same : above ≡ all = cc in subst Q same q
  one_keeps above at bytes (Some (word ∷ more)) all w q e = by (take above at (word ∷ more)) refl e
    where
      by : (r : Result L E) → take above at (word ∷ more) ≡ r → added above r ≡ Ok all → Q all
      by (Ok line) f e = let same : line ∷ above ≡ all = cc in subst Q same (step above at bytes (word ∷ more) line w f q)
      by (Err x) f e = absurd (cc)

  -- what holds of no line, and below each line that is taken, holds of all lines
  pub accepted_keeps : (above : List L) (at : ℕ) (text : List (List ℕ)) (all : List L) → Q above → accepted broken take above at text ≡ Ok all → Q all
  accepted_keeps above at [] all q e = let same : above ≡ all = cc in subst Q same q
  accepted_keeps above at (line ∷ more) all q e =
      by (with_line (broken at) (adding take) above at (words line)) refl (λ now. accepted_keeps now (at + 1) more all) e
    where
      by : (r : Result (List L) E) → with_line (broken at) (adding take) above at (words line) ≡ r → ((now : List L) → Q now → accepted broken take now (at + 1) more ≡ Ok all → Q all) → (r >>= λ now. accepted broken take now (at + 1) more) ≡ Ok all → Q all
      by (Ok now) f k e = k now (one_keeps above at line (words line) now refl q f) e
      by (Err x) f k e = absurd (cc)

pub accepted_taken : {L E : Type 0} (g : Grammar L E) (broken : ℕ → E) (at : ℕ) (text : List (List ℕ)) (all : List L) → accepted broken (takes g) [] at text ≡ Ok all → AllTaken g all
accepted_taken g broken at text all e =
    accepted_keeps (takes g) broken (AllTaken g) (λ above at bytes ws line w t q. (record { at = at; words = ws; taken = t }, q)) [] at text all tt e

-- the lines of a text that spells a value
pub record Accepts {L X E : Type 0} (take : Takes L E) (broken : ℕ → E) (whole : List L → ℕ → Result X E) (text : List ℕ) (spells : X) : Type 0 where
  pub all : List L
  pub accepts : accepted broken take [] 1 (lines text) ≡ Ok all
  pub value : whole all (1 + length (lines text)) ≡ Ok spells

pub spelled_accepts : {L X E : Type 0} (take : Takes L E) (broken : ℕ → E) (whole : List L → ℕ → Result X E) (most_bytes most_lines : ℕ) (too_large : E) (text : List ℕ) (value : X)
    → spelled_by most_bytes most_lines too_large broken (adding take) whole [] text ≡ Ok value → Accepts take broken whole text value
spelled_accepts {L} {X} {E} take broken whole most_bytes most_lines too_large text value e = large (is_too_large most_bytes most_lines text) e
  where
    by : (r : Result (List L) E) → accepted broken take [] 1 (lines text) ≡ r → (r >>= λ all. whole all (1 + length (lines text))) ≡ Ok value → Accepts take broken whole text value
    by (Ok all) f e = record { all = all; accepts = f; value = e }
    by (Err x) f e = absurd (cc)

    large : (b : Bool) → (if b then Err too_large else spelled_below broken (adding take) whole [] 1 (lines text)) ≡ Ok value → Accepts take broken whole text value
    large true e = absurd (cc)
    large false e = by (accepted broken take [] 1 (lines text)) refl e
