-- Rows of an answer's table that a segment can hold.
use Rattle.std.specs.Prelude.{◌≡◌, ◌≢◌, ℕ, ◌<◌, T, List, [], length}
use Rattle.std.specs.List.{AllByRecursion}
use Rattle.std.specs.Ordering.{nat_cmp}
use Rattle.std.specs.Cmp.Lexicographic.{slice_cmp}
use Rattle.std.specs.FinMap.{is_sorted}
use Rattle.gw_er7.specs.Entries.{Entry}
use Rattle.gw_er7.specs.Message.{IsEntry}
use Rattle.gw_er7.specs.Text.{IsCanonical}

-- rows for a segment whose first field is this one, in order of place
pub record AreRows (first : ℕ) (rows : List Entry) : Type 0 where
  pub sorted : T (is_sorted (slice_cmp nat_cmp) rows)
  pub each : AllByRecursion (IsEntry first) rows

-- a text that may stand at a place of which this many numbers are still to be said, each counted from 1
pub record IsKeyed (count : ℕ) (e : Entry) : Type 0 where
  pub count_is : length e.0 ≡ count
  pub positive : AllByRecursion (λ n. 0 < n) e.0
  pub text : IsCanonical e.1
  pub some : e.1 ≢ []

-- the texts of a repetition, by component and subcomponent, in order
pub record IsRepetition (texts : List Entry) : Type 0 where
  pub sorted : T (is_sorted (slice_cmp nat_cmp) texts)
  pub each : AllByRecursion (IsKeyed 2) texts
