-- How far a text has been tested. The test's own words.
use Rattle.std.specs.Prelude.{◌<◌, ◌↔◌, ◌==◌, ◌&&◌, ◌||◌, not, nat_le, Bool, ℕ, List, length}
use Rattle.gw_er7.specs.Text.{is_special, IsCanonical}

-- 0x20 and above or TAB, and none of | ^ ~ \ &
abbrev pub is_plain : ℕ → Bool
is_plain b = (nat_le 32 b || b == 9) && not (is_special b)

-- the rest decides of the whole, and is shorter
pub record Follows (text rest : List ℕ) : Type 0 where
  pub same : IsCanonical text ↔ IsCanonical rest
  pub shorter : length rest < length text
