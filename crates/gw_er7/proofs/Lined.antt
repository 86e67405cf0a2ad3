-- Lines, cut off one by one.
use Rattle.std.proofs.Common.{◌≡◌, ℕ, ◌+◌, ◌<◌, true, List, [], ◌∷◌, length, take, drop, None, refl, ap, sym, subst, ◌∙◌, arith}
use Rattle.std.specs.List.{position_or_len, slice_split}
use Rattle.gw_er7.specs.Content.{is_line_end, Line, placed, lines_from, first_bad, is_segment_line}
use Rattle.gw_er7.proofs.Cuts.{cut_first, uncut}

module _ (bytes : List ℕ) (k : ℕ) (first : k ≡ position_or_len is_line_end bytes) where
  pub whole_last : k ≡ length bytes → (at : ℕ) → lines_from at bytes ≡ placed at (bytes ∷ [] ∷ [])
  whole_last all at = ap (placed at) (uncut is_line_end bytes k first all) ∙ alone at bytes
    where
      alone : (at : ℕ) (bytes : List ℕ) → placed at (bytes ∷ []) ≡ placed at (bytes ∷ [] ∷ [])
      alone at [] = refl
      alone at (b ∷ bs) = refl

  pub whole_cut : k < length bytes → {behind : List ℕ} → behind ≡ drop (k + 1) bytes → (at : ℕ)
      → lines_from at bytes ≡ placed at (take k bytes ∷ slice_split is_line_end behind)
  whole_cut lt {behind} e at = ap (placed at) (subst (λ (bs : List ℕ). slice_split is_line_end bytes ≡ take k bytes ∷ slice_split is_line_end bs) (sym e) (cut_first is_line_end bytes k first lt))

-- a part that is not empty is a line
pub placed_line : (at : ℕ) (part : List ℕ) (ps : List (List ℕ)) → 0 < length part → placed at (part ∷ ps) ≡ record { at = at; bytes = part } ∷ placed (at + length part + 1) ps
placed_line at [] ps h = absurd (omega arith)
placed_line at (b ∷ bs) ps h = refl

-- ---- the first line that is no segment's

pub good_first : (field : ℕ) (l : Line) (ls : List Line) → first_bad field (l ∷ ls) ≡ None → (is_segment_line field l.bytes ≡ true) × (first_bad field ls ≡ None)
good_first field l ls good = (grind (arith), grind (arith))
