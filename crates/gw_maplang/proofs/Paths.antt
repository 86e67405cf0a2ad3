-- The last label of a path.
use Rattle.std.proofs.Common.{◌≡◌, ◌-◌, ℕ, List, [], ◌∷◌, length, Some, suc, sym, ap, ◌∙◌, arith}
use Rattle.std.specs.Prelude.{slice_get}
use Rattle.std.specs.Global.{Vec}
use Rattle.gw_maplang.specs.Lawful.{last_label}
use Rattle.gw_maplang.specs.Seen.{items_all}

pub last_found : (path : List (Vec ℕ)) (label : Vec ℕ) → slice_get path (length path - 1) ≡ Some label → label.items ≡ last_label (items_all path)
last_found [] label e = absurd (cc)
last_found (l ∷ []) label e = let s : l ≡ label = cc in ap (λ (v : Vec ℕ). v.items) (sym s)
last_found (l ∷ m ∷ path) label e =
    let n : length (l ∷ m ∷ path) - 1 ≡ suc (length (m ∷ path) - 1) = omega arith in
    last_found (m ∷ path) label (ap (slice_get (l ∷ m ∷ path)) (sym n) ∙ e)
