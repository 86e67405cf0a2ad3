use Rattle.std.proofs.Common.{◌≡◌, List, [], ◌∷◌, ℕ, refl, ap, sym, map, ◌∙◌}
use Rattle.std.specs.Global.{Vec}
use Rattle.gw_maplang.specs.Seen.{row}
use Rattle.gw_maplang.specs.Shapes.{Row}
use Rattle.gw_leaves.specs.Texts.{items_all, rows_value}
use Rattle.gw_leaves.proofs.comparison.firsts_of.Goals as goal

firsts : (entries : List (Vec ℕ × Vec ℕ)) → items_all (map (λ (e : Vec ℕ × Vec ℕ). e.0) entries) ≡ map (λ (r : Row). r.first) (map row entries)
firsts [] = refl
firsts (e ∷ entries) = ap (λ l. e.0.items ∷ l) (firsts entries)

pub returns-in-Some : goal.returns-in-Some
returns-in-Some c =
    ap items_all (c.as_slice.ensures ∙ c.keys.ensures.rest) ∙ firsts c.rows.result.now.entries ∙ ap (map (λ (r : Row). r.first)) c.rows.ensures
    ∙ ap (λ o. map (λ (r : Row). r.first) (rows_value o).rows) (sym c.in-Some.is)
