use Rattle.std.proofs.Common.{◌≡◌, ℕ, List, [], ◌∷◌, ◌++◌, map, refl, sym, ap, subst}
use Rattle.gw_er7.specs.declared.view.Value.{Value}
use Rattle.gw_er7.specs.Entries.{Entry}
use Rattle.gw_er7.specs.Written.{fields_text}
use Rattle.gw_er7.specs.View.{Held, entry_of, entries_of, placed}
use Rattle.gw_er7.specs.own.Gaps.{levels}
use Rattle.gw_er7.specs.own.Ordered.{IsOrdered}
use Rattle.gw_er7.proofs.Steps.{steps}
use Rattle.gw_er7.proofs.Flat.{fields}
use Rattle.gw_er7.proofs.layout.write_texts.Goals as goal

abbrev held_value : Value → Held
held_value v = record { place = v.place; text = v.text.now }

placed_is : (vs : List Value) → entries_of (map held_value vs) ≡ placed vs
placed_is [] = refl
placed_is (v ∷ vs) = ap (λ (es : List Entry). entry_of (held_value v) ∷ es) (placed_is vs)

pub loop-value-init : goal.loop-value-init
loop-value-init c =
    let vs : List Value = c.args.texts.now in
    let first : ℕ = c.args.first in
    let ordered : IsOrdered first (entries_of (map held_value vs)) = subst (λ (es : List Entry). IsOrdered first es) (sym (placed_is vs)) c.requires.ordered in
    ap (λ (x : List ℕ). c.args.out.now.items ++ x)
    (subst (λ (es : List Entry). steps levels (first ∷ 1 ∷ 1 ∷ 1 ∷ []) es ≡ fields_text first es) (placed_is vs) (fields first (map held_value vs) c.requires.from ordered))
