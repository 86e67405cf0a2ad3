use Rattle.std.proofs.Common.{◌≡◌, ◌∙◌, ℕ, sym, ap, arith}
use Rattle.std.specs.Global.{Vec}
use Rattle.std.specs.Prelude.{bytes_eq}
use Rattle.std.proofs.lemmas.List.Folds.{list_any_at}
use Rattle.std.proofs.lemmas.Slice.Eq.{bytes_eq-Decides}
use Rattle.gw_profile.proofs.Kept.{among_map}
use Rattle.gw_profile.proofs.near.NearValues.has.Goals as goal

-- the value of that number is the one that is looked for
pub returns : goal.returns
returns c = λ same.
    let found = c.index-values-number.result in
    let is : c.args.value.now ≡ found.items = sym (c.same_bytes.ensures.0 same) ∙ c.deref.ensures.value in
    let there = ap (λ (v : Vec ℕ). bytes_eq c.args.value.now v.items) (sym c.index-values-number.is) ∙ (bytes_eq-Decides c.args.value.now found.items).1 is in
    sym (among_map (λ (v : Vec ℕ). v.items) c.args.value.now c.args.values.now)
    ∙ list_any_at (λ (v : Vec ℕ). bytes_eq c.args.value.now v.items) c.args.values.now _ found (omega (arith, c.if-number-values.false)) there
