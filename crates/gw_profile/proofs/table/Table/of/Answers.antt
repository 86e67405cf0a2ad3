use Rattle.std.proofs.Common.{◌≡◌, ◌∙◌, sym, ap, List, ℕ, map, Bool, true, false}
use Rattle.std.specs.Prelude.{not}
use Rattle.std.specs.Global.{Vec}
use Rattle.std.proofs.lemmas.Result.{IfOk-from_err}
use Rattle.gw_profile.specs.Seen.{now_all}
use Rattle.gw_profile.proofs.Kept.{repeats_behind, repeats_none, values_held}
use Rattle.gw_profile.proofs.table.Table.of.Goals as goal

pub loop-value-init : goal.loop-value-init
loop-value-init c = record {
  held = ap (map (λ (v : Vec ℕ). v.items)) c.new-held.ensures.empty;
  rest = repeats_none (now_all c.args.values.now) ∙ ap (λ (ks : List (Vec ℕ)). repeats_behind (map (λ (v : Vec ℕ). v.items) ks) (now_all c.args.values.now)) (sym c.new-held.ensures.empty);
}

is_new : (new among : Bool) → new ≡ true → new ≡ not among → among ≡ false
is_new new true e f = cc
is_new new false e f = cc

pub loop-value-preserved : goal.loop-value-preserved
loop-value-preserved c =
    let step = values_held c.args.values.now c.loop-value.value-index _ (map (λ (v : Vec ℕ). v.items) c.loop-value.held.keys) (map (λ (v : Vec ℕ). v.items) c.put.new.values.keys) c.loop-value-test.true c.loop-value.invariant.held c.loop-value.invariant.rest
    (is_new c.in_ok-put.field-0 _ c.if-not-branch.false c.in_ok-put.ensures.new) (c.in_ok-put.ensures.put c.if-not-branch.false) in
    record { held = step.0; rest = step.1 }

pub returns-in_err-put : goal.returns-in_err-put
returns-in_err-put c = IfOk-from_err _ _ c.from_residual.ensures.0
