use Rattle.std.proofs.Common.{◌≡◌, ◌∙◌, sym, ap, subst, Ok, Err, None, Option}
use Rattle.std.specs.Prelude.{Result, IfOk}
use Rattle.std.specs.Arc.{arc_value}
use Rattle.gw_maplang.specs.Seen as maps
use Rattle.gw_maplang.specs.Seen.{map_value}
use Rattle.gw_maplang.specs.Whole.{spelled}
use Rattle.gw_check.specs.Kept.{CheckedValue}
use Rattle.gw_plan.specs.declared.fault.PlanFault.{PlanFault}
use Rattle.gw_plan.specs.Declarations.{DeclarationsHeld, profiles_of, maps_of, named_map, IsNewMap}
use Rattle.gw_plan.specs.Inner.{Inner, text, map_faults_beside}
use Rattle.gw_plan.specs.own.Made.{inner, Spells, IsTaken}
use Rattle.gw_plan.proofs.NamedMap.{map_is_new}
use Rattle.gw_plan.proofs.inner_map.take_map.Goals as goal

-- what is taken is new, where no fault is found beside it
taken_new : {X : Type 0} (view : X → CheckedValue) (a : DeclarationsHeld) (p : Inner) (m : maps.Contents) (beside : Option PlanFault) (result : Result X PlanFault) → spelled (text p) ≡ Ok (map_value m)
    → beside ≡ map_faults_beside (profiles_of a) (maps_of a) p → IfOk result (λ x. IsTaken (profiles_of a) m (view x)) → IfOk result (λ _. beside ≡ None) → IfOk result (λ x. IsNewMap a (view x))
taken_new view a p m beside (Err fault) s b taken alone = tt
taken_new view a p m beside (Ok x) s b taken alone =
    record { new = ap (λ (c : maps.Contents). named_map c.name (maps_of a)) taken.map_is ∙ map_is_new (profiles_of a) (maps_of a) p (map_value m) s (sym b ∙ alone); source = taken.source }

pub returns-in-Ok-clause-new : goal.returns-in-Ok-clause-new
returns-in-Ok-clause-new c =
    taken_new arc_value c.args.declarations.now (inner c.args.part.now) c.in-Ok.map c.in_ok-beside.beside c.with_profiles.result
    (subst (λ r. Spells map_value r (spelled (text (inner c.args.part.now)))) c.in-Ok.is c.in_ok-fault.ensures) c.in_ok-beside.ensures c.with_profiles.ensures.taken c.with_profiles.ensures.alone
