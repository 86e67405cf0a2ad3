-- What every plan keeps.
use Rattle.std.specs.Prelude.{◌≡◌, map, Ok}
use Rattle.gw_plan.specs.declared.index.Index.{Index}
use Rattle.gw_plan.specs.Index.{Key, Indexes}
use Rattle.gw_plan.specs.Held.{RouteHeld, PlanHeld, plan_value}
use Rattle.gw_plan.specs.Whole.{spelled}

abbrev pub key_of : RouteHeld → Key
key_of r = record { code = r.code; event = r.event; senders = r.senders }

-- it is the meaning of its text, and its routes are found by their codes, events and senders
pub record IsPlan (p : PlanHeld) (index : Index) : Type 0 where
  pub meaning : spelled p.text ≡ Ok (plan_value p)
  pub indexed : Indexes index (map key_of p.routes)
