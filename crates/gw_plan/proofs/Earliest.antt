-- Where there is no earliest fault there is none.
use Rattle.std.proofs.Common.{◌≡◌, ◌+◌, Option, Some, None, refl}
use Rattle.gw_plan.specs.declared.fault.PlanFault.{PlanFault}
use Rattle.gw_plan.specs.Numbers.{earliest}
use Rattle.gw_plan.specs.Inner.{Inner, broken, unstopped, common}

pub none_of_both : (one other : Option PlanFault) → earliest one other ≡ None → (one ≡ None) × (other ≡ None)
none_of_both one None e = (e, refl)
none_of_both one (Some fault) e = absurd (cc)

pub none_beside : (p : Inner) → common p ≡ None → broken (p.at + 1) p.lines ≡ None
none_beside p e = (none_of_both (broken (p.at + 1) p.lines) (unstopped p) e).0
