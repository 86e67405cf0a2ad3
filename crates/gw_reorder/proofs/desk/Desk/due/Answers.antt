use Rattle.std.proofs.Common.{◌<◌, ℕ, List, All, subst, sym, arith}
use Rattle.std.specs.List.Sorted.{IsStrictlyIncreasing}
use Rattle.gw_reorder.proofs.desk.Desk.due.Goals as goal
use Rattle.gw_reorder.proofs.Places.{rising_more}

pub invariant_of-self : goal.invariant_of-self
invariant_of-self g c =
    let d = c.self.inside in
    record {
      rising = subst (λ (xs : List ℕ). IsStrictlyIncreasing xs) (sym c.push_reserved.ensures.items)
          (rising_more d.due.items c.args.n c.self.invariant.rising (subst (λ s. All (λ m. m < c.args.n) s.due) (sym c.self.view_is) c.requires.above));
      places = omega arith;
    }
