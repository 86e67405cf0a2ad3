use Rattle.std.proofs.Common.{Some, sym, subst, arith}
use Rattle.gw_maplang.specs.Seen.{condition, condition_some}
use Rattle.gw_interp.specs.Meaning.{IsChosen}
use Rattle.gw_interp.specs.own.Sourced.{IsFirstOne}
use Rattle.gw_interp.proofs.Chosen.{chosen_there, first_of_next}
use Rattle.gw_interp.proofs.reading.first_chosen.Goals as goal

pub returns-in-None : goal.returns-in-None
returns-in-None c = subst (λ o. IsFirstOne (IsChosen (condition_some o) c.args.segment.now.at c.args.field) c.first_rep.result) (sym c.in-None.is) c.first_rep.ensures

pub returns-in-Some : goal.returns-in-Some
returns-in-Some c =
    let chosen = Some (condition c.in-Some.condition) in
    subst (λ o. IsFirstOne (IsChosen (condition_some o) c.args.segment.now.at c.args.field) c.next_chosen.result) (sym c.in-Some.is)
    (first_of_next (IsChosen chosen c.args.segment.now.at c.args.field) c.next_chosen.result
    (λ is. omega (arith, (c.reps.ensures.within 0 (chosen_there chosen c.args.segment.now.at c.args.field 0 is)).0)) c.next_chosen.ensures)
