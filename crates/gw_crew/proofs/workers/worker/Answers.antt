use Rattle.std.proofs.Common.{◌≡◌, ◌+◌, [], ap, arith, refl, subst, sym}
use Rattle.gw_stream.specs.declared.counts.Counts.{Counts}
use Rattle.gw_stream.specs.Counted.{nothing}
use Rattle.gw_crew.specs.Works.{Worked}
use Rattle.gw_crew.proofs.Bounds.{noted_few}
use Rattle.gw_crew.proofs.Working.{next_of, worked_few, worked_more, worked_none, works_so}
use Rattle.gw_crew.proofs.workers.worker.Goals as goal

pub rounds-init : goal.rounds-init
rounds-init g c = record {
  running = c.requires;
  counted = subst (λ (k : Counts). k ≡ record nothing { put = k.put }) (sym c.none-counts.ensures) refl;
  worked = (let old = g.D.Door.noted c.args.door.now in subst (λ (k : Counts). Worked old old k.put) (sym c.none-counts.ensures) (worked_none old));
}

pub returns-in_default-clause-works : goal.returns-in_default-clause-works
returns-in_default-clause-works g c =
    works_so _ _ _ _ _ _ c.rounds.invariant.worked c.rounds.invariant.counted (rw c.in_default.is at c.in_ok-kept.ensures.turn)

pub overflow_add-counts : goal.overflow_add-counts
overflow_add-counts g c =
    let few = worked_few _ _ _ c.rounds.invariant.worked in
    let one = (next_of [] 0 _ _ _ (rw c.in-Some.is at c.in_ok-kept.ensures.turn).holds).few in
    let bound = noted_few _ _ c.notes-noted.ensures c.notes-noted.type_inv.0 in
    omega (arith, few, one, bound)

pub rounds-preserved : goal.rounds-preserved
rounds-preserved g c =
    let turn = rw c.in-Some.is at c.in_ok-kept.ensures.turn in
    record {
      running = (next_of [] 0 _ _ _ turn.holds).running;
      counted = ap (λ (k : Counts). record k { put = c.rounds.counts.put + c.in-Some.kept }) c.rounds.invariant.counted;
      worked = worked_more _ _ _ _ _ _ c.rounds.invariant.worked turn;
    }
