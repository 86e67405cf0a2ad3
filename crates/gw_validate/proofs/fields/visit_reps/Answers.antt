use Rattle.gw_er7.specs.Presence.{RepAt}
use Rattle.gw_profile.specs.Seen.{field, profile_value}
use Rattle.std.proofs.Common.{refl, arith, ◌∷◌, []}
use Rattle.gw_validate.proofs.Gathering.{gathers_join, stops_then, stops_first, visits_err}
use Rattle.gw_validate.proofs.Every.{reps_begin, next_joins, rest_joins, reps_all}
use Rattle.gw_validate.proofs.Nexts.{counted_gap, next_counted}
use Rattle.gw_validate.proofs.fields.visit_reps.Goals as goal

pub loop-found-init : goal.loop-found-init
loop-found-init g c = record {
  all = reps_begin (profile_value c.args.profile.now) c.args.segment.now.at (field c.args.shape.now) (c.args.shape.now.number ∷ []) (g.V.AtBreach.seen c.args.visitor.now) c.requires.some;
  gone = record { counted = refl; small = omega arith };
  next = c.requires.next;
  here = c.requires.here;
}

pub visit_rep-requires-clause-before : goal.visit_rep-requires-clause-before
visit_rep-requires-clause-before g c =
    let next = rw c.in-Some.is at c.loop-found.invariant.next in
    counted_gap (RepAt c.args.segment.now.at c.args.shape.now.number) c.loop-found.rep c.in-Some.next c.loop-found.before next.behind next.first c.loop-found.invariant.gone.counted

pub visit_rep-requires-clause-near : goal.visit_rep-requires-clause-near
visit_rep-requires-clause-near g c = rw c.in-Some.is at c.loop-found.invariant.here

pub returns-in_err-visit_rep-clause-all : goal.returns-in_err-visit_rep-clause-all
returns-in_err-visit_rep-clause-all g c =
    let next = rw c.in-Some.is at c.loop-found.invariant.next in
    let p = profile_value c.args.profile.now in
    let m = c.args.segment.now.at in
    let s = field c.args.shape.now in
    let pre = c.args.shape.now.number ∷ [] in
    visits_err g.V.AtBreach.stopped _ _ _ _ c.from_residual.result c.from_residual.ensures
    (stops_first g.V.AtBreach.stopped _ _ _ (rest_joins p m s pre c.in-Some.next) _ _
    (stops_then g.V.AtBreach.stopped _ _ _ (next_joins p m s pre c.loop-found.rep c.in-Some.next next) _ _ _ c.loop-found.invariant.all c.in_err-visit_rep.ensures.all))

pub loop-found-preserved : goal.loop-found-preserved
loop-found-preserved g c =
    let next = rw c.in-Some.is at c.loop-found.invariant.next in
    let small = c.loop-found.invariant.gone.small in
    record {
      all = gathers_join _ _ _ (next_joins (profile_value c.args.profile.now) c.args.segment.now.at (field c.args.shape.now) (c.args.shape.now.number ∷ []) c.loop-found.rep c.in-Some.next next) _ _ _ c.loop-found.invariant.all c.in_ok-visit_rep.ensures.all;
      gone = record {
        counted = next_counted (RepAt c.args.segment.now.at c.args.shape.now.number) c.loop-found.rep c.in-Some.next c.loop-found.before next.behind next.there next.first c.loop-found.invariant.gone.counted;
        small = omega (arith, small, next.behind);
      };
      next = c.next_rep-found.ensures.next;
      here = c.next_rep-found.ensures.here;
    }

pub returns-clause-all : goal.returns-clause-all
returns-clause-all g c =
    let past = rw c.in_default.is at c.loop-found.invariant.next in
    reps_all (profile_value c.args.profile.now) c.args.segment.now.at (field c.args.shape.now) (c.args.shape.now.number ∷ []) c.loop-found.rep _ _ past.none c.loop-found.invariant.all

pub returns-clause-near : goal.returns-clause-near
returns-clause-near g c = rw c.in_default.is at c.loop-found.invariant.here
