use Rattle.gw_profile.specs.Seen.{comp, profile_value}
use Rattle.std.proofs.Common.{refl, ◌∷◌, [], ◌+◌}
use Rattle.std.specs.FinMap as texts
use Rattle.gw_validate.specs.Breaches.{CompBreach}
use Rattle.gw_validate.specs.own.Least.{CompRises}
use Rattle.gw_validate.proofs.Gathering.{all_at, gathers_begin, gathers_more, gathers_end, stops_more, visits_err}
use Rattle.gw_validate.proofs.Walks.{walk_here, walk_on, comp_up, rep_end, first_comp}
use Rattle.gw_validate.proofs.fields.visit_comps.Goals as goal

pub loop-comp-init : goal.loop-comp-init
loop-comp-init g c = record {
  all = gathers_begin (c.args.field ∷ c.args.rep ∷ []) comp (λ s. s.number) (CompBreach (profile_value c.args.profile.now) c.args.segment.now.at c.args.field c.args.rep) c.args.comps.now (g.V.AtBreach.seen c.args.visitor.now);
  walk = record { low = 0; rises = c.requires.rises; before = first_comp c.args.field c.args.rep (texts.entries c.args.segment.now.at) c.args.near.now c.requires.near };
}

pub visit_comp-requires-clause-rises : goal.visit_comp-requires-clause-rises
visit_comp-requires-clause-rises g c = all_at comp CompRises c.args.comps.now c.loop-comp.comp-index c.comp-item.result c.loop-comp-test.true c.comp-item.is c.requires.each

pub visit_comp-requires-clause-near : goal.visit_comp-requires-clause-near
visit_comp-requires-clause-near g c =
    let f = c.args.field in
    let r = c.args.rep in
    walk_here comp (λ s. s.number) (λ low. f ∷ r ∷ (low + 1) ∷ 0 ∷ []) (λ s. f ∷ r ∷ s ∷ 0 ∷ []) (texts.entries c.args.segment.now.at) c.args.comps.now c.loop-comp.comp-index c.loop-comp.near c.comp-item.result c.loop-comp-test.true c.comp-item.is c.loop-comp.invariant.walk (comp_up f r) (λ a b. refl)

pub returns-in_err-visit_comp-clause-all : goal.returns-in_err-visit_comp-clause-all
returns-in_err-visit_comp-clause-all g c =
    let f = c.args.field in
    let r = c.args.rep in
    visits_err g.V.AtBreach.stopped _ _ _ _ c.from_residual.result c.from_residual.ensures
    (stops_more (f ∷ r ∷ []) comp (λ s. s.number) (CompBreach (profile_value c.args.profile.now) c.args.segment.now.at f r) c.args.comps.now c.loop-comp.comp-index c.comp-item.result _ _ c.loop-comp-test.true c.comp-item.is c.requires.rises c.loop-comp.invariant.all g.V.AtBreach.stopped _ c.in_err-visit_comp.ensures.all)

pub loop-comp-preserved : goal.loop-comp-preserved
loop-comp-preserved g c =
    let f = c.args.field in
    let r = c.args.rep in
    record {
      all = gathers_more (f ∷ r ∷ []) comp (λ s. s.number) (CompBreach (profile_value c.args.profile.now) c.args.segment.now.at f r) c.args.comps.now c.loop-comp.comp-index c.comp-item.result _ _ c.loop-comp-test.true c.comp-item.is c.requires.rises c.loop-comp.invariant.all _ c.in_ok-visit_comp.ensures.all;
      walk = walk_on comp (λ s. s.number) (λ low. f ∷ r ∷ (low + 1) ∷ 0 ∷ []) (λ s. f ∷ r ∷ s ∷ 0 ∷ []) (texts.entries c.args.segment.now.at) c.args.comps.now c.loop-comp.comp-index c.loop-comp.near c.comp-item.result c.loop-comp-test.true c.comp-item.is c.loop-comp.invariant.walk _ c.in_ok-visit_comp.ensures.near;
    }

pub returns-clause-all : goal.returns-clause-all
returns-clause-all g c =
    gathers_end (c.args.field ∷ c.args.rep ∷ []) comp (λ s. s.number) (CompBreach (profile_value c.args.profile.now) c.args.segment.now.at c.args.field c.args.rep) c.args.comps.now c.loop-comp.comp-index _ _ c.loop-comp-test.false c.loop-comp.invariant.all

pub returns-clause-near : goal.returns-clause-near
returns-clause-near g c = rep_end c.args.field c.args.rep _ _ (texts.entries c.args.segment.now.at) c.loop-comp.near c.loop-comp.invariant.walk.before
