use Rattle.gw_profile.specs.Seen.{sub, profile_value}
use Rattle.std.proofs.Common.{refl, ◌∷◌, [], ◌+◌}
use Rattle.std.specs.FinMap as texts
use Rattle.gw_er7.specs.Message.{text_of}
use Rattle.gw_validate.specs.Breaches.{SubBreach}
use Rattle.gw_validate.proofs.Gathering.{gathers_at, gathers_begin, gathers_more, stops_at, stops_more, visits_err}
use Rattle.gw_validate.proofs.Walks.{walk_here, walk_on, sub_up, comp_end}
use Rattle.gw_validate.proofs.fields.visit_leaves.Goals as goal

pub loop-sub-init : goal.loop-sub-init
loop-sub-init g c =
    let f = c.args.comp.field in
    let r = c.args.comp.rep in
    let k = c.args.comp.comp in
    record {
      all = gathers_begin (f ∷ r ∷ k ∷ []) sub (λ s. s.number) (λ s. SubBreach (profile_value c.args.profile.now) s (text_of c.args.segment.now.at f r k s.number)) c.args.subs.now (g.V.AtBreach.seen c.args.visitor.now);
      walk = record { low = 0; rises = c.requires.rises; before = c.requires.near };
    }

pub text_from-text-requires : goal.text_from-text-requires
text_from-text-requires g c =
    let f = c.args.comp.field in
    let r = c.args.comp.rep in
    let k = c.args.comp.comp in
    walk_here sub (λ s. s.number) (λ low. f ∷ r ∷ k ∷ (low + 1) ∷ []) (λ s. f ∷ r ∷ k ∷ s ∷ []) (texts.entries c.args.segment.now.at) c.args.subs.now c.loop-sub.sub-index c.loop-sub.near c.sub-item.result c.loop-sub-test.true c.sub-item.is c.loop-sub.invariant.walk (sub_up f r k) (λ a b. refl)

pub returns-in_err-visit_leaf-clause-all : goal.returns-in_err-visit_leaf-clause-all
returns-in_err-visit_leaf-clause-all g c =
    let f = c.args.comp.field in
    let r = c.args.comp.rep in
    let k = c.args.comp.comp in
    let p = profile_value c.args.profile.now in
    visits_err g.V.AtBreach.stopped _ _ _ _ c.from_residual.result c.from_residual.ensures
    (stops_more (f ∷ r ∷ k ∷ []) sub (λ s. s.number) (λ s. SubBreach p s (text_of c.args.segment.now.at f r k s.number)) c.args.subs.now c.loop-sub.sub-index c.sub-item.result _ _ c.loop-sub-test.true c.sub-item.is c.requires.rises c.loop-sub.invariant.all g.V.AtBreach.stopped _
    (stops_at g.V.AtBreach.stopped (f ∷ r ∷ k ∷ c.sub-item.result.number ∷ []) (SubBreach p (sub c.sub-item.result)) _ _ c.text_from-text.ensures.text _ _ c.in_err-visit_leaf.ensures))

pub loop-sub-preserved : goal.loop-sub-preserved
loop-sub-preserved g c =
    let f = c.args.comp.field in
    let r = c.args.comp.rep in
    let k = c.args.comp.comp in
    let p = profile_value c.args.profile.now in
    record {
      all = gathers_more (f ∷ r ∷ k ∷ []) sub (λ s. s.number) (λ s. SubBreach p s (text_of c.args.segment.now.at f r k s.number)) c.args.subs.now c.loop-sub.sub-index c.sub-item.result _ _ c.loop-sub-test.true c.sub-item.is c.requires.rises c.loop-sub.invariant.all _
          (gathers_at (f ∷ r ∷ k ∷ c.sub-item.result.number ∷ []) (SubBreach p (sub c.sub-item.result)) _ _ c.text_from-text.ensures.text _ _ c.in_ok-visit_leaf.ensures);
      walk = walk_on sub (λ s. s.number) (λ low. f ∷ r ∷ k ∷ (low + 1) ∷ []) (λ s. f ∷ r ∷ k ∷ s ∷ []) (texts.entries c.args.segment.now.at) c.args.subs.now c.loop-sub.sub-index c.loop-sub.near c.sub-item.result c.loop-sub-test.true c.sub-item.is c.loop-sub.invariant.walk _ c.text_from-text.ensures.near;
    }

pub returns-clause-near : goal.returns-clause-near
returns-clause-near g c = comp_end c.args.comp.field c.args.comp.rep c.args.comp.comp _ (texts.entries c.args.segment.now.at) c.loop-sub.near c.loop-sub.invariant.walk.before
