use Rattle.std.proofs.Common.{◌∙◌, ap, Some}
use Rattle.gw_profile.specs.Seen.{profile_value}
use Rattle.gw_check.specs.Kept.{CheckedValue}
use Rattle.gw_plan.specs.Admitted.{ConformingHeld}
use Rattle.gw_plan.proofs.Sendings.{sends}
use Rattle.gw_plan.proofs.conforming.Conforming.translation.Goals as goal

pub returns-in-Ok : goal.returns-in-Ok
returns-in-Ok c =
    sends c.args.self.now c.args.receiver c.route.result.now c.deref.result.now c.self.inside.tree c.in-Ok.made (ap (λ (x : ConformingHeld). x.tree) c.self.view_is) c.route.ensures.route c.route.ensures.profile
    (ap Some c.deref.ensures ∙ c.in-Some.ensures.leg) (ap (λ (x : CheckedValue). profile_value x.source) c.deref.ensures ∙ c.in-Some.ensures.takes)
    c.route.ensures.formed c.route.ensures.message c.route.ensures.conforms c.segment_count-count.ensures.message
    c.root-root.ensures.tree c.in-Ok.ensures.means c.in-Ok.ensures.conforms
