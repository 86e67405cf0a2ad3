use Rattle.std.proofs.Common.{sym, ap, ◌∙◌}
use Rattle.gw_profile.specs.Seen.{profile_value, segment_value, forest}
use Rattle.gw_sample.specs.own.Least.{Fits}
use Rattle.gw_sample.proofs.Headers.{if_ok, fits}
use Rattle.gw_sample.proofs.least.least_message.Goals as goal

pub returns : goal.returns
returns c =
    let p = profile_value c.args.profile.now in
    if_ok _ (Fits p) c.message_of.result
    (λ m. fits p (segment_value c.headed.result.0.now) (forest c.headed.result.1.now) m c.nodes.ensures.formed (ap forest (sym c.nodes.ensures.value) ∙ c.headed.ensures) c.requires)
    c.message_of.ensures
