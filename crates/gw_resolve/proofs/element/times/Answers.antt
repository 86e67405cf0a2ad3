use Rattle.std.proofs.Common.{sym, ap, ◌∙◌}
use Rattle.gw_resolve.specs.Intervals.{of_card}
use Rattle.gw_resolve.specs.Seen.{element as seen, interval, saturated, found_value}
use Rattle.gw_resolve.proofs.Finding.{times_found}
use Rattle.gw_resolve.proofs.element.times.Goals as goal

pub returns : goal.returns
returns c = λ f e.
    times_found (seen c.args.element) (seen c.in_ok-below.below.element) (interval c.in_ok-below.below.count) (interval c.of.result) (interval c.times.result) f
    (sym (ap found_value c.in_ok-below.was) ∙ e) (c.of.ensures ∙ ap (λ d. saturated (of_card d)) c.card_of.ensures) c.times.ensures
