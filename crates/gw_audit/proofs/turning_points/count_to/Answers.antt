use Rattle.std.proofs.Common.{◌+◌, ◌∙◌, ap, if◌then◌else◌}
use Rattle.gw_audit.proofs.Turning.{counts_stay, counts_push}
use Rattle.gw_audit.proofs.turning_points.count_to.Goals as goal

pub returns-then-more : goal.returns-then-more
returns-then-more c f m is next was =
    rw c.in_ok-push.ensures.items (counts_push f m _ _ is was (next ∙ ap (λ b. f m + (if b then 1 else 0)) c.if-more.true))

pub returns : goal.returns
returns c f m is next was = counts_stay f m _ _ is was (next ∙ ap (λ b. f m + (if b then 1 else 0)) c.if-more.false)
