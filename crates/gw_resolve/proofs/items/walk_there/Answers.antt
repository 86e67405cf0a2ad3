use Rattle.std.proofs.Common.{ap, ◌∙◌, ◌++◌}
use Rattle.gw_maplang.specs.Seen as raw
use Rattle.gw_resolve.specs.Naming as spec
use Rattle.gw_resolve.specs.Places.{within}
use Rattle.gw_resolve.specs.Seen.{scope as walked}
use Rattle.gw_resolve.proofs.Noting.{as_many}
use Rattle.gw_resolve.proofs.items.walk_there.Goals as goal

pub returns : goal.returns
returns c =
    let inner = c.in_ok-inner.ensures ∙ ap (within (walked c.args.scope.now)) c.in_ok-led.ensures.place in
    let asked = ap walked c.deref-2.ensures.value ∙ inner in
    rw (← c.deref.ensures.value)
    (record {
      place = c.in_ok-led.ensures.place;
      inner = inner;
      condition = c.in_ok-condition.ensures.made ∙ ap (λ s. spec.condition_within s (raw.field_condition_some c.args.walk.now.condition)) asked;
      leads = c.in_ok-led.ensures.leads;
      kept = as_many _ _ _ (c.len-kept.ensures ∙ c.lead.new.found.ok.0) c.in_ok-led.ensures.failures;
      failures =
          c.in_ok-condition.ensures.failures
          ∙ (λ i. c.in_ok-led.ensures.failures i ++ spec.condition_failures (asked i) c.args.line (raw.field_condition_some c.args.walk.now.condition));
    })
