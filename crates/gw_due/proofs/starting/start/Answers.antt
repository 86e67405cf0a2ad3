use Rattle.std.proofs.Common.{◌<◌, length, map, [], ap, sym, subst, ◌∙◌, arith}
use Rattle.std.proofs.lemmas.List.{length-map, get_or-map}
use Rattle.gw_due.specs.Starting.{none}
use Rattle.gw_due.proofs.Restarting.{goes_on}
use Rattle.gw_due.proofs.starting.start.Goals as goal

pub loop-at-init : goal.loop-at-init
loop-at-init c = record {
  first = c.in-Ok.state;
  fits = c.in-Ok.ensures.found.0;
  spells = c.in-Ok.ensures.found.1;
  on = none;
}

pub loop-at-preserved : goal.loop-at-preserved
loop-at-preserved c =
    let items = c.args.records.now in
    let all = map (λ r. r.items) items in
    let within : c.loop-at.at < length items = omega (arith, c.loop-at-test.true, c.loop-at.auto.at-end) in
    goes_on c.args.checkpoint.now c.deref.result.now all c.loop-at.at c.loop-at.state c.go_on.new.state
    (subst (λ n. c.loop-at.at < n) (sym (length-map items (λ r. r.items))) within)
    (get_or-map (λ r. r.items) items c.loop-at.at c.index-records-at.result [] within ∙ ap (λ r. r.items) (sym c.index-records-at.is) ∙ sym c.deref.ensures.value)
    c.loop-at.invariant c.in_ok-go_on.ensures.ok
