use Rattle.std.proofs.Common.{◌∙◌, sym, ap}
use Rattle.gw_plan.specs.Index.{number_if_some}
use Rattle.gw_plan.proofs.Keys.{placed}
use Rattle.gw_plan.proofs.Finding.{finds_no_code, finds_no_event, finds}
use Rattle.gw_plan.proofs.index.Index.find.Goals as goal

pub returns-in_default : goal.returns-in_default
returns-in_default c keys x = finds_no_code _ _ c.args.code.now c.args.event.now _ keys (placed c.args.code.now _ _ (sym c.get_index_of.ensures.index ∙ c.in_default.is)) x.known

pub returns-in_default-get_index_of : goal.returns-in_default-get_index_of
returns-in_default-get_index_of c keys x =
    finds_no_event _ _ c.args.code.now c.args.event.now _ keys _ (placed c.args.code.now _ _ (sym c.get_index_of.ensures.index ∙ c.in-Some.is))
    (placed c.args.event.now _ _ (sym c.get_index_of-2.ensures.index ∙ c.in_default-get_index_of.is)) x.used x.known

pub returns-in-None : goal.returns-in-None
returns-in-None c keys x =
    let code = placed c.args.code.now _ _ (sym c.get_index_of.ensures.index ∙ c.in-Some.is) in
    let event = placed c.args.event.now _ _ (sym c.get_index_of-2.ensures.index ∙ c.in-Some-get_index_of.is) in
    ap number_if_some (sym c.in-None.is ∙ c.first.ensures keys c.args.code.now c.args.event.now x.found (record { code_is = code; event_is = event }))
    ∙ finds _ c.args.self.now.events.keys c.args.code.now c.args.event.now _ keys _ code x.used

pub returns-in-Some-first : goal.returns-in-Some-first
returns-in-Some-first c keys x =
    let code = placed c.args.code.now _ _ (sym c.get_index_of.ensures.index ∙ c.in-Some.is) in
    let event = placed c.args.event.now _ _ (sym c.get_index_of-2.ensures.index ∙ c.in-Some-get_index_of.is) in
    ap number_if_some (sym c.in-Some-first.is ∙ c.first.ensures keys c.args.code.now c.args.event.now x.found (record { code_is = code; event_is = event }))
    ∙ finds _ c.args.self.now.events.keys c.args.code.now c.args.event.now _ keys _ code x.used
