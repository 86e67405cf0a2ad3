use Rattle.std.proofs.Common.{◌≡◌, ◌∙◌, ◌++◌, ◌∷◌, [], List, ap, arith, length}
use Rattle.gw_gate.specs.Chapters.{all_entries}
use Rattle.gw_gate.specs.Journal.{Journal, end}
use Rattle.gw_audit.specs.Report.{report_of}
use Rattle.gw_audit.proofs.Following.{exact, few_in_all}
use Rattle.gw_audit.proofs.join.settled.Goals as goal

-- the parts are the chapters and the gate
are : (lent parts js : List Journal) (gate counted : Journal) → lent ≡ parts → parts ≡ js ++ gate ∷ [] → gate ≡ counted → lent ≡ js ++ counted ∷ []
are lent parts js gate counted value made same = value ∙ made ∙ ap (λ (j : Journal). js ++ j ∷ []) same

pub returns-clause-report : goal.returns-clause-report
returns-clause-report g c =
    c.of.ensures ∙ ap (λ (l : List Journal). report_of (all_entries l)) (are _ _ _ _ _ c.deref-2.ensures.value c.in_ok-parts.ensures c.gate-gate.ensures)

pub of-requires : goal.of-requires
of-requires g c =
    let parts = are _ _ _ _ _ c.deref.ensures.value c.in_ok-parts.ensures c.gate-gate.ensures in
    let told = exact _ c.args.chapters.now c.args.counted.now _ c.args.passes.now _ parts c.since.ensures.since c.in_ok-is_settled.ensures in
    let few = few_in_all c.args.chapters.now c.args.counted.now.gate (told.0 c.if-not-branch.false).follow in
    let lent = ap (λ (l : List Journal). length (all_entries l)) (are _ _ _ _ _ c.deref-2.ensures.value c.in_ok-parts.ensures c.gate-gate.ensures) in
    let gate = ap (λ (j : Journal). end j) c.gate-gate.ensures in
    let end_is = c.end-end.ensures in
    omega (arith, few, lent, gate, end_is)
