use Rattle.std.proofs.Common.{◌∷◌, []}
use Rattle.gw_validate.specs.Kinds.{number_of}
use Rattle.gw_validate.proofs.Gathering.{visits_breach, gathers_not}
use Rattle.gw_validate.proofs.fields.visit_if.Goals as goal

pub returns-then-test : goal.returns-then-test
returns-then-test g c =
    let p = c.args.place in
    visits_breach g.V.AtBreach.stopped c.args.test (p.field ∷ p.rep ∷ p.comp ∷ p.sub ∷ number_of c.args.kind ∷ []) _ _ c.breach.result c.if-test.true c.breach.ensures.on c.breach.ensures.ends

pub returns : goal.returns
returns g c =
    let p = c.args.place in
    gathers_not c.args.test (p.field ∷ p.rep ∷ p.comp ∷ p.sub ∷ number_of c.args.kind ∷ []) _ c.if-test.false
