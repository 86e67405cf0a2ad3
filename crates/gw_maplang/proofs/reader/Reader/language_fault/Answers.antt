use Rattle.std.proofs.Common.{◌∙◌, ap, sym, Some, None, arith}
use Rattle.std.specs.Prelude.{not, if◌then◌else◌}
use Rattle.gw_maplang.specs.declared.fault.MapFault.TheVariants.{Syntax}
use Rattle.gw_maplang.specs.Fault.{just_begun}
use Rattle.gw_maplang.proofs.Once.{once, not_once}
use Rattle.gw_maplang.proofs.reader.Reader.language_fault.Goals as goal

pub returns-then-len-eq1 : goal.returns-then-len-eq1
returns-then-len-eq1 c =
    let said = ap just_begun (sym c.self.view_is) ∙ once c.self.inside.lines.items (let n = c.len.ensures in let one = c.if-len-eq1.true in let all = c.self.inside.lines.ok in omega (arith, n, one, all)) in
    ap (λ b. if not b then Some (Syntax c.args.at) else None) (sym said)

pub returns-else-len-eq1 : goal.returns-else-len-eq1
returns-else-len-eq1 c =
    let said = ap just_begun (sym c.self.view_is) ∙ not_once c.self.inside.lines.items (λ e. c.if-len-eq1.false (let n = c.len.ensures in let all = c.self.inside.lines.ok in omega (arith, n, all, e))) in
    ap (λ b. if not b then Some (Syntax c.args.at) else None) (sym said)
