use Rattle.std.proofs.Common.{ap, refl, arith}
use Rattle.gw_audit.proofs.laws.chapters_settle.Goals as goal

pub returns-clause-settled : goal.returns-clause-settled
returns-clause-settled c = record { follow = (refl, tt); from = refl; all = refl; each = refl }

pub returns-clause-exchanged : goal.returns-clause-exchanged
returns-clause-exchanged c go = let e = ap (λ s. s.entries) go.0 in omega (arith, e)

pub returns-clause-twice : goal.returns-clause-twice
returns-clause-twice c go = let e = ap (λ s. s.entries) go.0 in omega (arith, e)
