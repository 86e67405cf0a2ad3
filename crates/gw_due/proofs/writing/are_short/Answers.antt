use Rattle.std.proofs.Common.{arith}
use Rattle.std.proofs.lemmas.Bool.{leb-true, le-leb}
use Rattle.gw_due.proofs.Forms.{all_below}
use Rattle.gw_due.proofs.writing.are_short.Goals as goal

pub returns : goal.returns
returns c = (
  λ short. (omega (arith, leb-true _ _ short), all_below c.args.to.now (λ i. omega (arith, c.type_inv.to i))),
  λ fits. le-leb _ _ (omega (arith, fits.0)),
)
