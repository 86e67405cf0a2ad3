use Rattle.std.proofs.Common.{subst, sym}
use Rattle.std.specs.Prelude.{nat_eq}
use Rattle.std.specs.List.{IsDistinct}
use Rattle.gw_gate.proofs.Asking.{receivers_are}
use Rattle.gw_audit.proofs.delivery_queue.goes_once.Goals as goal

pub returns : goal.returns
returns c = subst (IsDistinct nat_eq) (sym (receivers_are c.args.conforming.now c.route.result.now c.route.ensures.route)) c.route.ensures.once
