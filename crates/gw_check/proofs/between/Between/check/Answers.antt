use Rattle.std.proofs.Common.{sym}
use Rattle.gw_check.proofs.Sharing.{as_given}
use Rattle.gw_check.proofs.between.Between.check.Goals as goal

pub examine_by-requires : goal.examine_by-requires
examine_by-requires c = as_given c.self.inside.compared (sym c.in-Ok.ensures) (sym c.in-Ok-try_clone.ensures) c.self.invariant

pub invariant_of-self : goal.invariant_of-self
invariant_of-self c = as_given c.examine_by.new.compared c.in-Ok.ensures c.in-Ok-try_clone.ensures c.in-Ok-examine_by.ensures.compared

pub invariant_of-self-in-Err-Memory : goal.invariant_of-self-in-Err-Memory
invariant_of-self-in-Err-Memory c = as_given c.examine_by.new.compared c.in-Ok.ensures c.in-Ok-try_clone.ensures c.in-Err-Memory.ensures.compared

pub invariant_of-self-2 : goal.invariant_of-self-2
invariant_of-self-2 c = as_given c.examine_by.new.compared c.in-Ok.ensures c.in-Ok-try_clone.ensures c.in-Err-Rules.ensures.compared
