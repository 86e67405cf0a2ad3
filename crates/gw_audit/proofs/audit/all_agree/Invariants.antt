use Rattle.std.proofs.Common.{◌≡◌, true, take}
use Rattle.std.specs.List.{list_all}
use Rattle.gw_audit.specs.Settled.{GoOn, agrees}
use Rattle.gw_audit.specs.own.Joins.{notes_of}
use Rattle.gw_audit.proofs.audit.all_agree.Given as goal

abbrev pub invariant-loop-pass : goal.invariant-loop-pass
invariant-loop-pass g l = GoOn l.parts → list_all (agrees l.parts l.since) (notes_of (take l.pass-index l.passes)) ≡ true
