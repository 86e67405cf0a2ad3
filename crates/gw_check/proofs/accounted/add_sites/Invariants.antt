use Rattle.std.proofs.Common.{take, []}
use Rattle.gw_check.specs.Reads.{is_read}
use Rattle.gw_check.specs.Collected.{Gains, no_element}
use Rattle.gw_check.specs.Seen.{all_sites}
use Rattle.gw_check.proofs.accounted.add_sites.Given as goal

abbrev pub invariant-loop-site : goal.invariant-loop-site
invariant-loop-site l = Gains l.initial.known l.known (is_read (all_sites [] (take l.site-index l.sites))) no_element
