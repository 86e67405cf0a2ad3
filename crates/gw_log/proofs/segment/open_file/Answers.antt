use Rattle.std.proofs.Common.{◌∙◌}
use Rattle.gw_log.specs.State.{records_of}
use Rattle.gw_log.proofs.Moments.{weaker, joined}
use Rattle.gw_log.proofs.Sound.{as_changes, up_changes, up_as, only_same}
use Rattle.gw_log.proofs.segment.open_file.Goals as goal

pub returns-in_err-repair-clause-any_moment : goal.returns-in_err-repair-clause-any_moment
returns-in_err-repair-clause-any_moment g c = λ honest.
    let is = c.deref.ensures.value ∙ c.in_ok-bytes.ensures.bytes (c.repair.ensures.back honest) in
    let seen_is = c.read_all.ensures.seen in
    let now = up_as c.args.number _ _ _ _ _ _ (records_of c.in_ok-records.records.items) is seen_is c.in_ok-records.ensures.ok in
    let first = weaker _ _ _ _ _ _ (as_changes _ _) (c.read_all.ensures.any_moment c.requires) in
    let only = only_same _ _ _ seen_is (c.read_all.ensures.durable c.requires) in
    joined _ _ _ _ _ _ first (weaker _ _ _ _ _ _ (λ f has. up_changes c.args.number _ _ _ _ _ f _ _ is seen_is c.in_ok-records.ensures.ok has) (c.repair.ensures.any_moment _ only now))

pub returns-clause-any_moment : goal.returns-clause-any_moment
returns-clause-any_moment g c = λ honest.
    let is = c.deref.ensures.value ∙ c.in_ok-bytes.ensures.bytes (c.repair.ensures.back honest) in
    let seen_is = c.read_all.ensures.seen in
    let now = up_as c.args.number _ _ _ _ _ _ (records_of c.in_ok-records.records.items) is seen_is c.in_ok-records.ensures.ok in
    let first = weaker _ _ _ _ _ _ (as_changes _ _) (c.read_all.ensures.any_moment c.requires) in
    let only = only_same _ _ _ seen_is (c.read_all.ensures.durable c.requires) in
    joined _ _ _ _ _ _ first (weaker _ _ _ _ _ _ (λ f has. up_changes c.args.number _ _ _ _ _ f _ _ is seen_is c.in_ok-records.ensures.ok has) (c.repair.ensures.any_moment _ only now))
