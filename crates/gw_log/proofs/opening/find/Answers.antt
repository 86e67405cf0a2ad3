use Rattle.std.proofs.Common.{◌∙◌}
use Rattle.gw_log.proofs.Placing.{none_within}
use Rattle.gw_log.proofs.Founding.{by_same, up_same, found_so, least_is, last_same, begins_same, top_so}
use Rattle.gw_log.proofs.Denying.{handed_on, none_of_same, none_up_same}
use Rattle.gw_log.proofs.opening.find.Goals as goal

pub returns-then-top-least-clause-missing : goal.returns-then-top-least-clause-missing
returns-then-top-least-clause-missing g c = λ honest fault n. none_within _ _ _ c.if-top-least.true (c.in_ok-least.ensures.ends honest) n

pub returns-clause-up : goal.returns-clause-up
returns-clause-up g c = λ honest.
    up_same _ _ _ _ _ _ _ c.ends.ensures.seen (c.in_ok-number.ensures.up (c.linked.ensures.reads.back honest))

pub returns-clause-found : goal.returns-clause-found
returns-clause-found g c = λ honest from head records log.
    let born = c.linked.ensures.reads.back honest in
    let ends = c.in_ok-least.ensures.ends (c.last_born.ensures.reads.back born) in
    let last = last_same _ _ _ _ _ c.ends.ensures.seen (c.in_ok-number.ensures.last born) in
    found_so _ _ _ _ _ log _ _ ends _ _ _ _ (last _ _ _ _ log ends)
    (begins_same _ _ _ _ _ _ _ (c.last_born.ensures.reads.same ∙ c.ends.ensures.seen) (c.in_ok-place.ensures.begins honest))

pub returns-clause-top : goal.returns-clause-top
returns-clause-top g c = λ honest.
    let born = c.linked.ensures.reads.back honest in
    top_so _ _ _ _ (c.in_ok-least.ensures.ends (c.last_born.ensures.reads.back born)) c.in_ok-number.ensures.near c.in_ok-number.ensures.next

pub returns-clause-head : goal.returns-clause-head
returns-clause-head g c = λ honest. begins_same _ _ _ _ _ _ _ (c.last_born.ensures.reads.same ∙ c.ends.ensures.seen) (c.in_ok-place.ensures.begins honest)

pub returns-in_err-number-clause-damaged : goal.returns-in_err-number-clause-damaged
returns-in_err-number-clause-damaged g c = λ honest segment at fault from head records log.
    let none = c.in_err-number.ensures.damaged honest segment at
    (handed_on c.from_residual-in_err-number.result _ _ c.from_residual-in_err-number.ensures fault) in
    none_up_same _ _ _ _ c.ends.ensures.seen none _ from head records log (c.in_ok-least.ensures.ends (c.last_born.ensures.reads.back honest))

pub returns-in_err-place-clause-damaged : goal.returns-in_err-place-clause-damaged
returns-in_err-place-clause-damaged g c = λ honest segment at fault from head records log.
    let none = c.in_err-place.ensures.damaged honest segment at
    (handed_on c.from_residual-in_err-place.result _ _ c.from_residual-in_err-place.ensures fault) in
    let born = c.linked.ensures.reads.back honest in
    let ends = c.in_ok-least.ensures.ends (c.last_born.ensures.reads.back born) in
    let last = last_same _ _ _ _ _ c.ends.ensures.seen (c.in_ok-number.ensures.last born) in
    none_of_same _ _ _ _ _ (c.last_born.ensures.reads.same ∙ c.ends.ensures.seen) none from head records log
    (least_is _ _ _ _ _ log _ _ ends) (last _ _ _ _ log ends)

pub returns-clause-there : goal.returns-clause-there
returns-clause-there g c = λ honest. by_same _ _ _ _ _ (c.last_born.ensures.reads.same ∙ c.ends.ensures.seen) (c.in_ok-place.ensures.there honest)
