use Rattle.std.proofs.Common.{[], arith}
use Rattle.gw_log.proofs.Moments.{weaker, joined}
use Rattle.gw_log.proofs.Sound.{none_yet, added_either, one_either, since, changed, from_none}
use Rattle.gw_log.proofs.steps.begin.Goals as goal

pub returns-in_err-repair-clause-any_moment : goal.returns-in_err-repair-clause-any_moment
returns-in_err-repair-clause-any_moment g c = λ records only none is short.
    weaker _ _ _ _ _ _ (λ f has. changed _ _ _ _ f (one_either records) has) (c.repair.ensures.any_moment [] only (none_yet _ none))

pub returns-in_err-put-clause-any_moment : goal.returns-in_err-put-clause-any_moment
returns-in_err-put-clause-any_moment g c = λ records only none is short.
    let first = weaker _ _ _ _ _ _ (λ f has. changed _ _ _ _ f (one_either records) has) (c.repair.ensures.any_moment [] only (none_yet _ none)) in
    let made = c.in_ok-repair.ensures.repaired [] only (none_yet _ none) in
    joined _ _ _ _ _ _ first (weaker _ _ _ _ _ _ (λ f has. since _ _ _ _ f c.in_ok-repair.ensures.others (changed _ _ _ _ f (added_either [] records) has))
    (c.put.ensures.any_moment 2 [] [] records made is short))

pub returns-clause-any_moment : goal.returns-clause-any_moment
returns-clause-any_moment g c = λ records only none is short.
    let first = weaker _ _ _ _ _ _ (λ f has. changed _ _ _ _ f (one_either records) has) (c.repair.ensures.any_moment [] only (none_yet _ none)) in
    let made = c.in_ok-repair.ensures.repaired [] only (none_yet _ none) in
    joined _ _ _ _ _ _ first (weaker _ _ _ _ _ _ (λ f has. since _ _ _ _ f c.in_ok-repair.ensures.others (changed _ _ _ _ f (added_either [] records) has))
    (c.put.ensures.any_moment 2 [] [] records made is short))

pub returns-clause-ok : goal.returns-clause-ok
returns-clause-ok g c = λ records only none is short.
    from_none _ _ _ _ _ records (c.in_ok-put.ensures.ok 2 [] [] records (c.in_ok-repair.ensures.repaired [] only (none_yet _ none)) is short (omega arith))
