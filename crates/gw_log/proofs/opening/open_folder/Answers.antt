use Rattle.std.proofs.Common.{◌∙◌, ap, subst}
use Rattle.gw_log.specs.Disk.{Files}
use Rattle.gw_log.specs.State.{records_of}
use Rattle.gw_log.specs.own.Steps.{UpTo}
use Rattle.gw_log.proofs.Moments.{weaker, joined}
use Rattle.gw_log.proofs.Founding.{log_same, log_trimmed, log_repaired, only_read, trimmed_as, last_kept}
use Rattle.gw_log.proofs.Denying.{handed_on}
use Rattle.gw_log.proofs.opening.open_folder.Goals as goal

pub returns-in_err-found-clause-any_moment : goal.returns-in_err-found-clause-any_moment
returns-in_err-found-clause-any_moment g c = λ honest from head records log.
    weaker _ _ _ _ _ _ (λ f may. log_same _ _ _ _ _ log f (c.requires f may)) c.find.ensures.reads.moments

pub returns-in_err-trim-clause-any_moment : goal.returns-in_err-trim-clause-any_moment
returns-in_err-trim-clause-any_moment g c = λ honest from head records log.
    let was = c.trim.ensures.back honest in
    let reads = c.find.ensures.reads in
    let number = (c.in_ok-found.ensures.found was from head records log).its_number in
    let first = weaker _ _ _ _ _ _ (λ f may. log_same _ _ _ _ _ log f (c.requires f may)) reads.moments in
    joined _ _ _ _ _ _ first (weaker _ _ _ _ _ _
    (λ f trimmed. log_trimmed _ _ _ _ _ log _ _ number (c.in_ok-found.ensures.top was) f (trimmed_as _ _ _ _ f reads.same trimmed))
    (c.trim.ensures.any_moment (only_read _ _ _ _ _ _ _ reads c.requires)))

pub returns-in_err-repair-clause-any_moment : goal.returns-in_err-repair-clause-any_moment
returns-in_err-repair-clause-any_moment g c = λ honest from head records log.
    let was = c.trim.ensures.back (c.repair.ensures.back honest) in
    let reads = c.find.ensures.reads in
    let found = c.in_ok-found.ensures in
    let number = (found.found was from head records log).its_number in
    let trim = c.in_ok-trim.ensures in
    let only = only_read _ _ _ _ _ _ _ reads c.requires in
    let first = weaker _ _ _ _ _ _ (λ f may. log_same _ _ _ _ _ log f (c.requires f may)) reads.moments in
    let second = joined _ _ _ _ _ _ first (weaker _ _ _ _ _ _
    (λ f trimmed. log_trimmed _ _ _ _ _ log _ _ number (found.top was) f (trimmed_as _ _ _ _ f reads.same trimmed)) (c.trim.ensures.any_moment only)) in
    let up = subst (λ l. UpTo l c.in_ok-found.found.end.gate c.in_ok-found.found.end.reach c.in_ok-found.found.end.size (records_of c.in_ok-found.found.records.items)) (last_kept _ _ _ _ _ reads.same trim.others trim.kept) (found.up was) in
    joined _ _ _ _ _ _ second (weaker _ _ _ _ _ _
    (λ f changes. log_repaired _ _ _ _ _ log _ _ number (found.top was) _ f _ (λ m differs. trim.others m differs ∙ ap (λ (l : Files). l m) reads.same) trim.gone
    (found.up was).has changes)
    (c.repair.ensures.any_moment _ (trim.only only) up))

pub returns-clause-any_moment : goal.returns-clause-any_moment
returns-clause-any_moment g c = λ honest from head records log.
    let was = c.trim.ensures.back (c.repair.ensures.back honest) in
    let reads = c.find.ensures.reads in
    let found = c.in_ok-found.ensures in
    let number = (found.found was from head records log).its_number in
    let trim = c.in_ok-trim.ensures in
    let only = only_read _ _ _ _ _ _ _ reads c.requires in
    let first = weaker _ _ _ _ _ _ (λ f may. log_same _ _ _ _ _ log f (c.requires f may)) reads.moments in
    let second = joined _ _ _ _ _ _ first (weaker _ _ _ _ _ _
    (λ f trimmed. log_trimmed _ _ _ _ _ log _ _ number (found.top was) f (trimmed_as _ _ _ _ f reads.same trimmed)) (c.trim.ensures.any_moment only)) in
    let up = subst (λ l. UpTo l c.in_ok-found.found.end.gate c.in_ok-found.found.end.reach c.in_ok-found.found.end.size (records_of c.in_ok-found.found.records.items)) (last_kept _ _ _ _ _ reads.same trim.others trim.kept) (found.up was) in
    joined _ _ _ _ _ _ second (weaker _ _ _ _ _ _
    (λ f changes. log_repaired _ _ _ _ _ log _ _ number (found.top was) _ f _ (λ m differs. trim.others m differs ∙ ap (λ (l : Files). l m) reads.same) trim.gone
    (found.up was).has changes)
    (c.repair.ensures.any_moment _ (trim.only only) up))

pub returns-clause-staged : goal.returns-clause-staged
returns-clause-staged g c = λ honest.
    let was = c.trim.ensures.back (c.repair.ensures.back honest) in
    let reads = c.find.ensures.reads in
    let trim = c.in_ok-trim.ensures in
    let up = subst (λ l. UpTo l c.in_ok-found.found.end.gate c.in_ok-found.found.end.reach c.in_ok-found.found.end.size (records_of c.in_ok-found.found.records.items)) (last_kept _ _ _ _ _ reads.same trim.others trim.kept) (c.in_ok-found.ensures.up was) in
    c.in_ok-repair.ensures.repaired _ (trim.only (only_read _ _ _ _ _ _ _ reads c.requires)) up

pub returns-clause-found : goal.returns-clause-found
returns-clause-found g c = λ honest. c.in_ok-found.ensures.found (c.trim.ensures.back (c.repair.ensures.back honest))

pub returns-in_err-found-clause-damaged : goal.returns-in_err-found-clause-damaged
returns-in_err-found-clause-damaged g c = λ honest segment at fault.
    c.in_err-found.ensures.damaged honest segment at (handed_on c.from_residual.result _ _ c.from_residual.ensures fault)
