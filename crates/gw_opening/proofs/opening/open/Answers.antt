use Rattle.std.proofs.Common.{◌∙◌, ap, Err}
use Rattle.gw_log.specs.History as history
use Rattle.gw_opening.proofs.Denying.{log_sound}
use Rattle.gw_opening.proofs.Founding.{kept_there, log_there, new_begun, new_found, no_log_new, no_log_there, none_there, old_begun, old_found, only_there, some_there, sound_of, state_there}
use Rattle.gw_opening.proofs.opening.open.Goals as goal

pub invariant_of-result : goal.invariant_of-result
invariant_of-result g c =
    let had = ap (history.seen_after g.F.Found.files) c.new-disk.ensures in
    new_begun g.R.Rules.routes g.F.Found.id g.F.Found.files g.F.Found.entries (history.IsHonest g.F.Found.files) (history.seen_after g.F.Found.files) (history.may_after g.F.Found.files)
    c.in-Ok.stored c.in-Ok.state g.met.F.Found.folder (λ did. none_there _ _ had c.in-Ok-None.field-0 c.in-Ok-None.field-0-is (c.in-Ok-None.ensures.none (c.in-Ok.ensures.back did)))
    c.in-Ok.ensures.state c.in-Ok.ensures.ok

pub returns-in-Ok-clause-found : goal.returns-in-Ok-clause-found
returns-in-Ok-clause-found g c =
    let had = ap (history.seen_after g.F.Found.files) c.new-disk.ensures in
    new_found g.R.Rules.routes g.F.Found.id g.F.Found.files g.F.Found.entries (history.IsHonest g.F.Found.files) (history.seen_after g.F.Found.files) (history.may_after g.F.Found.files)
    c.in-Ok.stored c.in-Ok.state g.met.F.Found.folder (λ did. none_there _ _ had c.in-Ok-None.field-0 c.in-Ok-None.field-0-is (c.in-Ok-None.ensures.none (c.in-Ok.ensures.back did)))
    c.in-Ok.ensures.state

pub invariant_of-result-in-Ok-go_on : goal.invariant_of-result-in-Ok-go_on
invariant_of-result-in-Ok-go_on g c =
    let had = ap (history.seen_after g.F.Found.files) c.new-disk.ensures in
    let has = c.find_id.ensures.seen ∙ had in
    old_begun g.R.Rules.routes g.F.Found.id g.F.Found.files g.F.Found.entries (history.IsHonest g.F.Found.files) (history.seen_after g.F.Found.files) (history.may_after g.F.Found.files)
    c.in-Ok-go_on.stored c.in-Ok-go_on.state g.met.F.Found.folder c.in-Ok-Some.id
    (λ did. only_there _ _ had c.in-Ok-Some.field-0 c.in-Ok-Some.id c.in-Ok-Some.field-0-is (c.in-Ok-Some.ensures.id (c.in-Ok-go_on.ensures.back did)))
    (λ did. some_there _ _ had c.in-Ok-Some.field-0 c.in-Ok-Some.id c.in-Ok-Some.field-0-is (c.in-Ok-Some.ensures.some (c.in-Ok-go_on.ensures.back did)))
    (λ did. state_there _ _ has c.in-Ok-Some.id c.in-Ok-go_on.state (c.in-Ok-go_on.ensures.state did))
    (λ all kept. c.in-Ok-go_on.ensures.ok all (kept_there _ _ has c.in-Ok-Some.id all kept)) c.in-Ok-go_on.ensures.none c.in-Ok-go_on.ensures.numbers

pub returns-in-Ok-go_on-clause-found : goal.returns-in-Ok-go_on-clause-found
returns-in-Ok-go_on-clause-found g c =
    let had = ap (history.seen_after g.F.Found.files) c.new-disk.ensures in
    let has = c.find_id.ensures.seen ∙ had in
    old_found g.R.Rules.routes g.F.Found.id g.F.Found.files g.F.Found.entries (history.IsHonest g.F.Found.files) (history.seen_after g.F.Found.files) (history.may_after g.F.Found.files)
    c.in-Ok-go_on.stored c.in-Ok-go_on.state g.met.F.Found.folder c.in-Ok-Some.id
    (λ did. only_there _ _ had c.in-Ok-Some.field-0 c.in-Ok-Some.id c.in-Ok-Some.field-0-is (c.in-Ok-Some.ensures.id (c.in-Ok-go_on.ensures.back did)))
    (λ did. some_there _ _ had c.in-Ok-Some.field-0 c.in-Ok-Some.id c.in-Ok-Some.field-0-is (c.in-Ok-Some.ensures.some (c.in-Ok-go_on.ensures.back did)))
    (λ did. state_there _ _ has c.in-Ok-Some.id c.in-Ok-go_on.state (c.in-Ok-go_on.ensures.state did))

pub returns-in-Err-clause-sound : goal.returns-in-Err-clause-sound
returns-in-Err-clause-sound g c = λ did is.
    let had = ap (history.seen_after g.F.Found.files) c.new-disk.ensures in
    log_sound g.R.Rules.routes g.F.Found.id g.F.Found.files g.F.Found.entries c.in-Err.fault is
    (λ segment at e. no_log_there _ _ had g.F.Found.id (c.in-Err.ensures.damaged did segment at (ap (λ f. Err f) e) g.F.Found.id))
    (λ e. absurd (c.in-Err.ensures.missing (ap (λ f. Err f) e)))

pub returns-in-Err-begin-clause-sound : goal.returns-in-Err-begin-clause-sound
returns-in-Err-begin-clause-sound g c = λ did is.
    let had = ap (history.seen_after g.F.Found.files) c.new-disk.ensures in
    absurd (no_log_new g.R.Rules.routes g.F.Found.id g.F.Found.files g.F.Found.entries is
    (none_there _ _ had c.in-Ok-None.field-0 c.in-Ok-None.field-0-is (c.in-Ok-None.ensures.none (c.in-Err-begin.ensures.back_err did))))

pub returns-in-Err-go_on-clause-sound : goal.returns-in-Err-go_on-clause-sound
returns-in-Err-go_on-clause-sound g c = λ did is.
    let had = ap (history.seen_after g.F.Found.files) c.new-disk.ensures in
    let only = only_there _ _ had c.in-Ok-Some.field-0 c.in-Ok-Some.id c.in-Ok-Some.field-0-is (c.in-Ok-Some.ensures.id (c.in-Err-go_on.ensures.back_err did)) in
    c.in-Err-go_on.ensures.sound did g.F.Found.entries
    (log_there _ _ (c.find_id.ensures.seen ∙ had) g.R.Rules.routes c.in-Ok-Some.id g.F.Found.entries
    (sound_of g.R.Rules.routes g.F.Found.id g.F.Found.files g.F.Found.entries c.in-Ok-Some.id is only))
