use Rattle.std.proofs.Common.{ℕ, ◌∙◌, ap, refl}
use Rattle.gw_log.specs.Disk.{Files}
use Rattle.gw_log.specs.State.{records_of}
use Rattle.gw_log.proofs.Placing.{created}
use Rattle.gw_log.proofs.log.Log.create.Goals as goal

pub returns-clause-ok : goal.returns-clause-ok
returns-clause-ok g c = λ honest.
    let nothing = c.in-Ok.ensures.none (c.in-Ok-create.ensures.back honest) in
    let base = λ (m : ℕ). ap (λ (f : Files). f m) c.head_alone.ensures.seen ∙ nothing m in
    created _ _ _ (g.D.Disk.seen c.head_alone.new.disk) c.args.id c.args.checkpoint.now _ (ap records_of c.deref.ensures.value ∙ c.in-Ok.ensures.head)
    c.in-Ok.ensures.wide (c.in-Ok-create.ensures.stands (base 1)) c.in-Ok-create.ensures.number base c.in-Ok-create.ensures.others refl refl refl refl refl
