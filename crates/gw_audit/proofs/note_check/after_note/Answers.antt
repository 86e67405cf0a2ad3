use Rattle.std.proofs.Common.{rules, ◌∙◌, ◌∷◌, ap}
use Rattle.gw_crew.specs.Seen.{note_seen}
use Rattle.gw_audit.specs.Settled.{fits_at}
use Rattle.gw_audit.specs.own.Joins.{meets}
use Rattle.gw_audit.proofs.Turning.{between}
use Rattle.gw_audit.proofs.note_check.after_note.Goals as goal

pub returns-in-Added : goal.returns-in-Added
returns-in-Added c notes go =
    ap (λ n. meets c.args.parts.now c.args.low c.args.need (note_seen n ∷ notes)) c.in-Added.is ∙ c.after_receipt.ensures notes go

pub returns-in_default : goal.returns-in_default
returns-in_default c notes go =
    c.after_other.ensures c.args.parts.now (note_seen c.args.note.now) notes
    (λ high. between (λ k. fits_at c.args.parts.now k (note_seen c.args.note.now)) c.args.low high c.first_fit.result (c.first_fit.ensures go)) (search rules)
