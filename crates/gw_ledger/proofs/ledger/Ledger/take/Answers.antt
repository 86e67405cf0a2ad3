use Rattle.std.proofs.Common.{◌≡◌, ◌≤◌, ◌∙◌, ℕ, false, Some, refl, ap, arith}
use Rattle.std.specs.Prelude.{is_some, min}
use Rattle.gw_journal.specs.Logs.{JobState, log_in}
use Rattle.gw_ledger.specs.Ledgers.{Spares, Tells, needed_from}
use Rattle.gw_ledger.proofs.Desks.{kept, kept_at, not_idle, right_spares, right_tells, turned, turned_at}
use Rattle.gw_ledger.proofs.ledger.Ledger.take.Goals.{in-Ok, in-Err}
use Rattle.gw_ledger.proofs.ledger.Ledger.take.Goals as goal

pub turning-requires-clause-told : goal.turning-requires-clause-told
turning-requires-clause-told g c =
    let well : is_some c.self.inside.desk.fault ≡ false = not_idle c.self.inside.desk (Some c.in_ok-job.job) c.in_ok-job.ensures.none refl in
    c.self.invariant.1 (log_in g.J.Naming.before c.in_ok-job.job.history).records c.spell.new.buffer.items
    (right_tells g.R.Rules.routes g.J.Naming.before c.self.inside.desk c.self.inside.state c.in_ok-job.job.history c.spell.new.buffer.items c.self.invariant.0 well
    c.in_ok-job.ensures.seen c.in-Ok.ensures.ok c.in-Ok.ensures.fits)

pub turning-requires-clause-spared : goal.turning-requires-clause-spared
turning-requires-clause-spared g c =
    let well : is_some c.self.inside.desk.fault ≡ false = not_idle c.self.inside.desk (Some c.in_ok-job.job) c.in_ok-job.ensures.none refl in
    let least : c.min.result ≤ needed_from c.self.inside.state = omega (arith, c.min.ensures, c.needed_from.ensures) in
    c.self.invariant.4 (log_in g.J.Naming.before c.in_ok-job.job.history).records c.min.result
    (right_spares g.R.Rules.routes g.J.Naming.before c.self.inside.desk c.self.inside.state c.in_ok-job.job.history c.min.result c.self.invariant.0 well
    c.in_ok-job.ensures.seen least)

pub returns-clause-told : goal.returns-clause-told
returns-clause-told g c =
    let well : is_some c.self.inside.desk.fault ≡ false = not_idle c.self.inside.desk (Some c.in_ok-job.job) c.in_ok-job.ensures.none refl in
    rw (← c.self.view_is) (elim c.match-spell.branch [
      | in-Ok w ↦ turned (Tells (log_in g.J.Naming.before c.self.inside.desk.history).records) c.match-spell.result w.turning.result c.spell.new.buffer.items w.result-is
          (ap (λ (j : JobState g.row.S.Denot). j.next) w.turning.ensures)
          (right_tells g.R.Rules.routes g.J.Naming.before c.self.inside.desk c.self.inside.state c.self.inside.desk.history c.spell.new.buffer.items c.self.invariant.0 well
          refl w.in-Ok.ensures.ok w.in-Ok.ensures.fits)
      | in-Err w ↦ kept (Tells (log_in g.J.Naming.before c.self.inside.desk.history).records) c.match-spell.result c.in_ok-job.job w.result-is c.in_ok-job.ensures.next
    ])

pub returns-clause-kept : goal.returns-clause-kept
returns-clause-kept g c =
    let at : ℕ = min c.self.inside.keep (needed_from c.self.inside.state) in
    rw (← c.self.view_is) (elim c.match-spell.branch [
      | in-Ok w ↦ turned_at (λ n. n ≡ at) c.match-spell.result w.turning.result c.in_ok-job.job c.spell.new.buffer.items w.min.result w.result-is w.turning.ensures
          (w.min.ensures ∙ ap (min c.self.inside.keep) w.needed_from.ensures)
      | in-Err w ↦ kept_at (λ n. n ≡ at) c.match-spell.result c.in_ok-job.job w.result-is c.in_ok-job.ensures.next
    ])

pub returns-clause-spared : goal.returns-clause-spared
returns-clause-spared g c =
    let well : is_some c.self.inside.desk.fault ≡ false = not_idle c.self.inside.desk (Some c.in_ok-job.job) c.in_ok-job.ensures.none refl in
    rw (← c.self.view_is) (elim c.match-spell.branch [
      | in-Ok w ↦
          let least : w.min.result ≤ needed_from c.self.inside.state = omega (arith, w.min.ensures, w.needed_from.ensures) in
          turned_at (Spares (log_in g.J.Naming.before c.self.inside.desk.history).records) c.match-spell.result w.turning.result c.in_ok-job.job c.spell.new.buffer.items
          w.min.result w.result-is w.turning.ensures
          (right_spares g.R.Rules.routes g.J.Naming.before c.self.inside.desk c.self.inside.state c.self.inside.desk.history w.min.result c.self.invariant.0 well refl least)
      | in-Err w ↦ kept_at (Spares (log_in g.J.Naming.before c.self.inside.desk.history).records) c.match-spell.result c.in_ok-job.job w.result-is c.in_ok-job.ensures.next
    ])
