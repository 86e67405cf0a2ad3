use Rattle.gw_journal.proofs.Running.{runs_kept, runs_all, runs_at}
use Rattle.gw_journal.proofs.laws.no_run_loses_a_record.Goals as goal

pub returns-clause-kept : goal.returns-clause-kept
returns-clause-kept g c = λ id found left before after runs. runs_kept g.K.Summary.tells g.K.Summary.spares id found before left after runs

pub returns-clause-all : goal.returns-clause-all
returns-clause-all g c = λ id found left before after runs. runs_all g.K.Summary.tells g.K.Summary.spares id found before left after runs

pub returns-clause-at : goal.returns-clause-at
returns-clause-at g c = λ id found left before after place bytes runs here.
    runs_at g.K.Summary.tells g.K.Summary.spares id found before left after place bytes runs here
