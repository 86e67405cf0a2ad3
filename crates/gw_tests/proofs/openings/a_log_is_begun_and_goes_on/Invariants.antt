use Rattle.gw_tests.proofs.openings.a_log_is_begun_and_goes_on.Given as goal

-- the book that was just opened, and the records of the log
abbrev pub ghosts-went_on : goal.ghosts-went_on
ghosts-went_on g a = record { book = a.opened.seen.book; before = a.begun.before }
