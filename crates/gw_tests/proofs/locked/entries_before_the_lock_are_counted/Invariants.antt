use Rattle.gw_tests.proofs.locked.entries_before_the_lock_are_counted.Given as goal

abbrev pub ghosts-since_of : goal.ghosts-since_of
ghosts-since_of g a = record { name = a.blank.name; parts = a.blank.parts }
