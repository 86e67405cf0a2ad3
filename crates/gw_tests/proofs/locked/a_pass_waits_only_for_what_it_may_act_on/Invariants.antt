use Rattle.gw_tests.proofs.locked.a_pass_waits_only_for_what_it_may_act_on.Given as goal

abbrev pub ghosts-waits_so : goal.ghosts-waits_so
ghosts-waits_so g a = record { name = a.blank.name; parts = a.blank.parts }
