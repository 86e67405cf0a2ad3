use Rattle.gw_tests.proofs.locked.one_pass_replies_as_its_gate.Given as goal

abbrev pub ghosts-through_one : goal.ghosts-through_one
ghosts-through_one g a = record { name = a.blank.name; parts = a.blank.parts }
