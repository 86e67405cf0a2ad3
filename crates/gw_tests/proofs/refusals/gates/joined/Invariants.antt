use Rattle.gw_tests.proofs.refusals.gates.joined.Given as goal

abbrev pub ghosts-through_one : goal.ghosts-through_one
ghosts-through_one g a = record { name = a.blank.name; parts = a.blank.parts }
