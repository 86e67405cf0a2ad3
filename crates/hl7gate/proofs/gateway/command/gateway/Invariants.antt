use Rattle.hl7gate.proofs.gateway.command.gateway.Given as goal

-- the book that was just opened, and the records of the log that was found
abbrev pub ghosts-run : goal.ghosts-run
ghosts-run g a = record { book = a.opened.seen.book; before = a.begun.before }
