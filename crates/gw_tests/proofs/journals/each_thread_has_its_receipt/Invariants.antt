use Rattle.std.proofs.Common.{[]}
use Rattle.gw_tests.proofs.journals.each_thread_has_its_receipt.Given as goal

-- the book that was just opened, of no record
abbrev pub ghosts-stored_by_two : goal.ghosts-stored_by_two
ghosts-stored_by_two g a = record { book = a.opened.seen.book; before = [] }
