use Rattle.std.proofs.Common.{[]}
use Rattle.gw_tests.proofs.ledgers.what_is_left_is_kept.Given as goal

-- the book that was just opened, of no record
abbrev pub ghosts-left_and_kept : goal.ghosts-left_and_kept
ghosts-left_and_kept g a = record { book = a.opened.seen.book; before = [] }
