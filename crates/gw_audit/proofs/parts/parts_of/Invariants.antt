use Rattle.std.proofs.Common.{◌≡◌, take}
use Rattle.gw_audit.proofs.parts.parts_of.Given as goal

abbrev pub invariant-loop-chapter : goal.invariant-loop-chapter
invariant-loop-chapter l = l.parts.items ≡ take l.chapter-index l.chapters
