use Rattle.std.proofs.Common.{◌≡◌, ◌++◌, map, take}
use Rattle.gw_plan.specs.Seen.{now_all}
use Rattle.gw_plan.proofs.accepted.accept.Given as goal

abbrev pub invariant-loop-word : goal.invariant-loop-word
invariant-loop-word l = map (λ w. w.items) l.accepted.items ≡ map (λ w. w.items) l.fn.accepted.items ++ now_all (take l.word-index l.words)
