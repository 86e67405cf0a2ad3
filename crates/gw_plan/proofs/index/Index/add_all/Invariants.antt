use Rattle.gw_plan.specs.Seen.{now_all}
use Rattle.gw_plan.proofs.Adding.{Adding}
use Rattle.gw_plan.proofs.index.Index.add_all.Given as goal

abbrev pub invariant-loop-word : goal.invariant-loop-word
invariant-loop-word l = Adding l.fn.self l.self l.pair l.field l.number (now_all l.senders.words.items) l.word-index
