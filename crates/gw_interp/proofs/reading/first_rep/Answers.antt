use Rattle.gw_interp.proofs.ReadTexts.{none_present, first_present}
use Rattle.gw_interp.proofs.reading.first_rep.Goals as goal

pub returns-then-last-eq0 : goal.returns-then-last-eq0
returns-then-last-eq0 c = none_present c.args.segment.now.at c.args.field c.reps-last.result c.reps-last.ensures c.if-last-eq0.true

pub returns : goal.returns
returns c = first_present c.args.segment.now.at c.args.field c.reps-last.result c.next_rep.result c.reps-last.ensures c.next_rep.ensures.there c.next_rep.ensures.first
