use Rattle.gw_stream.proofs.Unique.{one_answer_of}
use Rattle.gw_stream.proofs.laws.one_answer.Goals as goal

pub returns : goal.returns
returns c p stamp content number formed a b x y =
    one_answer_of p stamp content number a b
    (record {
      message = c.reads_once.ensures.message content;
      apart = c.reads_once.ensures.apart content;
      least = λ m s t. c.one_least.ensures p m s t formed;
      nothing = λ m. c.conforming_breaks_nothing.ensures p m formed;
    }) x y
