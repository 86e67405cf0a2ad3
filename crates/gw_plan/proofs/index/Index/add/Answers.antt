use Rattle.gw_plan.proofs.Finding.{is_there, is_new, put_there}
use Rattle.gw_plan.proofs.index.Index.add.Goals as goal

pub returns-then-contains_key-clause-adds : goal.returns-then-contains_key-clause-adds
returns-then-contains_key-clause-adds c slots code event z pair = record {
  fresh =
      is_there _ _ _ c.in_ok-from_slice.field-0 code event _ _ c.in_ok-word.word pair.code_is pair.event_is c.in_ok-word.ensures.index c.args.field _ slots z c.args.word.now c.in_ok-from_slice.ensures.items
      c.contains_key.result c.contains_key.ensures c.if-contains_key.true;
  more = λ e. absurd (cc);
}

pub returns-clause-adds : goal.returns-clause-adds
returns-clause-adds c slots code event z pair = record {
  fresh =
      is_new _ _ _ c.in_ok-from_slice.field-0 code event _ _ c.in_ok-word.word pair.code_is pair.event_is c.in_ok-word.ensures.index c.args.field _ slots z c.args.word.now c.in_ok-from_slice.ensures.items
      c.contains_key.result c.contains_key.ensures c.if-contains_key.false;
  more = λ e.
      rw c.in_ok-word.ensures.keys
      (put_there _ _ _ c.in_ok-from_slice.field-0 code event _ _ c.in_ok-word.word pair.code_is pair.event_is c.in_ok-word.ensures.index c.args.field _ slots z c.args.word.now c.in_ok-from_slice.ensures.items
      c.contains_key.result c.contains_key.ensures _ c.args.number c.if-contains_key.false c.in_ok-insert.ensures.entries);
}
