use Rattle.std.proofs.Common.{◌∙◌, sym}
use Rattle.gw_plan.proofs.Keys.{placed}
use Rattle.gw_plan.proofs.Finding.{no_word, found_slot}
use Rattle.gw_plan.proofs.index.Index.at.Goals as goal

pub returns-in_err-word : goal.returns-in_err-word
returns-in_err-word c slots code event z pair =
    c.from_residual.ensures ∙ no_word _ _ _ code event c.args.field c.args.word.now (placed c.args.word.now _ _ (sym c.get_index_of.ensures.index ∙ c.in_err-word.was)) _ slots z

pub returns : goal.returns
returns c slots code event z pair =
    c.copied.ensures ∙ c.get.ensures.value
    ∙ found_slot _ _ _ code event _ _ pair.code_is pair.event_is c.args.field c.args.word.now c.in_ok-word.word (placed c.args.word.now _ _ (sym c.get_index_of.ensures.index ∙ c.in_ok-word.was)) _ slots z
