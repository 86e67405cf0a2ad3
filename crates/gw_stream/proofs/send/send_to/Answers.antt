use Rattle.std.proofs.lemmas.Result.{on_err_weaker}
use Rattle.gw_stream.proofs.Posting.{sends_some_to}
use Rattle.gw_stream.proofs.send.send_to.Goals as goal

pub returns-clause-part : goal.returns-clause-part
returns-clause-part g c =
    let sent = rw c.index_mut.ensures.value at c.send_all.ensures.part in
    on_err_weaker _ (sends_some_to _ _ _ _ _ _ c.requires.within) sent
