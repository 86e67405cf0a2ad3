use Rattle.std.proofs.Common.{◌≡◌, None, arith}
use Rattle.gw_mllp.proofs.Occurs.{no_end_from_find, find_from_no_end}
use Rattle.gw_mllp.proofs.write.is_content.Goals as goal

pub returns : goal.returns
returns c =
    let bytes = c.args.bytes.now in
    (λ is_none. no_end_from_find bytes c.find_end.result c.find_end.ensures (grind arith), λ no_end. let none : c.find_end.result ≡ None = find_from_no_end bytes c.find_end.result c.find_end.ensures no_end in grind arith)
