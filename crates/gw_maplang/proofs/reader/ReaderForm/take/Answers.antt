use Rattle.std.proofs.Common.{map}
use Rattle.gw_lines.specs.Seen.{word}
use Rattle.gw_maplang.proofs.reader.ReaderForm.take.Goals as goal

pub add-requires : goal.add-requires
add-requires c = record { at = c.args.at; words = map word c.args.words.now; taken = c.in_ok-whole.ensures }
