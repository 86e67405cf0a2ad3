use Rattle.std.proofs.Common.{map}
use Rattle.gw_lines.specs.Seen.{word}
use Rattle.gw_profile.proofs.reader.ReaderState.take.Goals as goal

pub take_in-requires-clause-taken : goal.take_in-requires-clause-taken
take_in-requires-clause-taken c = record { at = c.args.at; words = map word c.args.words.now; taken = c.in_ok-tested.ensures.line }
