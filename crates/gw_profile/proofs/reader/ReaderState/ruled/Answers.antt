use Rattle.std.proofs.Common.{map, ◌∙◌, sym, ap, List}
use Rattle.gw_profile.specs.declared.form.Line as declared
use Rattle.gw_profile.specs.Seen.{line, above, said}
use Rattle.gw_profile.proofs.Ruled.{ruled_whole}
use Rattle.gw_profile.proofs.reader.ReaderState.ruled.Goals as goal

pub returns : goal.returns
returns c =
    ruled_whole (map line c.deref.result.now) (said c.args.self.now) c.args.at c.ruled.result
    (ap (λ (l : List declared.Line). above l) (sym c.deref.ensures.value)) (sym c.is_unclosed.ensures ∙ c.if-is_unclosed.false) c.ruled.ensures
