use Rattle.std.proofs.Common.{List, sym, subst, ap, ◌∙◌}
use Rattle.gw_er7.specs.View.{Held, lying, IsLying}
use Rattle.gw_er7.proofs.reader.message_of.Goals as goal

pub of-requires : goal.of-requires
of-requires c = subst (λ (hs : List Held). IsLying c.args.starts.items hs) (sym c.among.ensures) c.requires.lies

pub returns : goal.returns
returns c = c.of.ensures ∙ ap (lying c.args.starts.items) c.among.ensures
