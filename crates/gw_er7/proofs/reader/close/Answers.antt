use Rattle.std.proofs.Common.{◌++◌, ◌∙◌, ap, List, ℕ}
use Rattle.gw_er7.proofs.Wholes.{inside_bytes, lies_bytes, reads_bytes}
use Rattle.gw_er7.proofs.reader.close.Goals as goal

pub message_of-requires-clause-inside : goal.message_of-requires-clause-inside
message_of-requires-clause-inside c = inside_bytes c.args.content.items _ c.args.parts c.requires (c.in_ok-bytes.ensures.joined ∙ ap (λ (x : List ℕ). c.args.content.items ++ x) c.deref.ensures.value)

pub message_of-requires-clause-lies : goal.message_of-requires-clause-lies
message_of-requires-clause-lies c = lies_bytes c.args.content.items _ c.args.parts c.requires (c.in_ok-bytes.ensures.joined ∙ ap (λ (x : List ℕ). c.args.content.items ++ x) c.deref.ensures.value)

pub returns-clause-ok : goal.returns-clause-ok
returns-clause-ok c = reads_bytes c.args.content.items _ c.args.parts _ c.requires (c.in_ok-bytes.ensures.joined ∙ ap (λ (x : List ℕ). c.args.content.items ++ x) c.deref.ensures.value) c.message_of.ensures
