use Rattle.std.proofs.Common.{ℕ, List, ◌∷◌, Option, None, Some, subst}
use denote.Ref.{Bor}
use Rattle.gw_er7.specs.own.Separators.{IsCut, Lies}
use Rattle.gw_er7.proofs.Lies.{lies_first}
use Rattle.gw_er7.proofs.Marks.{cut_plain}
use Rattle.gw_er7.proofs.fields.take_other.Goals as goal

cut_lies : (marks : List ℕ) (content : List ℕ) (at : ℕ) (bytes raw : List ℕ) (behind : Option (ℕ × Bor (List ℕ))) → IsCut marks bytes raw behind → Lies content at bytes → Lies content at raw
cut_lies marks content at bytes raw None is lies = subst (λ (bs : List ℕ). Lies content at bs) is.whole lies
cut_lies marks content at bytes raw (Some b) is lies = lies_first content at bytes raw (b.0 ∷ b.1.now) is.whole lies

pub push_value-requires-clause-lies : goal.push_value-requires-clause-lies
push_value-requires-clause-lies c = cut_lies _ c.args.taken.now.content.now c.args.at c.args.bytes.now _ _ c.cut_at_separator.ensures c.requires.lies

pub push_value-requires-clause-plain : goal.push_value-requires-clause-plain
push_value-requires-clause-plain c =
    cut_plain c.args.classes.now c.args.bytes.now c.args.plain c.requires.plain _ _ c.requires.short c.requires.other c.cut_at_separator.ensures
