use Rattle.std.proofs.Common.{◌≡◌, [], List, ℕ, refl, sym, ◌∙◌, subst, arith, rules}
use Rattle.gw_er7.specs.own.Separators.{Lies}
use Rattle.gw_er7.specs.own.Gathered.{LinesLie}
use Rattle.gw_er7.proofs.Messages.{header_long}
use Rattle.gw_er7.proofs.Wholes.{stands, later_of, whole_of}
use Rattle.gw_er7.proofs.reader.take_message.Goals as goal

pub take_segment-requires-clause-named : goal.take_segment-requires-clause-named
take_segment-requires-clause-named c = header_long _ c.in_ok-checked.ensures.headed

pub take_segment-requires-clause-lies : goal.take_segment-requires-clause-lies
take_segment-requires-clause-lies c =
    subst (λ (bytes : List ℕ). Lies bytes c.in_ok-checked.checked.header.at c.in_ok-checked.checked.header.bytes.now) (sym c.in_ok-taken.ensures.content) (stands c.args.content.now c.in_ok-checked.checked c.in_ok-checked.ensures).0

pub take_others-requires-clause-lie : goal.take_others-requires-clause-lie
take_others-requires-clause-lie c =
    subst (λ (bytes : List ℕ). LinesLie bytes (later_of c.in_ok-checked.checked)) (sym (c.in_ok-take_segment.ensures.content ∙ c.in_ok-taken.ensures.content)) (stands c.args.content.now c.in_ok-checked.checked c.in_ok-checked.ensures).1

pub returns : goal.returns
returns c =
    let none : c.in_ok-starts.starts.items ≡ [] = search rules in
    whole_of c.args.content.now c.in_ok-checked.checked _ c.in_ok-count.count _ _ _ _ _ c.take_others.new.taken (λ i. omega (arith, c.type_inv.content i)) c.in_ok-checked.ensures c.of-classes.ensures none c.in_ok-taken.ensures.content
    c.in_ok-take_segment.ensures c.in_ok-count.ensures.takes c.in_ok-count.ensures.segments (omega arith) refl refl
