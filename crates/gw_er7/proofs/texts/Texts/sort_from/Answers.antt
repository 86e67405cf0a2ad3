use Rattle.std.proofs.Common.{List, subst}
use Rattle.std.proofs.lemmas.List.Sorted.{All-permutation}
use Rattle.gw_er7.specs.View.{Held, IsInside, held_at, held}
use Rattle.gw_er7.specs.own.Spans.{AreSortedFrom}
use Rattle.gw_er7.proofs.Lying.{all_moved, sorted_from_map}
use Rattle.gw_er7.proofs.texts.Texts.sort_from.Goals as goal

pub invariant_of-self : goal.invariant_of-self
invariant_of-self c = All-permutation (IsInside c.self.inside.bytes.items) _ _ (all_moved (λ l. l.place) c.args.first _ _ c.sort_from.ensures) c.self.invariant

pub returns : goal.returns
returns c =
    let bytes = c.self.inside.bytes.items in
    subst (λ (hs : List Held). AreSortedFrom (λ h. h.place) c.args.first hs (held bytes c.sort_from.new.self)) c.self.view_is (sorted_from_map (held_at bytes) (λ h. h.place) c.args.first c.self.inside.spans c.sort_from.new.self c.sort_from.ensures)
