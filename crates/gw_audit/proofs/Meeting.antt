-- How notes agree with a journal, one after another.
use Rattle.std.proofs.Common.{◌≡◌, ℕ, ◌+◌, ◌≤◌, ◌&&◌, true, false, List, ◌∷◌, sym, ap, ◌∙◌, arith}
use Rattle.std.specs.Prelude.{nat_le}
use Rattle.std.proofs.Math.Bool.{and-false}
use Rattle.std.proofs.lemmas.Bool.{le-leb}
use Rattle.gw_gate.specs.Journal.{EntrySeen, Journal}
use Rattle.gw_crew.specs.Notes.{NoteSeen, Added}
use Rattle.gw_audit.specs.Settled.{agrees, last_end, next_at, stands}
use Rattle.gw_audit.specs.own.Joins.{meets}

module _ (js : List Journal) (low need at : ℕ) (e : EntrySeen) (notes : List NoteSeen) where
  pub fails : stands js at e ≡ false → meets js low need (Added at e ∷ notes) ≡ false
  fails is =
      ap (λ b. ((nat_le low at && b) && agrees js (at + 1) notes) && nat_le need at) is
      ∙ ap (λ b. (b && agrees js (at + 1) notes) && nat_le need at) (and-false (nat_le low at))

  pub holds : low ≤ at → need ≤ at → stands js at e ≡ true → meets js low need (Added at e ∷ notes) ≡ meets js (at + 1) 0 notes
  holds above enough is =
      ap (λ b. ((b && stands js at e) && agrees js (at + 1) notes) && nat_le need at) (le-leb low at above)
      ∙ ap (λ b. (b && agrees js (at + 1) notes) && nat_le need at) is
      ∙ ap (λ b. agrees js (at + 1) notes && b) (le-leb need at enough ∙ sym (le-leb 0 (next_at (last_end 0 js) notes) (omega arith)))
