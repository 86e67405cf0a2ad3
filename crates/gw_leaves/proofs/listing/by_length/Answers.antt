use Rattle.std.proofs.Common.{rules}
use Rattle.std.proofs.lemmas.List.Sorted.{IsNonDecreasingBy-from_sort_by_key}
use Rattle.gw_leaves.specs.own.Comparisons.{Sized}
use Rattle.gw_leaves.proofs.Ordered.{listing_of}
use Rattle.gw_leaves.proofs.listing.by_length.Goals as goal

pub returns : goal.returns
returns c =
    listing_of c.args.count c.args.texts.now _ _ c.in_ok-made.ensures c.sort_unstable_by_key.ensures.permutation
    (IsNonDecreasingBy-from_sort_by_key (λ (p : Sized). p.0) _ c.sort_unstable_by_key.ensures.sorted (λ a r q k. search rules))
