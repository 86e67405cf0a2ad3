-- A change to the last segment, which is still being made.
use Rattle.std.proofs.Common.{ℕ, List, [], ◌∷◌, Less, Equal, Greater, sym, subst}
use Rattle.std.specs.List.{AllByRecursion}
use Rattle.std.specs.Cmp.Lexicographic.{nat_list_cmp_total}
use Rattle.std.specs.FinMap as texts
use Rattle.std.specs.FinMap.{put, entries-insert}
use Rattle.std.specs.FinMap.Entries.{by_order}
use Rattle.gw_er7.specs.Message.{SegmentValue, first_field, IsEntry, IsSegment, IsOther}
use Rattle.gw_er7.specs.Building.{IsBegun, MayPut, with_last}
use Rattle.gw_er7.specs.Entries.{Entry}
use Rattle.gw_er7.proofs.Sorted.{order}

all_put : (first : ℕ) (k t : List ℕ) (es : List Entry) → IsEntry first (k, t) → AllByRecursion (IsEntry first) es → AllByRecursion (IsEntry first) (put order k t es)
all_put first k t [] is h = (is, tt)
all_put first k t (e ∷ es) is h =
    elim (order k e.0) as (λ r. AllByRecursion (IsEntry first) (by_order r ((k, t) ∷ e ∷ es) ((e.0, t) ∷ es) (e ∷ put order k t es))) [
      | Less ↦ (is, h)
      | Equal ↦ (record { key = h.0.key; text = is.text; some = is.some }, h.1)
      | Greater ↦ (h.0, all_put first k t es is h.1)
    ]

pub kept_put : (s : SegmentValue) (k t : List ℕ) → IsSegment s → IsEntry (first_field s.name) (k, t) → IsSegment (record s { at = texts.insert s.at k t })
kept_put s k t is entry = record {
  name = is.name;
  each = subst (λ (es : List Entry). AllByRecursion (IsEntry (first_field s.name)) es) (sym (entries-insert nat_list_cmp_total s.at k t)) (all_put (first_field s.name) k t (texts.entries s.at) entry is.each);
}

-- ---- a text of the last segment

abbrev change : List ℕ → List ℕ → SegmentValue → SegmentValue
change key text s = record s { at = texts.insert s.at key text }

others_put : (key text : List ℕ) (ss : List SegmentValue) → MayPut key text ss → AllByRecursion IsOther ss → AllByRecursion IsOther (with_last (change key text) ss)
others_put key text [] may h = tt
others_put key text (s ∷ []) may h = (record { segment = kept_put s key text h.0.segment may.1; name = h.0.name }, tt)
others_put key text (s ∷ t ∷ ss) may h = (h.0, others_put key text (t ∷ ss) may h.1)

pub begun_put : (key text : List ℕ) (ss : List SegmentValue) → MayPut key text ss → IsBegun ss → IsBegun (with_last (change key text) ss)
begun_put key text [] may h = absurd may
begun_put key text (s ∷ []) may h = (record { segment = kept_put s key text h.0.segment may.1; name = h.0.name }, tt)
begun_put key text (s ∷ t ∷ ss) may h = (h.0, others_put key text (t ∷ ss) may h.1)
