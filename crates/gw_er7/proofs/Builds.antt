-- What callers of a builder have to show.
use Rattle.std.proofs.Common.{◌≡◌, ◌≢◌, ℕ, ◌<◌, ◌≤◌, List, [], ◌∷◌, ◌++◌, length, None, refl, sym, ap, subst, ◌∙◌, arith}
use Rattle.std.specs.Prelude.{◌==◌, true, false}
use Rattle.std.proofs.lemmas.Bool.{eqb-true, and_parts, true≢false}
use Rattle.std.proofs.lemmas.List.{nil_from_length}
use Rattle.std.specs.List.{AllByRecursion}
use Rattle.std.specs.Ordering.{nat_cmp}
use Rattle.std.specs.Cmp.Lexicographic.{slice_cmp}
use Rattle.std.specs.FinMap as texts
use Rattle.std.specs.FinMap.{len-empty, len-entries}
use Rattle.gw_er7.specs.Text.{IsCanonical, is_canonical}
use Rattle.gw_er7.specs.Names.{IsName, is_name, is_named, is_header, header_name}
use Rattle.gw_er7.specs.Message.{SegmentValue, first_field, IsEntry, IsSegment, IsOther, IsMessage}
use Rattle.gw_er7.specs.Building.{IsBegun, MayPut}
use Rattle.gw_er7.specs.Entries.{Entry}
use Rattle.gw_er7.proofs.Canonicals.{decides}

-- a segment with no text
abbrev pub begun : List ℕ → SegmentValue
begun name = record { name = name; at = texts.empty }

pub begun_segment : (name : List ℕ) → IsName name → IsSegment (begun name)
begun_segment name is = record {
  name = is;
  each = subst (λ (es : List Entry). AllByRecursion (IsEntry (first_field name)) es) (sym (nil_from_length (texts.entries (begun name).at) (sym (len-entries (begun name).at) ∙ len-empty (slice_cmp nat_cmp) (List ℕ)))) tt;
}

-- MSH comes first
pub begun_header : IsBegun (begun header_name ∷ [])
begun_header = (record { segment = begun_segment header_name (record { three = refl; lawful = refl }); name = refl }, tt)

others_begun : (ss : List SegmentValue) (name : List ℕ) → IsName name → name ≢ header_name → AllByRecursion IsOther ss → AllByRecursion IsOther (ss ++ begun name ∷ [])
others_begun [] name is other h = (record { segment = begun_segment name is; name = other }, tt)
others_begun (s ∷ ss) name is other h = (h.0, others_begun ss name is other h.1)

-- and no other segment is named so
pub begun_other : (ss : List SegmentValue) (name : List ℕ) → IsMessage ss → IsName name → name ≢ header_name → IsBegun (ss ++ begun name ∷ [])
begun_other [] name h is other = absurd h
begun_other (s ∷ ss) name h is other = (h.0, others_begun ss name is other h.1)

name_of : (name : List ℕ) → is_name name ≡ true → IsName name
name_of name e = (let both = and_parts (length name == 3) (is_named name) e in record { three = eqb-true (length name) 3 both.0; lawful = both.1 })

-- the same, by the tests of the name
pub begun_named : (ss : List SegmentValue) (name : List ℕ) → IsMessage ss → is_name name ≡ true → is_header name ≡ false → IsBegun (ss ++ begun name ∷ [])
begun_named ss name h is other = begun_other ss name h (name_of name is) (λ e. true≢false (sym (ap is_header e) ∙ other))

-- a canonical text that isn't empty, at four positive numbers
pub entry_at : (first f r c s : ℕ) (text : List ℕ) → first ≤ f → 0 < f → 0 < r → 0 < c → 0 < s → IsCanonical text → 0 < length text → IsEntry first (f ∷ r ∷ c ∷ s ∷ [], text)
entry_at first f r c s text le hf hr hc hs is some = record {
  key = record { four = refl; positive = (hf, (hr, (hc, (hs, tt)))); field = le };
  text = is;
  some = λ e. absurd (let n : length text ≡ 0 = ap length e in omega arith);
}

pub canonical_of : (text : List ℕ) → is_canonical text ≡ true → IsCanonical text
canonical_of text e = (decides text).0 e

-- a text may be put into the last segment where none is
pub may_put : (key text : List ℕ) (ss : List SegmentValue) (s : SegmentValue) → texts.get s.at key ≡ None → IsEntry (first_field s.name) (key, text) → MayPut key text (ss ++ s ∷ [])
may_put key text [] s none is = (none, is)
may_put key text (x ∷ []) s none is = (none, is)
may_put key text (x ∷ y ∷ ss) s none is = may_put key text (y ∷ ss) s none is
