-- Which texts can stand at a place of the source.
use Rattle.std.proofs.Common.{◌≡◌, ℕ, Bool, true, false, List, [], ◌∷◌, Option, Some, None, refl, sym, ap, ◌∙◌, arith}
use Rattle.std.specs.Prelude.{◌&&◌, ◌||◌, not, if◌then◌else◌, filter, bytes_eq, unwrap_or}
use Rattle.std.proofs.lemmas.Slice.Eq.{bytes_eq-Decides}
use Rattle.gw_profile.specs.declared.shape.Count.{Count}
use Rattle.gw_profile.specs.Fault.{is_among}
use Rattle.gw_profile.specs.Lengths.{measure, len_count}
use Rattle.gw_profile.specs.Shapes.{SubValue, ProfileValue}
use Rattle.gw_profile.specs.Value.{table_of}
use Rattle.gw_leaves.specs.Leaves.{is_short, sub_values}
use Rattle.gw_leaves.specs.Reached.{may_be}
use Rattle.gw_leaves.specs.own.Comparisons.{fits}
use Rattle.gw_leaves.specs.own.Held.{is_listed}

-- a text is among those that pass a test where it is among all and passes it
module _ (test : List ℕ → Bool) (text : List ℕ) where
  of_one : (t : List ℕ) (texts : List (List ℕ)) (b same : Bool) → test t ≡ b → bytes_eq text t ≡ same → is_among text (filter test texts) ≡ (test text && is_among text texts) →
      (if b then (same || is_among text (filter test texts)) else is_among text (filter test texts)) ≡ (test text && (same || is_among text texts))
  of_one t texts true true e is h = let here : test text ≡ true = ap test ((bytes_eq-Decides text t).0 is) ∙ e in grind arith
  of_one t texts false true e is h = let here : test text ≡ false = ap test ((bytes_eq-Decides text t).0 is) ∙ e in grind arith
  of_one t texts true false e is h = h
  of_one t texts false false e is h = h

  among_filtered : (texts : List (List ℕ)) → is_among text (filter test texts) ≡ (test text && is_among text texts)
  among_filtered [] = grind arith
  among_filtered (t ∷ texts) =
      elim (test t) as (λ b. is_among text (if b then t ∷ filter test texts else filter test texts) ≡ (if b then (bytes_eq text t || is_among text (filter test texts)) else is_among text (filter test texts))) [ true ↦ refl | false ↦ refl ]
      ∙ of_one t texts (test t) (bytes_eq text t) refl refl (among_filtered texts)

short_is : (count : Count) (len : Option ℕ) (text : List ℕ) → fits len (measure count text) ≡ is_short count len text
short_is count None text = refl
short_is count (Some most) text = refl

-- as the program asks it
pub may_be_there : (p : ProfileValue) (s : SubValue) (text : List ℕ) → (fits s.len (measure (len_count p) text) && is_listed p.tables s.table text) ≡ may_be (sub_values p (Some s)) text
may_be_there p s text =
    ap (λ b. b && is_listed p.tables s.table text) (short_is (len_count p) s.len text)
    ∙ elim s.table as (λ t. (is_short (len_count p) s.len text && is_listed p.tables t text) ≡ may_be (sub_values p (Some (record s { table = t }))) text)
    [ None ↦ grind arith | Some name ↦ sym (among_filtered (is_short (len_count p) s.len) text (unwrap_or (table_of name p.tables) [])) ]

-- what isn't absent is there
pub there_and : (absent rest : Bool) → absent ≡ false → rest ≡ (not absent && rest)
there_and absent rest there = ap (λ b. not b && rest) (sym there)
