-- A walk over the texts of a segment, in order.
use Rattle.std.specs.Prelude.{◌≡◌, ℕ, ◌+◌, ◌^◌, ◌<◌, ◌≤◌, List, [], ◌∷◌, length, Option, None, Some, MatchOption, slice_get}
use Rattle.std.specs.FinMap as texts
use Rattle.std.specs.Ordering.{nat_cmp}
use Rattle.std.specs.declared.cmp.Ordering.TheVariants.{Less}
use Rattle.std.specs.Cmp.Lexicographic.{slice_cmp}
use Rattle.gw_er7.specs.Entries.{Entry}
use Rattle.gw_er7.specs.declared.view.Value.{Value}
use Rattle.gw_er7.specs.Message.{Texts, numbers}
use Rattle.gw_er7.specs.Presence.{RepAt, IsLast}
use Rattle.gw_profile.specs.Shapes.{SubValue}
use Rattle.gw_validate.specs.Breaches.{Counted}
use Rattle.gw_validate.specs.own.Least.{Rises}

-- of entries in order, the first n stand below the key, and perhaps others
pub record IsBefore (key : List ℕ) (es : List Entry) (n : ℕ) : Type 0 where
  pub bound : n ≤ length es
  pub before : (i : ℕ) (e : Entry) → i < n → slice_get es i ≡ Some e → slice_cmp nat_cmp e.0 key ≡ Less

-- the first n texts of a segment stand below this field
abbrev pub IsBeforeField : Texts → ℕ → ℕ → Type 0
IsBeforeField m f n = IsBefore (f ∷ 0 ∷ 0 ∷ 0 ∷ []) (texts.entries m) n

-- they stand below this repetition of the field
abbrev pub IsBeforeRep : Texts → ℕ → ℕ → ℕ → Type 0
IsBeforeRep m f r n = IsBefore (f ∷ r ∷ 0 ∷ 0 ∷ []) (texts.entries m) n

-- they stand below this component of the repetition
abbrev pub IsBeforeComp : Texts → ℕ → ℕ → ℕ → ℕ → Type 0
IsBeforeComp m f r c n = IsBefore (f ∷ r ∷ c ∷ 0 ∷ []) (texts.entries m) n

-- they stand below the repetition that was found, or where none was, below the next field
abbrev pub IsBeforeFound : Texts → ℕ → Option ℕ → ℕ → Type 0
IsBeforeFound m f found n = MatchOption found (IsBeforeField m (f + 1) n) (λ rep. IsBeforeRep m f rep n)

-- this entry has the number n
pub record IsHere (es : List Entry) (n : ℕ) (entry : Entry) : Type 0 where
  pub within : n < length es
  pub is : slice_get es n ≡ Some entry
  pub room : n + 1 < 2 ^ 64

-- the text of the number n with its place, or none where there are no more
abbrev pub IsValueAt : List Entry → ℕ → Option Value → Type 0
IsValueAt es n None = length es ≤ n
IsValueAt es n (Some v) = IsHere es n (numbers v.place, v.text.now)

-- these leaves are this one alone, and it has this number
pub record IsOnly (subs : List SubValue) (leaf : SubValue) (number : ℕ) : Type 0 where
  pub alone : subs ≡ leaf ∷ []
  pub is : leaf.number ≡ number

-- the first repetition behind this one that is present
pub record IsNextRep (m : Texts) (f after rep : ℕ) : Type 0 where
  pub there : RepAt m f rep
  pub behind : after < rep
  pub first : (r : ℕ) → after < r → RepAt m f r → rep ≤ r
  pub some : (r : ℕ) → RepAt m f r → 0 < r

-- no repetition behind this one is present
pub record IsNoRep (m : Texts) (f after : ℕ) : Type 0 where
  pub none : (r : ℕ) → RepAt m f r → r ≤ after
  pub some : (r : ℕ) → RepAt m f r → 0 < r

-- the first repetition behind this one that is present, or that none is
abbrev pub IsNextFound : Texts → ℕ → ℕ → Option ℕ → Type 0
IsNextFound m f after found = MatchOption found (IsNoRep m f after) (IsNextRep m f after)

-- so many of all numbers are present
pub record IsCount (P : ℕ → Type 0) (count : ℕ) : Type 0 where
  pub last : ℕ
  pub is : IsLast P last
  pub counted : Counted P last count

-- fewer are present than these
pub record IsShort (P : ℕ → Type 0) (least : ℕ) : Type 0 where
  pub count : ℕ
  pub is : IsCount P count
  pub less : count < least

-- where a walk over shapes stands: their numbers rise from above low, and the texts before the number n stand below the key of low
pub record IsWalking {A : Type 0} (number : A → ℕ) (key : ℕ → List ℕ) (es : List Entry) (shapes : List A) (n : ℕ) : Type 0 where
  pub low : ℕ
  pub rises : Rises number low shapes
  pub before : IsBefore (key low) es n
