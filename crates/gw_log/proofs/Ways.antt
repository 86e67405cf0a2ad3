-- A file is read in one way.
use Rattle.std.proofs.Common.{◌≡◌, ◌≢◌, inl, inr, ℕ, ◌+◌, ◌-◌, ◌<◌, ◌≤◌, ◌^◌, List, [], ◌∷◌, ◌++◌, length, take, drop}
use Rattle.std.proofs.Common.{refl, sym, ◌∙◌, ap, subst, append_assoc, arith}
use Rattle.std.specs.Int.{w32, w64, to_be_bytes, from_be_bytes}
use Rattle.std.proofs.lemmas.List.{take_at, drop_at}
use Rattle.std.proofs.lemmas.Nat.{from_be_bytes-to_be_bytes_4}
use Rattle.sha2.specs.Sha256.{sha256}
use Rattle.sha2.proofs.Facts256.{length-sha256}
use Rattle.gw_log.specs.File.{nonzero, item, sized, counted, body, blocks, batch, AreShort, IsWhole, IsUnsynced, IsShut, IsEnd, Has, HasAs, IsDamagedAt, HasRecordAt}
use Rattle.gw_log.specs.own.Steps.{Stops}
use Rattle.gw_log.proofs.Batches.{batch_is, batch_whole, opened_is}
use Rattle.gw_log.proofs.Ends.{whole_some}

-- two lists whose fronts are xs long
pub fronts : (n : ℕ) (a b x y : List ℕ) → length a ≡ n → length b ≡ n → a ++ x ≡ b ++ y → (a ≡ b) × (x ≡ y)
fronts n a b x y size other same = (
  sym (take_at a x n size) ∙ ap (λ (l : List ℕ). take n l) same ∙ take_at b y n other,
  sym (drop_at a x n size) ∙ ap (λ (l : List ℕ). drop n l) same ∙ drop_at b y n other,
)

abbrev four : List ℕ → List ℕ
four i = to_be_bytes w32 (length i)

abbrev eight : List ℕ → List ℕ
eight i = to_be_bytes w64 (2 ^ 64 - 1 - nonzero (sized i))

-- an item, and what stands behind it
pub one_item : (i j x y : List ℕ) → length i < 2 ^ 32 → length j < 2 ^ 32 → counted i ++ x ≡ counted j ++ y → (i ≡ j) × (x ≡ y)
one_item i j x y short fits same =
    let counts = fronts 8 (eight i) (eight j) (sized i ++ x) (sized j ++ y) refl refl
    (sym (append_assoc (eight i) (sized i) x) ∙ same ∙ append_assoc (eight j) (sized j) y) in
    let split = fronts 4 (four i) (four j) (i ++ x) (j ++ y) refl refl
    (sym (append_assoc (four i) i x) ∙ counts.1 ∙ append_assoc (four j) j y) in
    let size : length i ≡ length j = sym (from_be_bytes-to_be_bytes_4 (length i) short) ∙ ap (from_be_bytes w32) split.0
    ∙ from_be_bytes-to_be_bytes_4 (length j) fits in
    fronts (length j) i j x y size refl split.1

-- the item of one record alone
pub one_record : (a b : List ℕ) → item a ≡ item b → a ≡ b
one_record a b same = (fronts 32 (sha256 a) (sha256 b) a b (length-sha256 a) (length-sha256 b) same).1

-- the first record, behind any gate
pub gated_same : (g h : ℕ) (a b x y : List ℕ) → length (item a) < 2 ^ 32 → length (item b) < 2 ^ 32 → g ∷ body a ++ x ≡ h ∷ body b ++ y → (a ≡ b) × (x ≡ y)
gated_same g h a b x y short fits same =
    let split = one_item (item a) (item b) x y short fits (ap (λ (l : List ℕ). drop 1 l) same) in
    (one_record a b split.0, split.1)

pub first_same : (a b x y : List ℕ) → length (item a) < 2 ^ 32 → length (item b) < 2 ^ 32 → 1 ∷ body a ++ x ≡ 1 ∷ body b ++ y → (a ≡ b) × (x ≡ y)
first_same a b x y short fits same = gated_same 1 1 a b x y short fits same

gates_same : (g h : ℕ) (x y : List ℕ) → g ∷ x ≡ h ∷ y → g ≡ h
gates_same g h x y same = cc (same)

-- an end begins with no record behind an open gate
pub end_stops : (last : List (List ℕ)) (end : List ℕ) → IsEnd last end → Stops end
end_stops last end (inl none) r more short same = (subst IsUnsynced same none.1).0 refl
end_stops last end (inr shut) r more short same = shut.not_open (gates_same shut.gate 1 _ _ (sym shut.whole ∙ same))

-- nor does a gate that isn't open
pub gate_stops : (gate : ℕ) (rest : List ℕ) → gate ≢ 1 → Stops (gate ∷ rest)
gate_stops gate rest differs r more short same = differs (gates_same gate 1 _ _ same)

first_of : (a : List ℕ) (xs : List (List ℕ)) (x : List ℕ) → blocks (a ∷ xs) ++ x ≡ 1 ∷ body a ++ (blocks xs ++ x)
first_of a xs x = ap (λ (l : List ℕ). 1 ∷ l) (append_assoc (body a) (blocks xs) x)

pub one_row : (xs ys : List (List ℕ)) (x y : List ℕ) → AreShort xs → AreShort ys → Stops x → Stops y → blocks xs ++ x ≡ blocks ys ++ y → (xs ≡ ys) × (x ≡ y)
one_row [] [] x y short fits stops ends same = (refl, same)
one_row [] (b ∷ ys) x y short fits stops ends same = absurd (stops b (blocks ys ++ y) fits.0 (same ∙ first_of b ys y))
one_row (a ∷ xs) [] x y short fits stops ends same = absurd (ends a (blocks xs ++ x) short.0 (sym same ∙ first_of a xs x))
one_row (a ∷ xs) (b ∷ ys) x y short fits stops ends same =
    let split = first_same a b (blocks xs ++ x) (blocks ys ++ y) short.0 fits.0 (sym (first_of a xs x) ∙ same ∙ first_of b ys y) in
    let rest = one_row xs ys x y short.1 fits.1 stops ends split.1 in
    (ap (λ (e : List ℕ). e ∷ xs) split.0 ∙ ap (λ (l : List (List ℕ)). b ∷ l) rest.0, rest.1)

-- ---- ends

-- no end without a whole batch is one with it
unsynced_shut : (last : List (List ℕ)) (end : List ℕ) → IsUnsynced end → IsShut last end → ⊥
unsynced_shut last end unsynced shut =
    by (batch 2 last ++ shut.more) (subst IsUnsynced shut.whole unsynced) (batch_whole last shut.more shut.some shut.short)
  where
    by : (tail : List ℕ) → IsUnsynced (shut.gate ∷ tail) → IsWhole tail → ⊥
    by [] unsynced whole = whole_some [] whole refl
    by (byte ∷ more) unsynced whole = unsynced.1 whole

-- a whole batch is read in one way
pub one_batch : (xs ys : List (List ℕ)) (x y : List ℕ) → 1 ≤ length xs → AreShort xs → 1 ≤ length ys → AreShort ys → batch 2 xs ++ x ≡ batch 2 ys ++ y → xs ≡ ys
one_batch xs ys x y some short any fits same =
    (one_row xs ys (2 ∷ x) (2 ∷ y) short fits (gate_stops 2 x (omega arith)) (gate_stops 2 y (omega arith))
    (sym (opened_is 2 xs x some) ∙ ap (λ (l : List ℕ). 1 ∷ l) same ∙ opened_is 2 ys y any)).0

pub one_end : (xs ys : List (List ℕ)) (end : List ℕ) → IsEnd xs end → IsEnd ys end → xs ≡ ys
one_end xs ys end (inl none) (inl nor) = none.0 ∙ sym nor.0
one_end xs ys end (inl none) (inr shut) = absurd (unsynced_shut ys end none.1 shut)
one_end xs ys end (inr shut) (inl none) = absurd (unsynced_shut xs end none.1 shut)
one_end xs ys end (inr shut) (inr other) =
    one_batch xs ys shut.more other.more shut.some shut.short other.some other.short
    (ap (λ (l : List ℕ). drop 1 l) (sym shut.whole ∙ other.whole))

-- ---- files

pub one_way : (file : List ℕ) (xs ys : List (List ℕ)) → Has xs file → Has ys file → xs ≡ ys
one_way file xs ys first second =
    let row = one_row first.front second.front first.end second.end first.short second.short (end_stops first.last first.end first.ends)
    (end_stops second.last second.end second.ends) (sym first.whole ∙ second.whole) in
    let last = one_end first.last second.last second.end (subst (IsEnd first.last) row.1 first.ends) second.ends in
    first.all ∙ ap (λ (l : List (List ℕ)). l ++ first.last) row.0 ∙ ap (λ (l : List (List ℕ)). second.front ++ l) last ∙ sym second.all

pub not_both : (file : List ℕ) (records : List (List ℕ)) (at : ℕ) → Has records file → IsDamagedAt at file → ⊥
not_both file records at h damaged =
    let row = one_row h.front damaged.records h.end damaged.rest h.short damaged.short (end_stops h.last h.end h.ends) damaged.no_record
    (sym h.whole ∙ damaged.whole) in
    damaged.no_end h.last (subst (IsEnd h.last) row.1 h.ends)

pub one_place : (file : List ℕ) (at other : ℕ) → IsDamagedAt at file → IsDamagedAt other file → at ≡ other
one_place file at other first second =
    let rest = one_row first.records second.records first.rest second.rest first.short second.short first.no_record second.no_record (sym first.whole
    ∙ second.whole) in
    first.here ∙ ap (λ (l : List (List ℕ)). length (blocks l)) rest.0 ∙ sym second.here

-- the first record of a file stands behind some gate
pub record FirstOf (r file : List ℕ) : Type 0 where
  pub gate : ℕ
  pub more : List ℕ
  pub whole : file ≡ gate ∷ body r ++ more
  pub short : length (item r) < 2 ^ 32

pub first_there : (r : List ℕ) (records : List (List ℕ)) (file : List ℕ) → Has (r ∷ records) file → FirstOf r file
first_there r records file has = by has.front refl
  where
    heads : (a b : List ℕ) (xs ys : List (List ℕ)) → a ∷ xs ≡ b ∷ ys → a ≡ b
    heads a b xs ys same = cc (same)

    alone : (last : List (List ℕ)) → has.last ≡ last → has.front ≡ [] → IsEnd last has.end → FirstOf r file
    alone last is none (inl nil) =
        absurd (omega (arith, ap length has.all, ap length (ap (λ (l : List (List ℕ)). l ++ has.last) none), ap length (is ∙ nil.0)))
    alone [] is none (inr shut) = absurd (omega (arith, shut.some))
    alone (s ∷ more) is none (inr shut) =
        let same : r ≡ s = heads r s records more (has.all ∙ ap (λ (l : List (List ℕ)). l ++ has.last) none ∙ is) in
        record {
          gate = shut.gate;
          more = (blocks more ++ 2 ∷ []) ++ shut.more;
          whole = has.whole ∙ ap (λ (l : List (List ℕ)). blocks l ++ has.end) none ∙ shut.whole
              ∙ ap (λ (l : List ℕ). shut.gate ∷ (l ++ shut.more)) (batch_is 2 s more)
              ∙ ap (λ (l : List ℕ). shut.gate ∷ l) (append_assoc (body s) (blocks more ++ 2 ∷ []) shut.more)
              ∙ ap (λ (b : List ℕ). shut.gate ∷ body b ++ ((blocks more ++ 2 ∷ []) ++ shut.more)) (sym same);
          short = subst (λ b. length (item b) < 2 ^ 32) (sym same) shut.short.0;
        }

    by : (front : List (List ℕ)) → has.front ≡ front → FirstOf r file
    by [] is = alone has.last refl is has.ends
    by (s ∷ more) is =
        let same : r ≡ s = heads r s records (more ++ has.last) (has.all ∙ ap (λ (l : List (List ℕ)). l ++ has.last) is) in
        record {
          gate = 1;
          more = blocks more ++ has.end;
          whole = has.whole ∙ ap (λ (l : List (List ℕ)). blocks l ++ has.end) is ∙ first_of s more has.end
              ∙ ap (λ (b : List ℕ). 1 ∷ body b ++ (blocks more ++ has.end)) (sym same);
          short = subst (λ b. length (item b) < 2 ^ 32) (sym same) (subst AreShort is has.short).0;
        }

-- so a record at the front of a file is its first
pub first_is : (bytes r : List ℕ) (records : List (List ℕ)) (file : List ℕ) → HasRecordAt 0 bytes file → Has (r ∷ records) file → bytes ≡ r
first_is bytes r records file here has =
    let it = first_there r records file has in
    (gated_same here.gate it.gate bytes r (drop (0 + length (1 ∷ body bytes)) file) it.more here.short it.short (sym here.whole ∙ it.whole)).0

-- a file with the same records has the same
pub same_has : (file c : List ℕ) (records : List (List ℕ)) → Has records file → Has records c → HasAs file c
same_has file c records has now others keeps = subst (λ rs. Has rs c) (one_way file records others has keeps) now
