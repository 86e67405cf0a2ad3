-- A record at an offset of a file.
use Rattle.std.proofs.Common.{◌≡◌, ℕ, ◌+◌, ◌-◌, ◌<◌, ◌≤◌, ◌^◌, min, List, [], ◌∷◌, ◌++◌, length, take, drop, refl, sym, ◌∙◌, ap, subst, arith, append_assoc, length-append, length-drop, take-append-drop}
use Rattle.std.specs.Int.{w32, w64, to_be_bytes, from_be_bytes}
use Rattle.std.proofs.lemmas.Nat.{from_be_bytes-to_be_bytes_4}
use Rattle.std.specs.Prelude.{Option, Some, None, IfSome, IfNone, Vec, Bool, true, false, IsTrue, ◌&&◌, nat_eq}
use Rattle.std.specs.declared.alloc.Global.{Global}
use Rattle.std.proofs.lemmas.Bool.{eqb-true}
use Rattle.std.proofs.lemmas.List.{drop_at, drop-drop, append-nil}
use Rattle.gw_log.specs.File.{nonzero, item, sized, body, blocks, HasNoRecord, HasRecordAt}
use Rattle.gw_log.specs.Disk.{Files}
use Rattle.gw_log.specs.State.{ReaderState, IsRead}
use Rattle.gw_log.specs.own.Steps.{Begins, BeginsGated, HasNone, IsThere}
use Rattle.sha2.specs.Sha256.{sha256}
use Rattle.sha2.proofs.Facts256.{length-sha256}
use Rattle.gw_log.proofs.Ends.{take_past, blocks-append, short-append}
use Rattle.gw_log.proofs.Ways.{fronts}

-- what begins a part of a file stands there
pub begins_part : (at n : ℕ) (file part r more : List ℕ) (is_open : Bool) → part ≡ take n (drop at file) → BeginsGated part r more is_open → IsThere at is_open r file
begins_part at n file part r more is_open is begins =
    let front : List ℕ = begins.gate ∷ body r in
    let all : drop at file ≡ front ++ (more ++ drop n (drop at file)) =
    sym (take-append-drop n (drop at file)) ∙ ap (λ (l : List ℕ). l ++ drop n (drop at file)) (sym is ∙ begins.whole)
    ∙ append_assoc front more (drop n (drop at file)) in
    let rest : drop (at + length front) file ≡ more ++ drop n (drop at file) =
    sym (drop-drop (length front) at file) ∙ ap (λ (l : List ℕ). drop (length front) l) all ∙ drop_at front (more ++ drop n (drop at file)) (length front) refl in
    record {
      has = record { gate = begins.gate; whole = all ∙ ap (λ (l : List ℕ). front ++ l) (sym rest); short = begins.short };
      opened = begins.opened;
    }

abbrev Pair : Type 0
Pair = Vec ℕ Global × Bool

pub found_part : (at n : ℕ) (file part : List ℕ) (found : Option Pair) (r : Pair) → found ≡ Some r
    → IfSome found (λ v. (more : List ℕ) × BeginsGated part v.0.items more v.1) → part ≡ take n (drop at file) → IsThere at r.1 r.0.items file
found_part at n file part found r some is cut =
    let begins = subst (λ o. IfSome o (λ v. (more : List ℕ) × BeginsGated part v.0.items more v.1)) some is in
    begins_part at n file part r.0.items begins.0 r.1 cut begins.1

abbrev eight : List ℕ → ℕ
eight r = 2 ^ 64 - 1 - nonzero (sized (item r))

parts : (at : ℕ) (file : List ℕ) (gate : ℕ) (r more : List ℕ) → drop at file ≡ gate ∷ body r ++ more
    → drop at file ≡ gate ∷ to_be_bytes w64 (eight r) ++ to_be_bytes w32 (length (item r)) ++ (item r ++ more)
parts at file gate r more whole =
    whole ∙ ap (λ (l : List ℕ). gate ∷ l) (append_assoc (to_be_bytes w64 (eight r)) (sized (item r)) more
    ∙ ap (λ (l : List ℕ). to_be_bytes w64 (eight r) ++ l) (append_assoc (to_be_bytes w32 (length (item r))) (item r) more)
    ∙ sym (append_assoc (to_be_bytes w64 (eight r)) (to_be_bytes w32 (length (item r))) (item r ++ more)))

-- where no record begins a part that is long enough, none stands there
none_part : (at n : ℕ) (file part : List ℕ) → part ≡ take n (drop at file)
    → ((gate : ℕ) (r more : List ℕ) → length (item r) < 2 ^ 32
    → drop at file ≡ gate ∷ to_be_bytes w64 (eight r) ++ to_be_bytes w32 (length (item r)) ++ more → length (1 ∷ body r) ≤ n)
    → HasNoRecord part → HasNoRecord (drop at file)
none_part at n file part is enough none gate r more short whole =
    let le = enough gate r (item r ++ more) short (parts at file gate r more whole) in
    none gate r (take (n - length (1 ∷ body r)) more) short
    (is ∙ ap (λ (l : List ℕ). take n l) whole ∙ take_past (gate ∷ body r) more n (n - length (1 ∷ body r)) (omega (arith, le)))

abbrev Sizes : List ℕ → Option ℕ → Type 0
Sizes front size =
    (gate n : ℕ) (r more : List ℕ) → length (item r) < 2 ^ 32
    → front ≡ gate ∷ to_be_bytes w64 n ++ to_be_bytes w32 (length (item r)) ++ more → size ≡ Some (length (1 ∷ body r))

sized_at : (at : ℕ) (file front : List ℕ) (size : Option ℕ) → front ≡ take 4096 (drop at file) → Sizes front size
    → (gate : ℕ) (r more : List ℕ) → length (item r) < 2 ^ 32
    → drop at file ≡ gate ∷ to_be_bytes w64 (eight r) ++ to_be_bytes w32 (length (item r)) ++ more → size ≡ Some (length (1 ∷ body r))
sized_at at file front size is sizes gate r more short begins =
    sizes gate (eight r) r (take 4083 more) short
    (is ∙ ap (λ (l : List ℕ). take 4096 l) begins
    ∙ take_past (gate ∷ to_be_bytes w64 (eight r) ++ to_be_bytes w32 (length (item r))) more 4096 4083 refl)

-- the length that stands in four bytes behind a gate and a count is that of the item
pub size_found : (bytes rest sizes behind : List ℕ) (gate count size : ℕ) → bytes ≡ gate ∷ rest → rest ≡ to_be_bytes w64 count ++ sizes
    → sizes ≡ to_be_bytes w32 size ++ behind → size < 2 ^ 32 → Sizes bytes (Some (13 + size))
size_found bytes rest sizes behind gate count size is one two fits g n r more short begins =
    let after = fronts 8 (to_be_bytes w64 count) (to_be_bytes w64 n) sizes (to_be_bytes w32 (length (item r)) ++ more) refl refl
    (sym one ∙ ap (λ (l : List ℕ). drop 1 l) (sym is ∙ begins)) in
    let four = fronts 4 (to_be_bytes w32 size) (to_be_bytes w32 (length (item r))) behind more refl refl (sym two ∙ after.1) in
    let same : size ≡ length (item r) =
    sym (from_be_bytes-to_be_bytes_4 size fits) ∙ ap (from_be_bytes w32) four.0 ∙ from_be_bytes-to_be_bytes_4 (length (item r)) short in
    let long : 13 + size ≡ length (1 ∷ body r) = omega (arith, same) in
    ap (λ (k : ℕ). Some k) long

-- a copy of the record that begins behind a gate
pub gated : (bytes rest r copy more : List ℕ) (gate : ℕ) → bytes ≡ gate ∷ rest → Begins rest r more → copy ≡ r
    → (behind : List ℕ) × BeginsGated bytes copy behind (nat_eq gate 1)
gated bytes rest r copy more gate is begins same = subst (λ (l : List ℕ). (behind : List ℕ) × BeginsGated bytes l behind (nat_eq gate 1)) (sym same) (
  more,
  record {
    gate = gate;
    whole = is ∙ ap (λ (l : List ℕ). gate ∷ l) begins.whole;
    short = begins.short;
    opened = eqb-true gate 1;
  },
)

-- where none begins behind the gate, none stands there
pub none_gated : (bytes rest : List ℕ) (gate : ℕ) → bytes ≡ gate ∷ rest → HasNone rest → HasNoRecord bytes
none_gated bytes rest gate is none g r more short same = none r more short (ap (λ (l : List ℕ). drop 1 l) (sym is ∙ same))

differ : (n : ℕ) (o : Option ℕ) → o ≡ None → o ≡ Some n → ⊥
differ n o none some = subst (λ p. IfSome p (λ _. ⊥)) (sym none ∙ some) tt

one_size : (n m : ℕ) → Some n ≡ Some m → n ≡ m
one_size n m same = cc (same)

pub none_sized : (at : ℕ) (file front : List ℕ) (size : Option ℕ) → front ≡ take 4096 (drop at file) → Sizes front size → size ≡ None → HasNoRecord (drop at file)
none_sized at file front size is sizes none gate r more short whole =
    differ (length (1 ∷ body r)) size none (sized_at at file front size is sizes gate r (item r ++ more) short (parts at file gate r more whole))

pub none_long : (at n : ℕ) (file front block : List ℕ) (size : Option ℕ) (found : Option Pair) → front ≡ take 4096 (drop at file) → Sizes front size
    → size ≡ Some n → block ≡ take n (drop at file) → found ≡ None → IfNone found (HasNoRecord block) → HasNoRecord (drop at file)
none_long at n file front block size found is sizes some cut nothing none =
    none_part at n file block cut
    (λ gate r more short begins. let same = one_size n (length (1 ∷ body r)) (sym some ∙ sized_at at file front size is sizes gate r more short begins) in omega (arith, same))
    (subst (λ o. IfNone o (HasNoRecord block)) nothing none)

-- ---- one record more was read

pub block_size : (r : List ℕ) → length (1 ∷ body r) ≡ 45 + length r
block_size r = omega (
  arith,
  length-append (to_be_bytes w64 (eight r)) (sized (item r)),
  length-append (to_be_bytes w32 (length (item r))) (item r),
  length-append (sha256 r) r,
  length-sha256 r,
)

both_blocks : (before : List (List ℕ)) (r : List ℕ) → blocks (before ++ r ∷ []) ≡ blocks before ++ (1 ∷ body r)
both_blocks before r = blocks-append before (r ∷ []) ∙ ap (λ (l : List ℕ). blocks before ++ (1 ∷ l)) (append-nil (body r))

-- behind open gates
pub read_next : (file : List ℕ) (before : List (List ℕ)) (r : List ℕ) (at : ℕ) → file ≡ blocks before ++ drop at file
    → (has : HasRecordAt at r file) → has.gate ≡ 1 → file ≡ blocks (before ++ r ∷ []) ++ drop (at + length (1 ∷ body r)) file
read_next file before r at whole has is_one =
    let front : List ℕ = 1 ∷ body r in
    whole ∙ ap (λ (l : List ℕ). blocks before ++ l) (has.whole ∙ ap (λ (n : ℕ). n ∷ body r ++ drop (at + length front) file) is_one)
    ∙ sym (append_assoc (blocks before) front (drop (at + length front) file))
    ∙ ap (λ (l : List ℕ). l ++ drop (at + length front) file) (sym (both_blocks before r))

both_true : (a b : Bool) → IsTrue (a && b) → IsTrue a × IsTrue b
both_true true b is = (refl, is)
both_true false b is = absurd (cc (is))

pub reader_next : {D : Type 0} (seen : D → Files) (r s : ReaderState D) (before : List (List ℕ)) (bytes : List ℕ) (len : ℕ) (is_open : Bool) → IsRead seen r before
    → seen s.disk ≡ seen r.disk → s.number ≡ r.number → s.at ≡ min (r.at + (45 + len)) (2 ^ 64 - 1) → len ≡ length bytes → s.is_open ≡ (r.is_open && is_open)
    → IsThere r.at is_open bytes (seen r.disk r.number) → IsRead seen s (before ++ bytes ∷ [])
reader_next seen r s before bytes len is_open read same number at len_is opened there =
    let file = seen r.disk r.number in
    let has = there.has in
    let is : seen s.disk s.number ≡ file = ap (λ (f : Files). f s.number) same ∙ ap (λ (n : ℕ). seen r.disk n) number in
    let size = block_size bytes in
    let within : r.at + length (1 ∷ body bytes) < 2 ^ 63 = omega (
      arith,
      read.small,
      length-drop r.at file,
      ap length has.whole,
      length-append (body bytes) (drop (r.at + length (1 ∷ body bytes)) file),
    ) in
    let here : s.at ≡ r.at + length (1 ∷ body bytes) = omega (arith, at, len_is, size, within) in
    record {
      whole = λ so.
          let both = both_true r.is_open is_open (sym opened ∙ so) in
          is ∙ read_next file before bytes r.at (read.whole both.0) has (there.opened both.1)
          ∙ ap (λ (k : ℕ). blocks (before ++ bytes ∷ []) ++ drop k file) (sym here)
          ∙ ap (λ (f : List ℕ). blocks (before ++ bytes ∷ []) ++ drop s.at f) (sym is);
      short = short-append before (bytes ∷ []) read.short (has.short, tt);
      here = omega (arith, here, read.here, ap length (both_blocks before bytes), length-append (blocks before) (1 ∷ body bytes));
      small = subst (λ f. length f < 2 ^ 63) (sym is) read.small;
    }
