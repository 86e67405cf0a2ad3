-- A state as bytes.
use Rattle.std.specs.Prelude.{ℕ, ◌<◌, ◌^◌, List, [], ◌∷◌, ◌++◌, length, flat_map, Option, None, Some, IfSome}
use Rattle.std.specs.List.{AllByRecursion}
use Rattle.std.specs.Int.{w32, w64, to_be_bytes}
use Rattle.gw_due.specs.Spelling.{text, IsShort}
use Rattle.gw_due.specs.State.{Receiver, State}

-- a number in eight bytes, the high one first
unfoldable pub eight : ℕ → List ℕ
eight n = to_be_bytes w64 n

-- 0; or 1 and the number
abbrev pub perhaps : Option ℕ → List ℕ
perhaps None = 0 ∷ []
perhaps (Some n) = 1 ∷ eight n

abbrev pub counts : ℕ → ℕ → ℕ → List ℕ
counts from left refused = eight from ++ (eight left ++ eight refused)

abbrev pub receiver : Receiver → List ℕ
receiver r = to_be_bytes w32 r.number ++ (text r.name ++ (text r.address ++ counts r.from r.left r.refused))

-- how many there are, and each of them
abbrev pub receivers : List Receiver → List ℕ
receivers rs = to_be_bytes w32 (length rs) ++ flat_map receiver rs

abbrev pub checkpoint : State → List ℕ
checkpoint s = eight s.next ++ (perhaps s.plan ++ (perhaps s.last ++ (eight s.margin ++ (eight s.oldest ++ receivers s.receivers))))

-- ---- what has a spelling

abbrev pub PerhapsFits : Option ℕ → Type 0
PerhapsFits n = IfSome n (λ n. n < 2 ^ 64)

abbrev pub ReceiverFits : Receiver → Type 0
ReceiverFits r = (r.number < 2 ^ 32) × (IsShort r.name × (IsShort r.address × ((r.from < 2 ^ 64) × ((r.left < 2 ^ 64) × (r.refused < 2 ^ 64)))))

abbrev pub ReceiversFit : List Receiver → Type 0
ReceiversFit rs = (length rs < 2 ^ 32) × AllByRecursion ReceiverFits rs

abbrev pub StateFits : State → Type 0
StateFits s = (s.next < 2 ^ 64) × (PerhapsFits s.plan × (PerhapsFits s.last × ((s.margin < 2 ^ 64) × ((s.oldest < 2 ^ 64) × ReceiversFit s.receivers))))
