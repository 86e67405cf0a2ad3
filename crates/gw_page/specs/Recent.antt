-- The last refusals, and how often each condition code was answered.
use Rattle.std.specs.Prelude.{ℕ, ◌+◌, ◌-◌, ◌^◌, ◌≤◌, min, List, ◌∷◌, take, decimal, bytes_eq, if◌then◌else◌}
use Rattle.std.specs.List.{fold}
use Rattle.std.specs.Vec.{vec_capacity}
use Rattle.gw_page.specs.declared.figures.Refusal.{Refusal}
use Rattle.gw_page.specs.declared.figures.Refused.{Refused}
use Rattle.gw_page.specs.declared.recent.Recent.{Recent}

-- there is room for the last twenty
abbrev pub HasRoom : Recent → Type 0
HasRoom r = 20 ≤ vec_capacity r.last

-- one more refusal: it is the first, before the first 19 of those that were kept
abbrev pub kept : Refusal → List Refusal → List Refusal
kept one before = one ∷ take 19 before

-- the count of a code after an answer of this one
unfoldable pub counted : List ℕ → Refused → Refused
counted code r = if bytes_eq code (decimal r.code) then record { code = r.code; count = min (r.count + 1) (2 ^ 64 - 1) } else r

abbrev pub added : ℕ → Refused → ℕ
added sum r = min (sum + r.count) (2 ^ 64 - 1)

-- how many answers these are in all
abbrev pub answered : List Refused → ℕ
answered counts = fold added 0 counts

-- the texts of a refusal
pub record Texts : Type 0 where
  pub time : List ℕ
  pub session : ℕ
  pub from : List ℕ
  pub number : List ℕ
  pub answer : List ℕ
  pub code : List ℕ
  pub place : List ℕ

unfoldable pub texts : Refusal → Texts
texts r = record { time = r.time; session = r.session; from = r.from.items; number = r.number.items; answer = r.answer.items; code = r.code.items; place = r.place.items }
