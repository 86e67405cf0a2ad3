-- The next repetition of a source's field, where one is left.
use Rattle.std.proofs.Common.{◌≡◌, ℕ, ◌+◌, ◌<◌, ◌≤◌, inl, inr, List, [], ◌∷◌, Some, arith, length, slice_get}
use Rattle.std.specs.FinMap as texts
use Rattle.std.proofs.lemmas.Bool.{cases_lt}
use Rattle.gw_er7.specs.Message.{SegmentValue, IsSegment}
use Rattle.gw_er7.specs.Presence.{RepAt, IsLast, IsStart}
use Rattle.gw_validate.proofs.Nexts.{none_left, none_here, next_is}

module _ (v : SegmentValue) (f after last start : ℕ) (is : IsLast (RepAt v.at f) last) (lt : after < last) (whole : IsSegment v)
    (begin : IsStart (f ∷ (after + 1) ∷ 0 ∷ 0 ∷ []) (texts.entries v.at) start) where
  there : RepAt v.at f last
  there = is.there (omega arith)

  pub start_within : start < length (texts.entries v.at)
  start_within = elim (cases_lt start (length (texts.entries v.at))) as (λ _. start < length (texts.entries v.at)) [
    | inl l ↦ l
    | inr le ↦ absurd (omega (arith, lt, (none_left v f after start whole begin le).none last there))
  ]

  module _ (g0 r0 c0 s0 : ℕ) (t0 : List ℕ) (at : slice_get (texts.entries v.at) start ≡ Some (g0 ∷ r0 ∷ c0 ∷ s0 ∷ [], t0)) where
    apart : (g0 ≡ f → ⊥) → ⊥
    apart h = omega (arith, lt, (none_here v f after start whole begin g0 r0 c0 s0 t0 at h).none last there)

    same : g0 ≡ f
    same = elim (cases_lt g0 f) as (λ _. g0 ≡ f) [
      | inl l ↦ absurd (apart (λ e. omega (arith, l, e)))
      | inr ge ↦ elim (cases_lt f g0) as (λ _. g0 ≡ f) [
        | inl l ↦ absurd (apart (λ e. omega (arith, l, e)))
        | inr le ↦ omega (arith, ge, le)
      ]
    ]

    pub next_there : RepAt v.at f r0
    next_there = (next_is v f after start whole begin g0 r0 c0 s0 t0 at same).there

    pub next_after : after < r0
    next_after = (next_is v f after start whole begin g0 r0 c0 s0 t0 at same).behind

    pub next_first : (r : ℕ) → after < r → RepAt v.at f r → r0 ≤ r
    next_first = (next_is v f after start whole begin g0 r0 c0 s0 t0 at same).first
