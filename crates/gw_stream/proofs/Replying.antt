-- That a block may hold what is answered, and what is written for a message.
use Rattle.std.proofs.Common.{◌≡◌, ◌+◌, ◌≤◌, ℕ, true, false, not, cond, nat_lt, length, length-append, lt-ltb, List, [], ◌∷◌, ◌++◌, Some, arith}
use Rattle.std.proofs.Common.{ap, ◌∙◌, refl}
use Rattle.std.specs.List.{prefix_len, position}
use Rattle.gw_ack.specs.declared.receipt.Ack.{Ack}
use Rattle.gw_ack.specs.Acknowledged.{Acknowledges}
use Rattle.gw_er7.specs.declared.fault.ReadFault.TheVariants.{Control}
use Rattle.gw_er7.specs.Content.{is_allowed}
use Rattle.gw_er7.specs.Message.{SegmentValue, IsMessage}
use Rattle.gw_er7.specs.Written.{written}
use Rattle.gw_er7.proofs.Again.{known}
use Rattle.gw_mllp.specs.Stream.{HasNoEnd}

-- FS is a byte that isn't allowed
bad_within : (before after : List ℕ) → prefix_len (λ b. not (not (is_allowed b))) (before ++ 28 ∷ 13 ∷ after) ≤ length before
bad_within [] after = omega arith
bad_within (b ∷ before) after =
    elim (is_allowed b) as (λ v. cond (not (not v)) (1 + prefix_len (λ x. not (not (is_allowed x))) (before ++ 28 ∷ 13 ∷ after)) 0 ≤ length (b ∷ before)) [
      | true ↦ (let ih = bad_within before after in omega arith)
      | false ↦ omega arith
    ]

bad_somewhere : (before after : List ℕ) → (at : ℕ) × (position (λ b. not (is_allowed b)) (before ++ 28 ∷ 13 ∷ after) ≡ Some at)
bad_somewhere before after =
    let within = bad_within before after in
    let long = length-append before (28 ∷ 13 ∷ after) in
    let found : nat_lt (prefix_len (λ b. not (not (is_allowed b))) (before ++ 28 ∷ 13 ∷ after)) (length (before ++ 28 ∷ 13 ∷ after)) ≡ true =
    lt-ltb _ _ (omega arith) in
    (prefix_len (λ b. not (not (is_allowed b))) (before ++ 28 ∷ 13 ∷ after), rw found refl)

pub acknowledges_has_no_end : (content control : List ℕ) (ack : Ack) → Acknowledges content control ack → HasNoEnd content
acknowledges_has_no_end content control ack says before after e =
    let bad = bad_somewhere before after in says.reads.readable (Control bad.0) (ap (position (λ b. not (is_allowed b))) e ∙ bad.1)

pub written_has_no_end : (m : List SegmentValue) → IsMessage m → HasNoEnd (written m)
written_has_no_end [] is before after e = absurd is
written_has_no_end (s ∷ ss) is before after e =
    let bad = bad_somewhere before after in
    let found : position (λ b. not (is_allowed b)) (written (s ∷ ss)) ≡ Some bad.0 = ap (position (λ b. not (is_allowed b))) e ∙ bad.1 in
    let none = (known s ss is).clean.none in
    cc
