-- What the tests of messages, receivers and sources tell.
use Rattle.std.proofs.Common.{◌≡◌, ◌&&◌, ℕ, Bool, true, false, List, refl, ap}
use Rattle.std.specs.Bool.{Decides}
use Rattle.std.specs.Cmp.Lexicographic.{pointwise, pointwise_decides}
use Rattle.std.specs.Prelude.{bytes_eq}
use Rattle.std.proofs.lemmas.Slice.Eq.{bytes_eq-Decides}
use Rattle.std.proofs.lemmas.Bool.{false≢true}
use Rattle.gw_plan.specs.Shapes.{ReceiverValue}
use Rattle.gw_gate.specs.Parts.{SegmentSeen, MessageSeen, PlanSeen, same_text, same_segment, same_message, same_receiver, same_receivers}

pub and_both : (a b : Bool) → (a && b) ≡ true → (a ≡ true) × (b ≡ true)
and_both true b is = (refl, is)
and_both false b is = absurd (false≢true is)

pub and_true : (a b : Bool) → a ≡ true → b ≡ true → (a && b) ≡ true
and_true true b p q = q
and_true false b p q = absurd (false≢true p)

text_decides : (a b : List ℕ × List ℕ) → Decides (same_text a b) (a ≡ b)
text_decides a b = (
  λ e. let both = and_both (bytes_eq a.0 b.0) (bytes_eq a.1 b.1) e in
      let p = (bytes_eq-Decides a.0 b.0).0 both.0 in
      let q = (bytes_eq-Decides a.1 b.1).0 both.1 in
      λ i. (p i, q i),
  λ e. and_true (bytes_eq a.0 b.0) (bytes_eq a.1 b.1) ((bytes_eq-Decides a.0 b.0).1 (ap (λ x. x.0) e)) ((bytes_eq-Decides a.1 b.1).1 (ap (λ x. x.1) e)),
)

segment_decides : (a b : SegmentSeen) → Decides (same_segment a b) (a ≡ b)
segment_decides a b = (
  λ e. let both = and_both (bytes_eq a.name b.name) (pointwise same_text a.texts b.texts) e in
      let p = (bytes_eq-Decides a.name b.name).0 both.0 in
      let q = (pointwise_decides text_decides a.texts b.texts).0 both.1 in
      λ i. record { name = p i; texts = q i },
  λ e. and_true (bytes_eq a.name b.name) (pointwise same_text a.texts b.texts)
      ((bytes_eq-Decides a.name b.name).1 (ap (λ x. x.name) e))
      ((pointwise_decides text_decides a.texts b.texts).1 (ap (λ x. x.texts) e)),
)

pub message_decides : (a b : MessageSeen) → Decides (same_message a b) (a ≡ b)
message_decides a b = pointwise_decides segment_decides a b

receiver_decides : (a b : ReceiverValue) → Decides (same_receiver a b) (a ≡ b)
receiver_decides a b = (
  λ e. let both = and_both (bytes_eq a.name b.name) (bytes_eq a.address b.address) e in
      let p = (bytes_eq-Decides a.name b.name).0 both.0 in
      let q = (bytes_eq-Decides a.address b.address).0 both.1 in
      λ i. record { name = p i; address = q i },
  λ e. and_true (bytes_eq a.name b.name) (bytes_eq a.address b.address)
      ((bytes_eq-Decides a.name b.name).1 (ap (λ x. x.name) e))
      ((bytes_eq-Decides a.address b.address).1 (ap (λ x. x.address) e)),
)

pub receivers_decide : (p q : PlanSeen) → Decides (same_receivers p q) (p.receivers ≡ q.receivers)
receivers_decide p q = pointwise_decides receiver_decides p.receivers q.receivers
