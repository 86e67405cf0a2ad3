-- A content as an acknowledgment.
use Rattle.std.proofs.Common.{◌≡◌, ◌⊎◌, inl, inr, ℕ, List, Result, Ok, Err, sym}
use Rattle.gw_ack.specs.declared.receipt.Ack.{Ack}
use Rattle.gw_ack.specs.declared.receipt.AckFault.{AckFault}
use Rattle.gw_ack.specs.declared.receipt.AckFault.TheVariants.{Memory, Unreadable}
use Rattle.gw_ack.specs.Acknowledged.{Acknowledges, IsRead, acknowledgment}
use Rattle.gw_er7.specs.declared.fault.ReadFault.{ReadFault}
use Rattle.gw_er7.specs.Faults.{Faulty}
use Rattle.gw_er7.specs.Message.{SegmentValue, IsMessage}
use Rattle.gw_er7.specs.Reading.{Reads}

-- what is answered Ok is an acknowledgment
pub says_so : (content control : List ℕ) (ack : Ack)
    → ((message : List SegmentValue) → IsMessage message → Reads content message → IsRead (Ok ack) (acknowledgment message control))
    → ((fault : ReadFault) → Faulty content fault → ◌≡◌ {A = Result Ack AckFault} (Ok ack) (Err Unreadable))
    → ((fault : ReadFault) × Faulty content fault) ⊎ ((message : List SegmentValue) × (IsMessage message × Reads content message))
    → Acknowledges content control ack
says_so content control ack read unreadable (inl faulty) = absurd (let no = unreadable faulty.0 faulty.1 in cc)
says_so content control ack read unreadable (inr readable) = by (read readable.0 readable.1.0 readable.1.1)
  where
    by : IsRead (Ok ack) (acknowledgment readable.0 control) → Acknowledges content control ack
    by (inl bad) = absurd (let e : ◌≡◌ {A = Result Ack AckFault} (Ok ack) (Err Memory) = bad in cc)
    by (inr is) = record { message = readable.0; lawful = readable.1.0; reads = readable.1.1; says = sym is }

-- what is answered with another fault than an allocation failure is none
pub denied_so : (fault : AckFault) (content control : List ℕ) (ack : Ack) → ¬ (fault ≡ Memory)
    → (Acknowledges content control ack → IsRead (Err fault) (Ok ack)) → Acknowledges content control ack → ⊥
denied_so fault content control ack other acknowledged says = by (acknowledged says)
  where
    by : IsRead (Err fault) (Ok ack) → ⊥
    by (inl is) = other (let e : ◌≡◌ {A = Result Ack AckFault} (Err fault) (Err Memory) = is in cc)
    by (inr is) = let e : ◌≡◌ {A = Result Ack AckFault} (Err fault) (Ok ack) = is in cc
