-- What an answer says when it is read.
use Rattle.std.proofs.Common.{◌≡◌, ◌≤◌, ℕ, List, [], ◌∷◌, length, Option, Some, refl, ap, arith}
use Rattle.std.proofs.lemmas.Slice.Eq.{bytes_eq-Decides}
use Rattle.std.specs.Prelude.{codes, bytes_eq, true, unwrap_or, Ok}
use Rattle.std.specs.Ordering.{nat_cmp}
use Rattle.std.specs.Cmp.Lexicographic.{slice_cmp, nat_list_cmp_total}
use Rattle.std.specs.FinMap as texts
use Rattle.std.specs.FinMap.{find, get-from_entries}
use Rattle.gw_er7.specs.Entries.{Entry}
use Rattle.gw_er7.specs.Message.{SegmentValue, text_of}
use Rattle.gw_ack.specs.declared.receipt.Ack.{Ack}
use Rattle.gw_ack.specs.declared.receipt.Ack.TheVariants.{AA, AE, AR}
use Rattle.gw_ack.specs.declared.reply.Reply.{Reply}
use Rattle.gw_ack.specs.declared.reply.Reply.TheVariants.{Accept}
use Rattle.gw_ack.specs.Acknowledged.{acknowledgment, code_in}
use Rattle.gw_ack.specs.Answers.{ack_text, segment, msa, reason}

at_from : (rows : List Entry) (f r c s : ℕ) → text_of (texts.from_entries rows) f r c s ≡ unwrap_or (find (slice_cmp nat_cmp) (f ∷ r ∷ c ∷ s ∷ []) rows) []
at_from rows f r c s = ap (λ (o : Option (List ℕ)). unwrap_or o []) (get-from_entries nat_list_cmp_total rows (f ∷ r ∷ c ∷ s ∷ []))

code_is : (b : ℕ) (code control : List ℕ) → text_of (segment (codes "MSA") (msa (b ∷ code) control)).at 1 1 1 1 ≡ b ∷ code
code_is b code control = at_from (msa (b ∷ code) control) 1 1 1 1

control_is : (b : ℕ) (code control : List ℕ) → text_of (segment (codes "MSA") (msa (b ∷ code) control)).at 2 1 1 1 ≡ control
control_is b code [] = at_from (msa (b ∷ code) []) 2 1 1 1
control_is b code (x ∷ control) = at_from (msa (b ∷ code) (x ∷ control)) 2 1 1 1

by_code : (msh : List Entry) (b : ℕ) (code control : List ℕ) (rest : List SegmentValue) (ack : Ack) → code_in (b ∷ code) ≡ Some ack
    → acknowledgment (segment (codes "MSH") msh ∷ segment (codes "MSA") (msa (b ∷ code) control) ∷ rest) control ≡ Ok ack
by_code msh b code control rest ack e =
    let same : bytes_eq control control ≡ true = (bytes_eq-Decides control control).1 refl in
    rw (code_is b code control, control_is b code control, same, e) refl

pub says : (msh : List Entry) (control : List ℕ) (rest : List SegmentValue) (ack : Ack)
    → acknowledgment (segment (codes "MSH") msh ∷ segment (codes "MSA") (msa (ack_text ack) control) ∷ rest) control ≡ Ok ack
says msh control rest AA = by_code msh 65 (65 ∷ []) control rest AA refl
says msh control rest AE = by_code msh 65 (69 ∷ []) control rest AE refl
says msh control rest AR = by_code msh 65 (82 ∷ []) control rest AR refl

pub few : (reply : Reply) → length (reason reply) ≤ 1
few Accept = omega arith
few reply = omega arith
