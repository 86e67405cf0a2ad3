-- The tables of MSH, MSA and ERR are rows of their segments.
use Rattle.std.proofs.Common.{◌≡◌, ℕ, ◌<◌, Bool, true, ◌≤◌, ◌+◌, List, [], ◌∷◌, ◌++◌, refl, arith}
use Rattle.std.specs.Prelude.{◌==◌, ◌^◌, codes, if◌then◌else◌}
use Rattle.std.specs.List.{AllByRecursion}
use Rattle.std.specs.Fmt.{decimal}
use Rattle.std.proofs.lemmas.Bool.{cond_both}
use Rattle.std.proofs.lemmas.Fmt.{decimal_is_IsNumeral}
use Rattle.gw_er7.specs.Text.{IsCanonical, is_canonical}
use Rattle.gw_er7.specs.Names.{is_name}
use Rattle.gw_er7.specs.Entries.{Entry}
use Rattle.gw_er7.proofs.Builds.{canonical_of}
use Rattle.gw_ack.specs.declared.receipt.Ack.{Ack}
use Rattle.gw_ack.specs.declared.receipt.Ack.TheVariants.{AA, AE, AR}
use Rattle.gw_ack.specs.Stamps.{IsStamp}
use Rattle.gw_ack.specs.Headers.{HeaderValue, IsHeaderValue}
use Rattle.gw_ack.specs.Conditions.{condition, said, named, location_for, header_place}
use Rattle.gw_ack.specs.Answers.{ack_text, copied, field, or_production, msh, msa, err}
use Rattle.gw_ack.specs.Rows.{AreRows, IsRepetition}
use Rattle.gw_ack.proofs.Lawful.{byte_is_plain, plain_is_canonical, digits_are_plain, name_is_canonical, digits_are_canonical}
use Rattle.gw_ack.proofs.Lawful.{From, next, no_rows, copied_piece, field_piece}

either : {A : Type 0} (P : A → Type 0) (b : Bool) (x y : A) → P x → P y → P (if b then x else y)
either P b x y hx hy = cond_both b x y P (λ _. hx) (λ _. hy)

decimal_is_canonical : (n : ℕ) → n < 2 ^ 64 → IsCanonical (decimal n)
decimal_is_canonical n lt = plain_is_canonical (decimal n) (digits_are_plain (decimal n) (decimal_is_IsNumeral n lt).0.1)

pub said_is_canonical : (n : ℕ) → n < 2 ^ 64 → IsCanonical (said n)
said_is_canonical n lt = either IsCanonical (n == 0) [] (decimal n) (canonical_of [] refl) (decimal_is_canonical n lt)

condition_is_canonical : (code : ℕ) → IsCanonical (condition code)
condition_is_canonical code =
    either IsCanonical (code == 100) _ _ (canonical_of (codes "Segment sequence error") refl)
    (either IsCanonical (code == 101) _ _ (canonical_of (codes "Required field missing") refl)
    (either IsCanonical (code == 102) _ _ (canonical_of (codes "Data type error") refl)
    (either IsCanonical (code == 103) _ _ (canonical_of (codes "Table value not found") refl)
    (either IsCanonical (code == 200) _ _ (canonical_of (codes "Unsupported message type") refl)
    (either IsCanonical (code == 201) _ _ (canonical_of (codes "Unsupported event code") refl)
    (either IsCanonical (code == 202) _ _ (canonical_of (codes "Unsupported processing id") refl)
    (either IsCanonical (code == 203) _ _ (canonical_of (codes "Unsupported version id") refl) (canonical_of (codes "Application internal error") refl))))))))

pub named_is_canonical : (name : List ℕ) → IsCanonical (named name)
named_is_canonical name = cond_both (is_name name) name [] IsCanonical (name_is_canonical name) (λ _. canonical_of [] refl)

ack_is_canonical : (ack : Ack) → IsCanonical (ack_text ack)
ack_is_canonical AA = canonical_of (codes "AA") refl
ack_is_canonical AE = canonical_of (codes "AE") refl
ack_is_canonical AR = canonical_of (codes "AR") refl

number_is_canonical : (n : ℕ) → n < 2 ^ 64 → IsCanonical (71 ∷ decimal n)
number_is_canonical n lt =
    plain_is_canonical (71 ∷ decimal n) (byte_is_plain 71 (omega arith) (omega arith), digits_are_plain (decimal n) (decimal_is_IsNumeral n lt).0.1)

header_place_is_canonical : (field comp : List ℕ) → is_canonical field ≡ true → is_canonical comp ≡ true
    → AllByRecursion IsCanonical (header_place field comp)
header_place_is_canonical field comp e f =
    (canonical_of (codes "MSH") refl, (canonical_of (codes "1") refl, (canonical_of field e, (canonical_of (codes "1") refl, (canonical_of comp f, tt)))))

pub location_for_is_canonical : (code : ℕ) → AllByRecursion IsCanonical (location_for code)
location_for_is_canonical code =
    either (AllByRecursion IsCanonical) (code == 200) _ _ (header_place_is_canonical (codes "9") (codes "1") refl refl)
    (either (AllByRecursion IsCanonical) (code == 201) _ _ (header_place_is_canonical (codes "9") (codes "2") refl refl)
    (either (AllByRecursion IsCanonical) (code == 202) _ _ (header_place_is_canonical (codes "11") (codes "1") refl refl)
    (either (AllByRecursion IsCanonical) (code == 203) _ _ (header_place_is_canonical (codes "12") (codes "1") refl refl) tt)))

-- ---- the tables

production : (es : List Entry) → IsRepetition es → IsRepetition (or_production es)
production [] h = record {
  each = (record { count_is = refl; positive = (omega arith, (omega arith, tt)); text = canonical_of (codes "P") refl; some = λ e. absurd cc }, tt);
  sorted = tt;
}
production (e ∷ es) h = h

copy : (least low number : ℕ) (es others : List Entry) → low ≤ number → 0 < number → least ≤ number → IsRepetition es
    → From least (number + 1) others → From least low (copied number es ++ others)
copy least low number es others le some after h = next least low number (copied number es) others le (copied_piece least number es some after h)

parts : (least low number : ℕ) (texts : List (List ℕ)) (others : List Entry) → low ≤ number → 0 < number → least ≤ number → AllByRecursion IsCanonical texts
    → From least (number + 1) others → From least low (field number texts ++ others)
parts least low number texts others le some after h =
    next least low number (field number texts) others le (field_piece least number texts some after h)

pub msh_rows : (h : HeaderValue) (stamp : List ℕ) (arrival : ℕ) → IsHeaderValue h → IsStamp stamp → arrival < 2 ^ 64 → AreRows 3 (msh h stamp arrival)
msh_rows h stamp arrival lawful is_stamp lt =
    let ack = canonical_of (codes "ACK") refl in
    (copy 3 3 3 h.receiving_application _ (omega arith) (omega arith) (omega arith) lawful.receiving_application
    (copy 3 4 4 h.receiving_facility _ (omega arith) (omega arith) (omega arith) lawful.receiving_facility
    (copy 3 5 5 h.sending_application _ (omega arith) (omega arith) (omega arith) lawful.sending_application
    (copy 3 6 6 h.sending_facility _ (omega arith) (omega arith) (omega arith) lawful.sending_facility
    (parts 3 7 7 (stamp ∷ []) _ (omega arith) (omega arith) (omega arith) (digits_are_canonical stamp is_stamp.digits, tt)
    (parts 3 8 9 (codes "ACK" ∷ h.event ∷ codes "ACK" ∷ []) _ (omega arith) (omega arith) (omega arith) (ack, (lawful.event, (ack, tt)))
    (parts 3 10 10 ((71 ∷ decimal arrival) ∷ []) _ (omega arith) (omega arith) (omega arith) (number_is_canonical arrival lt, tt)
    (copy 3 11 11 (or_production h.processing) _ (omega arith) (omega arith) (omega arith) (production h.processing lawful.processing)
    (parts 3 12 12 (codes "2.5.1" ∷ []) _ (omega arith) (omega arith) (omega arith) (canonical_of (codes "2.5.1") refl, tt)
    (no_rows 3 13)))))))))).lawful

pub msa_rows : (ack : Ack) (control : List ℕ) → IsCanonical control → AreRows 1 (msa (ack_text ack) control)
msa_rows ack control lawful =
    (parts 1 1 1 (ack_text ack ∷ []) _ (omega arith) (omega arith) (omega arith) (ack_is_canonical ack, tt)
    (parts 1 2 2 (control ∷ []) _ (omega arith) (omega arith) (omega arith) (lawful, tt) (no_rows 1 3))).lawful

pub err_rows : (location : List (List ℕ)) (code : ℕ) → AllByRecursion IsCanonical location → code < 2 ^ 64 → AreRows 1 (err location code)
err_rows location code each lt =
    (parts 1 1 2 location _ (omega arith) (omega arith) (omega arith) each
    (parts 1 3 3 (decimal code ∷ condition code ∷ codes "HL70357" ∷ []) _ (omega arith) (omega arith) (omega arith)
    (decimal_is_canonical code lt, (condition_is_canonical code, (canonical_of (codes "HL70357") refl, tt)))
    (parts 1 4 4 (codes "E" ∷ []) _ (omega arith) (omega arith) (omega arith) (canonical_of (codes "E") refl, tt) (no_rows 1 5)))).lawful
