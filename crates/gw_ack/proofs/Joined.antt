-- The lines of an answer, part by part.
use Rattle.std.proofs.Common.{◌≡◌, ◌≢◌, ℕ, ◌+◌, ◌-◌, ◌<◌, ◌≤◌, max, List, [], ◌∷◌, ◌++◌, length, map, codes, refl, sym, ap, ◌∙◌, append_assoc, append-nil, arith}
use Rattle.std.specs.Fmt.{decimal}
use Rattle.std.specs.List.{join_with_byte, AllByRecursion}
use Rattle.gw_er7.specs.Entries.{Entry, under}
use Rattle.gw_er7.specs.Message.{first_number}
use Rattle.gw_er7.specs.Written.{those, last_number, parts_from, repetition_text, field_text, fields_text, behind_separator, closed_line}
use Rattle.gw_er7.proofs.Each.{Each-append, Each-weaker}
use Rattle.gw_er7.proofs.PartByPart.{layer-last}
use Rattle.gw_ack.specs.Answers.{component, components, copied, field, or_production, table, msh}
use Rattle.gw_ack.specs.Headers.{HeaderValue}
use Rattle.gw_ack.specs.own.Joined.{parties}
use Rattle.gw_ack.proofs.Numbers.{none_under, parts_same, strip_same, those-append}

-- ---- fields of a table

-- rows that hold the field of this number
abbrev In : ℕ → List Entry → Type 0
In n rows = AllByRecursion (λ e. first_number e.0 ≡ n) rows

-- rows of a table, field by field from this number on
abbrev Numbered : ℕ → List (List Entry) → Type 0
Numbered n [] = Unit {0}
Numbered n (p ∷ ps) = In n p × Numbered (n + 1) ps

abbrev texts_from : ℕ → List (List Entry) → List (List ℕ)
texts_from n [] = []
texts_from n (p ∷ ps) = field_text (those n p) ∷ texts_from (n + 1) ps

-- the last field isn't empty
abbrev LastSome : List (List Entry) → Type 0
LastSome [] = ⊥
LastSome (p ∷ []) = 0 < length p
LastSome (p ∷ q ∷ ps) = LastSome (q ∷ ps)

not_in : (n k : ℕ) (rows : List Entry) → n ≢ k → In n rows → those k rows ≡ []
not_in n k rows apart h = none_under k rows (Each-weaker (λ e. first_number e.0 ≡ n) (λ e. first_number e.0 ≢ k) (λ e is at. apart (sym is ∙ at)) rows h)

none_before : (k n : ℕ) (ps : List (List Entry)) → k < n → Numbered n ps → those k (table ps) ≡ []
none_before k n [] lt h = refl
none_before k n (p ∷ ps) lt h =
    those-append k p (table ps) ∙ ap (λ (rows : List Entry). rows ++ those k (table ps)) (not_in n k p (λ e. absurd (omega (arith, lt, e))) h.0)
    ∙ none_before k (n + 1) ps (omega (arith, lt)) h.1

parts_are : (n : ℕ) (ps : List (List Entry)) → Numbered n ps → parts_from field_text (table ps) n (length ps) ≡ texts_from n ps
parts_are n [] h = refl
parts_are n (p ∷ ps) h =
    let here : those n (p ++ table ps) ≡ those n p =
    those-append n p (table ps) ∙ ap (λ (rows : List Entry). those n p ++ rows) (none_before n (n + 1) ps (omega arith) h.1) ∙ append-nil (those n p) in
    ap (λ (rows : List Entry). field_text rows ∷ parts_from field_text (p ++ table ps) (n + 1) (length ps)) here
    ∙ ap (λ (texts : List (List ℕ)). field_text (those n p) ∷ texts)
    (parts_same field_text (p ++ table ps) (table ps) (n + 1) (length ps)
    (λ k le. those-append k p (table ps) ∙ ap (λ (rows : List Entry). rows ++ those k (table ps)) (not_in n k p (λ e. absurd (omega (arith, le, e))) h.0))
    ∙ parts_are (n + 1) ps h.1)

last-append : (a b : List Entry) → last_number (a ++ b) ≡ max (last_number a) (last_number b)
last-append [] b = omega arith
last-append (e ∷ a) b = omega (arith, last-append a b)

last_low : (n : ℕ) (rows : List Entry) → In n rows → last_number rows ≤ n
last_low n [] h = omega arith
last_low n (e ∷ rows) h = omega (arith, h.0, last_low n rows h.1)

last_in : (n : ℕ) (rows : List Entry) → 0 < length rows → In n rows → last_number rows ≡ n
last_in n [] some h = absurd (omega (arith, some))
last_in n (e ∷ rows) some h = omega (arith, h.0, last_low n rows h.1)

last_is : (n : ℕ) (ps : List (List Entry)) → Numbered n ps → LastSome ps → last_number (table ps) + 1 ≡ n + length ps
last_is n [] h some = absurd some
last_is n (p ∷ []) h some = (let nil : last_number (p ++ []) ≡ last_number p = ap last_number (append-nil p) in omega (arith, nil, last_in n p some h.0))
last_is n (p ∷ q ∷ ps) h some = omega (arith, last-append p (table (q ∷ ps)), last_low n p h.0, last_is (n + 1) (q ∷ ps) h.1 some)

behind_is : (first : ℕ) (es : List Entry) → 0 < last_number es → behind_separator first es ≡ 124 ∷ fields_text first es
behind_is first [] lt = absurd (omega arith)
behind_is first (e ∷ es) lt = refl

fields_are : (n : ℕ) (ps : List (List Entry)) → 0 < n → Numbered n ps → LastSome ps → behind_separator n (table ps) ≡ 124 ∷ join_with_byte 124 (texts_from n ps)
fields_are n ps lt h some =
    let last = last_is n ps h some in
    let count : last_number (table ps) + 1 - n ≡ length ps = omega (arith, last) in
    behind_is n (table ps) (omega (arith, last, lt, filled ps some))
    ∙ ap (λ (k : ℕ). 124 ∷ join_with_byte 124 (parts_from field_text (table ps) n k)) count
    ∙ ap (λ (texts : List (List ℕ)). 124 ∷ join_with_byte 124 texts) (parts_are n ps h)
  where
    filled : (ps : List (List Entry)) → LastSome ps → 0 < length ps
    filled [] some = absurd some
    filled (p ∷ ps) some = omega arith

-- ---- the text of a field

copied_in : (n : ℕ) (es : List Entry) → In n (copied n es)
copied_in n [] = tt
copied_in n (e ∷ es) = (refl, copied_in n es)

copied_text : (n : ℕ) (es : List Entry) → field_text (those n (copied n es)) ≡ repetition_text es
copied_text n es = ap field_text (under_one es) ∙ layer-last repetition_text 126 1 es (omega arith) refl
  where
    under_one : (es : List Entry) → those n (copied n es) ≡ map (under 1) es
    under_one [] = refl
    under_one (e ∷ es) = ap (λ (front : List Entry). front ++ those n (copied n es)) (strip_same n (1 ∷ e.0) e.1) ∙ ap (λ (rest : List Entry). under 1 e ∷ rest) (under_one es)

component_in : (n comp : ℕ) (text : List ℕ) → In n (component n comp text)
component_in n comp [] = tt
component_in n comp (b ∷ text) = (refl, tt)

field_in : (n : ℕ) (parts : List (List ℕ)) → In n (field n parts)
field_in n parts = from 1 parts
  where
    from : (comp : ℕ) (parts : List (List ℕ)) → In n (components n comp parts)
    from comp [] = tt
    from comp (text ∷ parts) = Each-append (λ e. first_number e.0 ≡ n) (component n comp text) (components n (comp + 1) parts) (component_in n comp text) (from (comp + 1) parts)

stamp_text : (text : List ℕ) → field_text (those 7 (field 7 (text ∷ []))) ≡ text
stamp_text [] = refl
stamp_text (b ∷ text) = refl

type_text : (event : List ℕ) → field_text (those 9 (field 9 (codes "ACK" ∷ event ∷ codes "ACK" ∷ []))) ≡ codes "ACK^" ++ (event ++ codes "^ACK")
type_text [] = refl
type_text (b ∷ event) = refl

-- ---- MSH

cons_same : (x y : List ℕ) (xs ys : List (List ℕ)) → x ≡ y → xs ≡ ys → x ∷ xs ≡ y ∷ ys
cons_same x y xs ys e f i = e i ∷ f i

pub msh_line : (h : HeaderValue) (stamp : List ℕ) (arrival : ℕ) → closed_line (codes "MSH") (msh h stamp arrival)
    ≡ codes "MSH|^~\\&" ++ (parties h ++ (124 ∷ stamp ++ (codes "||ACK^" ++ (h.event ++ (codes "^ACK|G" ++ (decimal arrival ++ (124 ∷ repetition_text (or_production h.processing) ++ codes "|2.5.1\r")))))))
msh_line h stamp arrival =
    let ps : List (List Entry) =
    copied 3 h.receiving_application ∷ copied 4 h.receiving_facility ∷ copied 5 h.sending_application ∷ copied 6 h.sending_facility
    ∷ field 7 (stamp ∷ []) ∷ [] ∷ field 9 (codes "ACK" ∷ h.event ∷ codes "ACK" ∷ []) ∷ field 10 ((71 ∷ decimal arrival) ∷ [])
    ∷ copied 11 (or_production h.processing) ∷ field 12 (codes "2.5.1" ∷ []) ∷ [] in
    let here : Numbered 3 ps = (
      copied_in 3 h.receiving_application,
      (
        copied_in 4 h.receiving_facility,
        (
          copied_in 5 h.sending_application,
          (
            copied_in 6 h.sending_facility,
            (
              field_in 7 (stamp ∷ []),
              (
                tt,
                (
                  field_in 9 (codes "ACK" ∷ h.event ∷ codes "ACK" ∷ []),
                  (
                    field_in 10 ((71 ∷ decimal arrival) ∷ []),
                    (copied_in 11 (or_production h.processing), (field_in 12 (codes "2.5.1" ∷ []), tt)),
                  ),
                ),
              ),
            ),
          ),
        ),
      ),
    ) in
    let texts : texts_from 3 ps ≡ repetition_text h.receiving_application ∷ repetition_text h.receiving_facility ∷ repetition_text h.sending_application ∷ repetition_text h.sending_facility
    ∷ stamp ∷ [] ∷ (codes "ACK^" ++ (h.event ++ codes "^ACK")) ∷ (71 ∷ decimal arrival) ∷ repetition_text (or_production h.processing) ∷ codes "2.5.1" ∷ [] =
    cons_same _ _ _ _ (copied_text 3 h.receiving_application) (cons_same _ _ _ _ (copied_text 4 h.receiving_facility) (cons_same _ _ _ _ (copied_text 5 h.sending_application)
    (cons_same _ _ _ _ (copied_text 6 h.sending_facility) (cons_same _ _ _ _ (stamp_text stamp) (cons_same _ _ _ _ refl (cons_same _ _ _ _ (type_text h.event)
    (cons_same _ _ _ _ refl (cons_same _ _ _ _ (copied_text 11 (or_production h.processing)) refl)))))))) in
    ap (λ (l : List ℕ). codes "MSH|^~\\&" ++ (l ++ 13 ∷ [])) (fields_are 3 ps (omega arith) here (omega arith) ∙ ap (λ (ts : List (List ℕ)). 124 ∷ join_with_byte 124 ts) texts)
    ∙ parts (repetition_text h.receiving_application) (repetition_text h.receiving_facility) (repetition_text h.sending_application) (repetition_text h.sending_facility)
    stamp h.event (decimal arrival) (repetition_text (or_production h.processing))
  where
    parts : (a b c d s e n p : List ℕ)
        → codes "MSH|^~\\&" ++ ((124 ∷ join_with_byte 124 (a ∷ b ∷ c ∷ d ∷ s ∷ [] ∷ (codes "ACK^" ++ (e ++ codes "^ACK")) ∷ (71 ∷ n) ∷ p ∷ codes "2.5.1" ∷ [])) ++ 13 ∷ [])
        ≡ codes "MSH|^~\\&" ++ ((124 ∷ a ++ 124 ∷ b ++ 124 ∷ c ++ 124 ∷ d) ++ (124 ∷ s ++ (codes "||ACK^" ++ (e ++ (codes "^ACK|G" ++ (n ++ (124 ∷ p ++ codes "|2.5.1\r")))))))
    parts a b c d s e n p = simp append_assoc refl

-- the line, written piece by piece
pub msh_pieces : (h : HeaderValue) (stamp : List ℕ) (arrival : ℕ) (event number processing o p₁ p₂ p₃ p₄ p₅ p₆ p₇ p₈ p₉ : List ℕ)
    → event ≡ h.event → number ≡ decimal arrival → processing ≡ repetition_text (or_production h.processing)
    → p₁ ≡ o ++ codes "MSH|^~\\&" → p₂ ≡ p₁ ++ parties h → p₃ ≡ p₂ ++ 124 ∷ stamp → p₄ ≡ p₃ ++ codes "||ACK^" → p₅ ≡ p₄ ++ event → p₆ ≡ p₅ ++ codes "^ACK|G"
    → p₇ ≡ p₆ ++ number → p₈ ≡ p₇ ++ 124 ∷ processing → p₉ ≡ p₈ ++ codes "|2.5.1\r" → p₉ ≡ o ++ closed_line (codes "MSH") (msh h stamp arrival)
msh_pieces h stamp arrival event number processing o p₁ p₂ p₃ p₄ p₅ p₆ p₇ p₈ p₉ is_event is_number is_processing e₁ e₂ e₃ e₄ e₅ e₆ e₇ e₈ e₉ =
    joined o (codes "MSH|^~\\&") (parties h) (124 ∷ stamp) (codes "||ACK^") h.event (codes "^ACK|G") (decimal arrival) (124 ∷ repetition_text (or_production h.processing)) (codes "|2.5.1\r")
    p₁ p₂ p₃ p₄ p₅ p₆ p₇ p₈ p₉ e₁ e₂ e₃ e₄ (e₅ ∙ ap (λ (l : List ℕ). p₄ ++ l) is_event) e₆ (e₇ ∙ ap (λ (l : List ℕ). p₆ ++ l) is_number)
    (e₈ ∙ ap (λ (l : List ℕ). p₇ ++ 124 ∷ l) is_processing) e₉
    ∙ ap (λ (l : List ℕ). o ++ l) (sym (msh_line h stamp arrival))
  where
    joined : (o a b c d e f g h i p₁ p₂ p₃ p₄ p₅ p₆ p₇ p₈ p₉ : List ℕ) → p₁ ≡ o ++ a → p₂ ≡ p₁ ++ b → p₃ ≡ p₂ ++ c → p₄ ≡ p₃ ++ d → p₅ ≡ p₄ ++ e → p₆ ≡ p₅ ++ f → p₇ ≡ p₆ ++ g
        → p₈ ≡ p₇ ++ h → p₉ ≡ p₈ ++ i → p₉ ≡ o ++ (a ++ (b ++ (c ++ (d ++ (e ++ (f ++ (g ++ (h ++ i))))))))
    joined o a b c d e f g h i p₁ p₂ p₃ p₄ p₅ p₆ p₇ p₈ p₉ e₁ e₂ e₃ e₄ e₅ e₆ e₇ e₈ e₉ = rw (e₉, e₈, e₇, e₆, e₅, e₄, e₃, e₂, e₁) (simp append_assoc refl)
