-- Which fault a content has.
use Rattle.std.proofs.Common.{◌≡◌, ℕ, ◌<◌, ◌≤◌, true, false, not, List, [], ◌∷◌, length, drop, Option, None, Some, refl, sym, ap, ◌∙◌, arith}
use Rattle.std.proofs.lemmas.Bool.{true≢false}
use Rattle.std.specs.Prelude.{◌==◌, if◌then◌else◌, unwrap_or, position}
use Rattle.gw_er7.specs.declared.fault.ReadFault.{ReadFault}
use Rattle.gw_er7.specs.declared.fault.ReadFault.TheVariants.{Memory, Empty, Control, NoHeader, BadDelimiters, BadSegment, TooManySegments}
use Rattle.gw_er7.specs.Content.{Line, lines, is_allowed, is_delimited, delimiters_of, first_bad, header_line}
use Rattle.gw_er7.specs.Names.{is_header}
use Rattle.gw_er7.specs.Faults.{Applies, Faulty, IsReadable}
use Rattle.gw_er7.specs.Numbers.{number}

-- no fault below a number applies, where each of them was tested
passed : (content : List ℕ) (n : ℕ) → (2 < n → ¬ (Applies content Empty)) → (3 < n → (at : ℕ) → ¬ (Applies content (Control at))) → (4 < n → ¬ (Applies content NoHeader)) → (5 < n → ¬ (Applies content BadDelimiters))
    → (6 < n → (at : ℕ) → ¬ (Applies content (BadSegment at))) → (7 < n → ¬ (Applies content TooManySegments)) → (other : ReadFault) → number other < n → ¬ (Applies content other)
passed content n two three four five six seven Memory lt h = h
passed content n two three four five six seven Empty lt h = two lt h
passed content n two three four five six seven (Control at) lt h = three lt at h
passed content n two three four five six seven NoHeader lt h = four lt h
passed content n two three four five six seven BadDelimiters lt h = five lt h
passed content n two three four five six seven (BadSegment at) lt h = six lt at h
passed content n two three four five six seven TooManySegments lt h = seven lt h

-- what was found at the tests, one after the other
pub record HasLine (content : List ℕ) (header : Line) (ls : List Line) : Type 0 where
  pub all : lines content ≡ header ∷ ls

pub record HasNoControl (content : List ℕ) : Type 0 where
  pub none : position (λ b. not (is_allowed b)) content ≡ None

module _ {content : List ℕ} {header : Line} {ls : List Line} (has : HasLine content header ls) where
  not_empty : ¬ (Applies content Empty)
  not_empty h = let e : header ∷ ls ≡ [] = sym has.all ∙ h in absurd (let z : ⊥ = cc in z)

  head_is : header_line (lines content) ≡ header.bytes
  head_is = ap header_line has.all

  later_is : drop 1 (lines content) ≡ ls
  later_is = ap (drop 1) has.all

  not_control : HasNoControl content → (at : ℕ) → ¬ (Applies content (Control at))
  not_control clean at h = let e = sym clean.none ∙ h in absurd (let z : ⊥ = cc in z)

  not_headless : is_header header.bytes ≡ true → ¬ (Applies content NoHeader)
  not_headless is h = true≢false (sym is ∙ sym (ap is_header head_is) ∙ h)

  not_bad : is_delimited header.bytes ≡ true → ¬ (Applies content BadDelimiters)
  not_bad is h = true≢false (sym is ∙ sym (ap is_delimited head_is) ∙ h)

  bad_is : first_bad (delimiters_of (header_line (lines content))).field (drop 1 (lines content)) ≡ first_bad (delimiters_of header.bytes).field ls
  bad_is = ap (λ (line : List ℕ). first_bad (delimiters_of line).field (drop 1 (lines content))) head_is ∙ ap (first_bad (delimiters_of header.bytes).field) later_is

  not_broken : first_bad (delimiters_of header.bytes).field ls ≡ None → (at : ℕ) → ¬ (Applies content (BadSegment at))
  not_broken none at h = let e = sym none ∙ sym bad_is ∙ h in absurd (let z : ⊥ = cc in z)

  pub a_control : (at : ℕ) → position (λ b. not (is_allowed b)) content ≡ Some at → Faulty content (Control at)
  a_control at e = record {
    applies = e;
    first = passed content 3 (λ lt. not_empty) (λ lt. absurd (omega arith)) (λ lt. absurd (omega arith)) (λ lt. absurd (omega arith)) (λ lt. absurd (omega arith)) (λ lt. absurd (omega arith));
  }

  pub no_header : HasNoControl content → is_header header.bytes ≡ false → Faulty content NoHeader
  no_header clean e = record {
    applies = ap is_header head_is ∙ e;
    first = passed content 4 (λ lt. not_empty) (λ lt. not_control clean) (λ lt. absurd (omega arith)) (λ lt. absurd (omega arith)) (λ lt. absurd (omega arith)) (λ lt. absurd (omega arith));
  }

  pub bad_delimiters : HasNoControl content → is_header header.bytes ≡ true → is_delimited header.bytes ≡ false → Faulty content BadDelimiters
  bad_delimiters clean is e = record {
    applies = ap is_delimited head_is ∙ e;
    first = passed content 5 (λ lt. not_empty) (λ lt. not_control clean) (λ lt. not_headless is) (λ lt. absurd (omega arith)) (λ lt. absurd (omega arith)) (λ lt. absurd (omega arith));
  }

  pub bad_segment : HasNoControl content → is_header header.bytes ≡ true → is_delimited header.bytes ≡ true → (at : ℕ) → first_bad (delimiters_of header.bytes).field ls ≡ Some at → Faulty content (BadSegment at)
  bad_segment clean is cut at e = record {
    applies = bad_is ∙ e;
    first = passed content 6 (λ lt. not_empty) (λ lt. not_control clean) (λ lt. not_headless is) (λ lt. not_bad cut) (λ lt. absurd (omega arith)) (λ lt. absurd (omega arith));
  }

  pub too_many : HasNoControl content → is_header header.bytes ≡ true → is_delimited header.bytes ≡ true → first_bad (delimiters_of header.bytes).field ls ≡ None → 10000 ≤ length ls → Faulty content TooManySegments
  too_many clean is cut none many = record {
    applies = omega (arith, ap length has.all);
    first = passed content 7 (λ lt. not_empty) (λ lt. not_control clean) (λ lt. not_headless is) (λ lt. not_bad cut) (λ lt. not_broken none) (λ lt. absurd (omega arith));
  }

  -- the same, whatever the number of lines
  pub but_many : HasNoControl content → is_header header.bytes ≡ true → is_delimited header.bytes ≡ true → first_bad (delimiters_of header.bytes).field ls ≡ None → (fault : ReadFault) → number fault < 7 → ¬ (Applies content fault)
  but_many clean is cut none fault lt = passed content 7 (λ lt. not_empty) (λ lt. not_control clean) (λ lt. not_headless is) (λ lt. not_bad cut) (λ lt. not_broken none) (λ lt. absurd (omega arith)) fault lt

  pub readable : HasNoControl content → is_header header.bytes ≡ true → is_delimited header.bytes ≡ true → first_bad (delimiters_of header.bytes).field ls ≡ None → length ls < 10000 → IsReadable content
  readable clean is cut none few fault =
      passed content 8 (λ lt. not_empty) (λ lt. not_control clean) (λ lt. not_headless is) (λ lt. not_bad cut) (λ lt. not_broken none) (λ lt many. absurd (omega (arith, ap length has.all))) fault (below fault)
    where
      below : (fault : ReadFault) → number fault < 8
      below Memory = omega arith
      below Empty = omega arith
      below (Control at) = omega arith
      below NoHeader = omega arith
      below BadDelimiters = omega arith
      below (BadSegment at) = omega arith
      below TooManySegments = omega arith

pub no_lines : (content : List ℕ) → lines content ≡ [] → Faulty content Empty
no_lines content e = record {
  applies = e;
  first = passed content 2 (λ lt. absurd (omega arith)) (λ lt. absurd (omega arith)) (λ lt. absurd (omega arith)) (λ lt. absurd (omega arith)) (λ lt. absurd (omega arith)) (λ lt. absurd (omega arith));
}

-- ---- a content has one fault

-- the fault with a number, at the place that the content gives it
abbrev told : List ℕ → ℕ → ReadFault
told content n =
    if n == 2 then Empty else if n == 3 then Control (unwrap_or (position (λ b. not (is_allowed b)) content) 0) else if n == 4 then NoHeader
    else if n == 5 then BadDelimiters else if n == 6 then BadSegment (unwrap_or (first_bad (delimiters_of (header_line (lines content))).field (drop 1 (lines content))) 0)
    else TooManySegments

is_told : (content : List ℕ) (f : ReadFault) → Applies content f → told content (number f) ≡ f
is_told content Memory h = absurd h
is_told content Empty h = refl
is_told content (Control at) h = ap (λ (o : Option ℕ). Control (unwrap_or o 0)) h
is_told content NoHeader h = refl
is_told content BadDelimiters h = refl
is_told content (BadSegment at) h = ap (λ (o : Option ℕ). BadSegment (unwrap_or o 0)) h
is_told content TooManySegments h = refl

pub one_fault : (content : List ℕ) (f g : ReadFault) → Faulty content f → Faulty content g → f ≡ g
one_fault content f g a b =
    let not_less : number f < number g → ⊥ = λ lt. b.first f lt a.applies in
    let not_more : number g < number f → ⊥ = λ lt. a.first g lt b.applies in
    let same : number f ≡ number g = omega (arith, not_less, not_more) in
    sym (is_told content f a.applies) ∙ ap (told content) same ∙ is_told content g b.applies
