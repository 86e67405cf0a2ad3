-- The first line of a text that a form accepts.
use Rattle.std.proofs.Common.{◌≡◌, ◌⊎◌, inl, inr, ℕ, ◌+◌, Bool, true, false, List, [], ◌∷◌, ◌++◌, reverse, Option, Some, None, Result, Ok, Err, refl, sym, ap, ◌∙◌}
use Rattle.std.specs.Prelude.{if◌then◌else◌, IfSome}
use Rattle.std.proofs.lemmas.List.{reverse-append}
use Rattle.gw_lines.specs.Words.{Word, words}
use Rattle.gw_lines.specs.Reading.{adding, added, accepted, with_line, with_lines, ◌>>=◌}
use Rattle.gw_lines.specs.Grammar.{Grammar, takes}
use Rattle.gw_lines.proofs.Taken.{accepted_keeps}
use Rattle.gw_plan.specs.Inner.{first_said, said_or}

-- the first line that isn't passed over, with the words that spell it
pub record First {L E : Type 0} (g : Grammar L E) (n : ℕ) (text : List (List ℕ)) (all : List L) : Type 0 where
  pub number : ℕ
  pub at : ℕ
  pub spelling : List Word
  pub line : L
  pub others : List L
  pub said : first_said n text ≡ Some (number, spelling)
  pub taken : takes g [] at spelling ≡ Ok line
  pub all_are : all ≡ others ++ line ∷ []

-- the last line stays the last
abbrev Stays : {L : Type 0} → L → List L → Type 0
Stays {L} line all = (others : List L) × (all ≡ others ++ line ∷ [])

first_stays : {L E : Type 0} (g : Grammar L E) (broken : ℕ → E) (m : ℕ) (text : List (List ℕ)) (line : L) (all : List L) → accepted broken (takes g) (line ∷ []) m text ≡ Ok all → Stays line all
first_stays {L} {E} g broken m text line all e =
    accepted_keeps (takes g) broken (Stays line) (λ above at bytes ws l w t q. (l ∷ q.0, ap (λ ls. l ∷ ls) q.1)) (line ∷ []) m text all ([], refl) e

-- none is said, or the first is taken
pub first_taken : {L E : Type 0} (g : Grammar L E) (broken : ℕ → E) (n m : ℕ) (text : List (List ℕ)) (all : List L) → accepted broken (takes g) [] m text ≡ Ok all → (all ≡ []) ⊎ First g n text all
first_taken g broken n m [] all e = inl (let same : [] ≡ all = cc in sym same)
first_taken {L} {E} g broken n m (bytes ∷ text) all e = by (words bytes) refl (first_taken g broken (n + 1) (m + 1) text all) e
  where
    goes_on : words bytes ≡ Some [] → (all ≡ []) ⊎ First g (n + 1) text all → (all ≡ []) ⊎ First g n (bytes ∷ text) all
    goes_on w (inl none) = inl none
    goes_on w (inr f) = inr (record {
      number = f.number;
      at = f.at;
      spelling = f.spelling;
      line = f.line;
      others = f.others;
      said = ap (λ o. said_or n o (first_said (n + 1) text)) w ∙ f.said;
      taken = f.taken;
      all_are = f.all_are;
    })

    starts : (v : Word) (ws : List Word) → words bytes ≡ Some (v ∷ ws) → (r : Result L E) → takes g [] m (v ∷ ws) ≡ r
        → (added [] r >>= λ next. with_lines broken (adding (takes g)) next (m + 1) text) ≡ Ok all → (all ≡ []) ⊎ First g n (bytes ∷ text) all
    starts v ws w (Err x) t e = absurd (cc)
    starts v ws w (Ok line) t e =
        let s = first_stays g broken (m + 1) text line all e in
        inr (record {
          number = n;
          at = m;
          spelling = v ∷ ws;
          line = line;
          others = s.0;
          said = ap (λ o. said_or n o (first_said (n + 1) text)) w;
          taken = t;
          all_are = s.1;
        })

    by : (o : Option (List Word)) → words bytes ≡ o → (accepted broken (takes g) [] (m + 1) text ≡ Ok all → (all ≡ []) ⊎ First g (n + 1) text all)
        → (with_line (broken m) (adding (takes g)) [] m o >>= λ next. with_lines broken (adding (takes g)) next (m + 1) text) ≡ Ok all → (all ≡ []) ⊎ First g n (bytes ∷ text) all
    by None w next e = absurd (cc)
    by (Some []) w next e = goes_on w (next e)
    by (Some (v ∷ ws)) w next e = starts v ws w (takes g [] m (v ∷ ws)) refl e

pub turned : {L : Type 0} (others : List L) (line : L) → reverse (others ++ line ∷ []) ≡ line ∷ reverse others
turned others line = reverse-append others (line ∷ [])

-- what the words behind a keyword say, where it stands there, or what else is said
pub keyword_gives : {A : Type 0} (P : A → Type 0) (b : Bool) (x y : Option A) → (b ≡ true → IfSome x P) → IfSome y P → IfSome (if b then x else y) P
keyword_gives P true x y h k = h refl
keyword_gives P false x y h k = k
