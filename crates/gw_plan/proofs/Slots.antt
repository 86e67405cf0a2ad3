-- The slots of routes: what is looked up among them, and whether a route is excluded by others.
use Rattle.std.proofs.Common.{◌≡◌, ℕ, ◌+◌, List, [], ◌∷◌, ◌++◌, map, length, Option, Some, None, Bool, true, false, refl, sym, ap, ap₂, ◌∙◌, arith, eq-eqb}
use Rattle.std.specs.Prelude.{nat_eq, ◌&&◌, ◌||◌, if◌then◌else◌, bytes_eq, is_none}
use Rattle.std.specs.List.{list_any, position_from}
use Rattle.std.specs.Map.{lookup}
use Rattle.std.proofs.lemmas.List.{append_assoc, append-nil}
use Rattle.std.proofs.lemmas.List.Folds.{list_any-append}
use Rattle.std.proofs.lemmas.Slice.Eq.{bytes_eq-Decides}
use Rattle.gw_plan.specs.declared.senders.HeaderField.{HeaderField}
use Rattle.gw_plan.specs.declared.senders.HeaderField.TheVariants.{SendingApplication, SendingFacility, ReceivingApplication, ReceivingFacility, MessageProfile}
use Rattle.gw_plan.specs.Senders.{Senders, Header, field_number, are_of, says, again}
use Rattle.gw_plan.specs.Index.{Key, Slot, is_pair, is_key, ends, has_word, is_slot, slots_for, slots_of, numbered, slots_from, sooner, with_key}
use Rattle.gw_plan.proofs.Soonest.{sooner_from, same_from}

-- ---- bools

or_false : (a : Bool) → a || false ≡ a
or_false true = refl
or_false false = refl

same_any : {A : Type 0} (t u : A → Bool) (xs : List A) → ((x : A) → t x ≡ u x) → list_any t xs ≡ list_any u xs
same_any t u [] h = refl
same_any t u (x ∷ xs) h = ap₂ (λ a b. a || b) (h x) (same_any t u xs h)

-- ---- the slots of one route

module _ (code event : List ℕ) where
  -- a slot among those of words
  any_slots : (kc ke : List ℕ) (f g : ℕ) (word : List ℕ) (words : List (List ℕ))
      → list_any (is_slot code event f word) (map (λ w. record { code = kc; event = ke; field = g; word = w }) words) ≡ (bytes_eq code kc && bytes_eq event ke) && (nat_eq f g && list_any (bytes_eq word) words)
  any_slots kc ke f g word [] = by (bytes_eq code kc && bytes_eq event ke) (nat_eq f g)
    where
      by : (a b : Bool) → false ≡ a && (b && false)
      by true true = refl
      by true false = refl
      by false b = refl
  any_slots kc ke f g word (w ∷ words) = by (bytes_eq code kc && bytes_eq event ke) (nat_eq f g) (bytes_eq word w) (list_any (bytes_eq word) words) _ (any_slots kc ke f g word words)
    where
      by : (a b c d e : Bool) → e ≡ a && (b && d) → (a && (b && c)) || e ≡ a && (b && (c || d))
      by true true true d e h = refl
      by true true false d e h = h
      by true false c d e h = h
      by false b c d e h = h

  -- what is left of its code and event
  pub rest_slot : (k : Key) → list_any (is_slot code event 0 []) (slots_of k) ≡ ends code event k
  rest_slot k = by k.senders
    where
      of_none : (b : Bool) → (b && true) || false ≡ b && true
      of_none true = refl
      of_none false = refl

      of_some : (f : HeaderField) (words : List (List ℕ)) → list_any (is_slot code event 0 []) (slots_for k.code k.event (Some (record { field = f; words = words }))) ≡ is_pair code event k && false
      of_some SendingApplication words = any_slots k.code k.event 0 3 [] words
      of_some SendingFacility words = any_slots k.code k.event 0 4 [] words
      of_some ReceivingApplication words = any_slots k.code k.event 0 5 [] words
      of_some ReceivingFacility words = any_slots k.code k.event 0 6 [] words
      of_some MessageProfile words = any_slots k.code k.event 0 21 [] words

      by : (s : Option Senders) → list_any (is_slot code event 0 []) (slots_for k.code k.event s) ≡ is_pair code event k && is_none s
      by None = of_none (is_pair code event k)
      by (Some s) = of_some s.field s.words

  -- a word of its senders
  pub word_slot : (f : HeaderField) (word : List ℕ) (k : Key) → list_any (is_slot code event (field_number f) word) (slots_of k) ≡ is_pair code event k && says f word k.senders
  word_slot f word k = by k.senders
    where
      of_none : (a b : Bool) → (a && (false && b)) || false ≡ a && false
      of_none true b = refl
      of_none false b = refl

      none_by : (f : HeaderField) → list_any (is_slot code event (field_number f) word) (slots_for k.code k.event None) ≡ is_pair code event k && false
      none_by SendingApplication = of_none (is_pair code event k) (bytes_eq word [])
      none_by SendingFacility = of_none (is_pair code event k) (bytes_eq word [])
      none_by ReceivingApplication = of_none (is_pair code event k) (bytes_eq word [])
      none_by ReceivingFacility = of_none (is_pair code event k) (bytes_eq word [])
      none_by MessageProfile = of_none (is_pair code event k) (bytes_eq word [])

      by : (s : Option Senders) → list_any (is_slot code event (field_number f) word) (slots_for k.code k.event s) ≡ is_pair code event k && says f word s
      by None = none_by f
      by (Some s) = any_slots k.code k.event (field_number f) (field_number s.field) word s.words

-- whether it takes a message, slot by slot
first_of : (a x : Bool) → (a && false) || ((a && (true && x)) || ((a && false) || ((a && false) || ((a && false) || (a && false))))) ≡ a && x
first_of true true = refl
first_of true false = refl
first_of false x = refl

second_of : (a x : Bool) → (a && false) || ((a && false) || ((a && (true && x)) || ((a && false) || ((a && false) || (a && false))))) ≡ a && x
second_of true true = refl
second_of true false = refl
second_of false x = refl

third_of : (a x : Bool) → (a && false) || ((a && false) || ((a && false) || ((a && (true && x)) || ((a && false) || (a && false))))) ≡ a && x
third_of true true = refl
third_of true false = refl
third_of false x = refl

fourth_of : (a x : Bool) → (a && false) || ((a && false) || ((a && false) || ((a && false) || ((a && (true && x)) || (a && false))))) ≡ a && x
fourth_of true true = refl
fourth_of true false = refl
fourth_of false x = refl

fifth_of : (a x : Bool) → (a && false) || ((a && false) || ((a && false) || ((a && false) || ((a && false) || (a && (true && x)))))) ≡ a && x
fifth_of true true = refl
fifth_of true false = refl
fifth_of false x = refl

rest_of : (a : Bool) → (a && true) || ((a && false) || ((a && false) || ((a && false) || ((a && false) || (a && false))))) ≡ a && true
rest_of true = refl
rest_of false = refl

abbrev any_of_six : Bool → Bool → Bool → Bool → Bool → Bool → Bool
any_of_six a b c d e f = a || (b || (c || (d || (e || f))))

module _ (code event : List ℕ) (h : Header) where
  by_field : (a : Bool) (s : Option Senders)
      → any_of_six (a && is_none s) (a && says SendingApplication (h SendingApplication) s) (a && says SendingFacility (h SendingFacility) s) (a && says ReceivingApplication (h ReceivingApplication) s)
      (a && says ReceivingFacility (h ReceivingFacility) s) (a && says MessageProfile (h MessageProfile) s)
      ≡ a && are_of h s
  by_field a None = rest_of a
  by_field a (Some s) = by s.field s.words
    where
      by : (f : HeaderField) (words : List (List ℕ))
          → any_of_six (a && false) (a && (nat_eq 3 (field_number f) && list_any (bytes_eq (h SendingApplication)) words)) (a && (nat_eq 4 (field_number f) && list_any (bytes_eq (h SendingFacility)) words))
          (a && (nat_eq 5 (field_number f) && list_any (bytes_eq (h ReceivingApplication)) words)) (a && (nat_eq 6 (field_number f) && list_any (bytes_eq (h ReceivingFacility)) words))
          (a && (nat_eq 21 (field_number f) && list_any (bytes_eq (h MessageProfile)) words))
          ≡ a && list_any (bytes_eq (h f)) words
      by SendingApplication words = first_of a (list_any (bytes_eq (h SendingApplication)) words)
      by SendingFacility words = second_of a (list_any (bytes_eq (h SendingFacility)) words)
      by ReceivingApplication words = third_of a (list_any (bytes_eq (h ReceivingApplication)) words)
      by ReceivingFacility words = fourth_of a (list_any (bytes_eq (h ReceivingFacility)) words)
      by MessageProfile words = fifth_of a (list_any (bytes_eq (h MessageProfile)) words)

  abbrev has : ℕ → List ℕ → Key → Bool
  has f word k = list_any (is_slot code event f word) (slots_of k)

  by_slot : (k : Key)
      → any_of_six (has 0 [] k) (has 3 (h SendingApplication) k) (has 4 (h SendingFacility) k) (has 5 (h ReceivingApplication) k) (has 6 (h ReceivingFacility) k) (has 21 (h MessageProfile) k)
      ≡ is_key code event h k
  by_slot k =
      ap₂ (λ a b. a || b) (rest_slot code event k)
      (ap₂ (λ a b. a || b) (word_slot code event SendingApplication (h SendingApplication) k)
      (ap₂ (λ a b. a || b) (word_slot code event SendingFacility (h SendingFacility) k)
      (ap₂ (λ a b. a || b) (word_slot code event ReceivingApplication (h ReceivingApplication) k)
      (ap₂ (λ a b. a || b) (word_slot code event ReceivingFacility (h ReceivingFacility) k) (word_slot code event MessageProfile (h MessageProfile) k)))))
      ∙ by_field (is_pair code event k) k.senders

  pub by_place : (keys : List Key)
      → sooner (position_from (has 0 []) 0 keys) (sooner (position_from (has 3 (h SendingApplication)) 0 keys) (sooner (position_from (has 4 (h SendingFacility)) 0 keys)
      (sooner (position_from (has 5 (h ReceivingApplication)) 0 keys) (sooner (position_from (has 6 (h ReceivingFacility)) 0 keys) (position_from (has 21 (h MessageProfile)) 0 keys)))))
      ≡ position_from (is_key code event h) 0 keys
  by_place keys =
      ap (sooner (position_from (has 0 []) 0 keys))
      (ap (sooner (position_from (has 3 (h SendingApplication)) 0 keys))
      (ap (sooner (position_from (has 4 (h SendingFacility)) 0 keys))
      (ap (sooner (position_from (has 5 (h ReceivingApplication)) 0 keys)) (sym (sooner_from (has 6 (h ReceivingFacility)) (has 21 (h MessageProfile)) 0 keys))
      ∙ sym (sooner_from (has 5 (h ReceivingApplication)) (λ k. has 6 (h ReceivingFacility) k || has 21 (h MessageProfile) k) 0 keys))
      ∙ sym (sooner_from (has 4 (h SendingFacility)) (λ k. has 5 (h ReceivingApplication) k || (has 6 (h ReceivingFacility) k || has 21 (h MessageProfile) k)) 0 keys))
      ∙ sym (sooner_from (has 3 (h SendingApplication)) (λ k. has 4 (h SendingFacility) k || (has 5 (h ReceivingApplication) k || (has 6 (h ReceivingFacility) k || has 21 (h MessageProfile) k))) 0 keys))
      ∙ sym (sooner_from (has 0 []) (λ k. has 3 (h SendingApplication) k || (has 4 (h SendingFacility) k || (has 5 (h ReceivingApplication) k || (has 6 (h ReceivingFacility) k || has 21 (h MessageProfile) k)))) 0 keys)
      ∙ same_from _ (is_key code event h) 0 keys by_slot

-- ---- the slots of all routes

numbered_lookup : (t : Slot → Bool) (n : ℕ) (slots : List Slot) (more : List (Slot × ℕ)) → lookup t (numbered n slots ++ more) ≡ (if list_any t slots then Some n else lookup t more)
numbered_lookup t n [] more = refl
numbered_lookup t n (s ∷ slots) more = by (t s) (numbered_lookup t n slots more)
  where
    by : (b : Bool) → lookup t (numbered n slots ++ more) ≡ (if list_any t slots then Some n else lookup t more)
        → (if b then Some n else lookup t (numbered n slots ++ more)) ≡ (if b || list_any t slots then Some n else lookup t more)
    by true h = refl
    by false h = h

pub slot_place : (t : Slot → Bool) (n : ℕ) (keys : List Key) → lookup t (slots_from n keys) ≡ position_from (λ k. list_any t (slots_of k)) n keys
slot_place t n [] = refl
slot_place t n (k ∷ keys) = numbered_lookup t n (slots_of k) (slots_from (n + 1) keys) ∙ ap (λ o. if list_any t (slots_of k) then Some n else o) (slot_place t (n + 1) keys)

-- a slot that is looked up is that of the first route that has it
pub probed : (code event : List ℕ) (keys : List Key) (n f : ℕ) (word : List ℕ) (r : Option ℕ) → r ≡ lookup (is_slot code event n word) (slots_from 0 keys) → n ≡ f
    → r ≡ position_from (λ k. list_any (is_slot code event f word) (slots_of k)) 0 keys
probed code event keys n f word r e same = e ∙ ap (λ m. lookup (is_slot code event m word) (slots_from 0 keys)) same ∙ slot_place (is_slot code event f word) 0 keys

numbered_any : (t : Slot → Bool) (n : ℕ) (slots : List Slot) → list_any (λ s. t s.0) (numbered n slots) ≡ list_any t slots
numbered_any t n [] = refl
numbered_any t n (s ∷ slots) = ap (λ b. t s || b) (numbered_any t n slots)

pub any_slot : (t : Slot → Bool) (n : ℕ) (keys : List Key) → list_any (λ s. t s.0) (slots_from n keys) ≡ list_any (λ k. list_any t (slots_of k)) keys
any_slot t n [] = refl
any_slot t n (k ∷ keys) =
    list_any-append (λ (s : Slot × ℕ). t s.0) (numbered n (slots_of k)) (slots_from (n + 1) keys) ∙ ap₂ (λ a b. a || b) (numbered_any t n (slots_of k)) (any_slot t (n + 1) keys)

-- the slots of one route more
pub slots_more : (n : ℕ) (keys : List Key) (key : Key) → slots_from n (with_key key keys) ≡ slots_from n keys ++ numbered (n + length keys) (slots_of key)
slots_more n [] key = append-nil (numbered n (slots_of key)) ∙ ap (λ m. numbered m (slots_of key)) (omega arith)
slots_more n (k ∷ keys) key =
    ap (λ l. numbered n (slots_of k) ++ l) (slots_more (n + 1) keys key) ∙ sym (append_assoc (numbered n (slots_of k)) (slots_from (n + 1) keys) (numbered (n + 1 + length keys) (slots_of key)))
    ∙ ap (λ m. (numbered n (slots_of k) ++ slots_from (n + 1) keys) ++ numbered m (slots_of key)) (omega arith)

-- ---- what excludes a route

module _ (code event : List ℕ) (keys : List Key) where
  pub any_rest : list_any (λ s. is_slot code event 0 [] s.0) (slots_from 0 keys) ≡ list_any (ends code event) keys
  any_rest = any_slot (is_slot code event 0 []) 0 keys ∙ same_any (λ k. list_any (is_slot code event 0 []) (slots_of k)) (ends code event) keys (rest_slot code event)

  any_word : (s : Senders) (word : List ℕ) → list_any (λ t. is_slot code event (field_number s.field) word t.0) (slots_from 0 keys) ≡ list_any (has_word code event s word) keys
  any_word s word =
      any_slot (is_slot code event (field_number s.field) word) 0 keys
      ∙ same_any (λ k. list_any (is_slot code event (field_number s.field) word) (slots_of k)) (has_word code event s word) keys (word_slot code event s.field word)

same_again : (t u : List ℕ → Bool) (words : List (List ℕ)) → ((w : List ℕ) → t w ≡ u w) → again t words ≡ again u words
same_again t u [] h = refl
same_again t u (w ∷ words) h = ap₂ (λ a b. a || (list_any (bytes_eq w) words || b)) (h w) (same_again t u words h)

pub again_slots : (code event : List ℕ) (s : Senders) (keys : List Key)
    → again (λ word. list_any (λ t. is_slot code event (field_number s.field) word t.0) (slots_from 0 keys)) s.words ≡ again (λ word. list_any (has_word code event s word) keys) s.words
again_slots code event s keys = same_again _ _ s.words (any_word code event keys s)

-- ---- words in turn

same_either : (one other : List ℕ) → bytes_eq one other ≡ bytes_eq other one
same_either one other = by (bytes_eq one other) (bytes_eq other one) refl refl
  where
    by : (a b : Bool) → bytes_eq one other ≡ a → bytes_eq other one ≡ b → a ≡ b
    by true true e f = refl
    by false false e f = refl
    by true false e f = sym ((bytes_eq-Decides other one).1 (sym ((bytes_eq-Decides one other).0 e))) ∙ f
    by false true e f = sym e ∙ (bytes_eq-Decides one other).1 (sym ((bytes_eq-Decides other one).0 f))

-- a word that was put is a word that is taken
again_put : (t : List ℕ → Bool) (w : List ℕ) (words : List (List ℕ)) → again (λ v. t v || bytes_eq v w) words ≡ list_any (bytes_eq w) words || again t words
again_put t w [] = refl
again_put t w (v ∷ words) = by (t v) (bytes_eq v w) (bytes_eq w v) (list_any (bytes_eq v) words) (list_any (bytes_eq w) words) (again t words) _ (same_either v w) (again_put t w words)
  where
    by : (a b c d e f g : Bool) → b ≡ c → g ≡ e || f → (a || b) || (d || g) ≡ (c || e) || (a || (d || f))
    by true true true d e f g h k = refl
    by true true false d e f g h k = absurd (cc)
    by true false true d e f g h k = absurd (cc)
    by true false false d true f g h k = refl
    by true false false d false f g h k = refl
    by false true true d e f g h k = refl
    by false true false d e f g h k = absurd (cc)
    by false false true d e f g h k = absurd (cc)
    by false false false true true f g h k = refl
    by false false false true false f g h k = refl
    by false false false false e f g h k = k

module _ (code event : List ℕ) (field number : ℕ) where
  abbrev pub slot_of : List ℕ → Slot × ℕ
  slot_of word = (record { code = code; event = event; field = field; word = word }, number)

  abbrev pub taken_by : List (Slot × ℕ) → List ℕ → Bool
  taken_by slots word = list_any (λ t. is_slot code event field word t.0) slots

  it_is : (word w : List ℕ) → is_slot code event field word (slot_of w).0 ≡ bytes_eq word w
  it_is word w =
      ap₂ (λ a b. (a && b) && (nat_eq field field && bytes_eq word w)) ((bytes_eq-Decides code code).1 refl) ((bytes_eq-Decides event event).1 refl)
      ∙ ap (λ a. a && bytes_eq word w) (eq-eqb field field refl)

  more_taken : (slots : List (Slot × ℕ)) (w word : List ℕ) → taken_by (slots ++ slot_of w ∷ []) word ≡ taken_by slots word || bytes_eq word w
  more_taken slots w word =
      list_any-append (λ (t : Slot × ℕ). is_slot code event field word t.0) slots (slot_of w ∷ []) ∙ ap (λ b. taken_by slots word || b) (or_false _ ∙ it_is word w)

  -- what is left to be tested, behind a word that isn't taken
  pub left_on : (slots : List (Slot × ℕ)) (w : List ℕ) (words : List (List ℕ)) → taken_by slots w ≡ false → again (λ v. taken_by (slots ++ slot_of w ∷ []) v) words ≡ again (λ v. taken_by slots v) (w ∷ words)
  left_on slots w words new =
      same_again _ (λ v. taken_by slots v || bytes_eq v w) words (more_taken slots w) ∙ again_put (taken_by slots) w words
      ∙ sym (ap (λ b. b || (list_any (bytes_eq w) words || again (taken_by slots) words)) new)

  pub slots_are : (words : List (List ℕ)) → numbered number (map (λ word. record { code = code; event = event; field = field; word = word }) words) ≡ map slot_of words
  slots_are [] = refl
  slots_are (w ∷ words) = ap (λ l. slot_of w ∷ l) (slots_are words)
