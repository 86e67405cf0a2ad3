-- Words that are added in turn for one route.
use Rattle.std.proofs.Common.{◌≡◌, ℕ, suc, ◌+◌, ◌<◌, ◌≤◌, List, [], ◌∷◌, ◌++◌, map, length, take, drop, drop-cons, get_or, Option, Some, None, Result, Ok, Err, Bool, true, false, refl, sym, ap, ◌∙◌, subst, arith}
use Rattle.std.specs.Prelude.{IfOk, OnOk, not, is_some, ◌||◌, bytes_eq}
use Rattle.std.specs.List.{list_any, AllByRecursion}
use Rattle.std.specs.Map.{lookup, keys_of}
use Rattle.std.specs.Global.{Vec}
use Rattle.std.proofs.lemmas.List.{append_assoc, map-append, take_more, take-map, drop-map, take_all, drop_all}
use Rattle.std.proofs.lemmas.Map.Made.{is_some-lookup}
use denote.Ref.{Bor}
use Rattle.gw_plan.specs.declared.index.Index.{Index}
use Rattle.gw_plan.specs.Senders.{Senders, again}
use Rattle.gw_plan.specs.Index.{Key, Slot, at, has_word, is_slot, slots_for, slots_from, numbered, with_key, AreFound, IsPair, IsBeside, IsKnown, Indexes, Numbers, Adds, AddsAll, Joins}
use Rattle.gw_plan.specs.Seen.{now_all}
use Rattle.gw_plan.proofs.Slots.{slot_of, taken_by, left_on, slots_are, slots_more, any_rest, again_slots}

-- the first of the words are added, and none of them is said again
pub record SoFar (new : Index) (pair : ℕ × ℕ) (code event : List ℕ) (field number : ℕ) (words : List (List ℕ)) (i : ℕ) (slots : List (Slot × ℕ)) : Type 0 where
  pub found : AreFound new (slots ++ map (slot_of code event field number) (take i words))
  pub is_pair : IsPair new pair code event
  pub left : again (λ v. taken_by code event field number (slots ++ map (slot_of code event field number) (take i words)) v) (drop i words) ≡ again (λ v. taken_by code event field number slots v) words

pub record Adding (old new : Index) (pair : ℕ × ℕ) (field number : ℕ) (words : List (List ℕ)) (i : ℕ) : Type 0 where
  pub beside : IsBeside old new
  pub so_far : (slots : List (Slot × ℕ)) (code event : List ℕ) → AreFound old slots → IsPair old pair code event → SoFar new pair code event field number words i slots

-- ---- one word more

not_true : (b : Bool) → true ≡ not b → b ≡ false
not_true true e = absurd (cc)
not_true false e = refl

not_false : (b : Bool) → false ≡ not b → b ≡ true
not_false true e = refl
not_false false e = absurd (cc)

pub now_take : (items : List (Bor (List ℕ))) (i : ℕ) (w : Bor (List ℕ)) → i < length items → take (i + 1) (now_all items) ≡ take i (now_all items) ++ (get_or items i w).now ∷ []
now_take items i w low =
    take-map (λ (b : Bor (List ℕ)). b.now) (i + 1) items ∙ ap now_all (take_more items i w low) ∙ map-append (λ (b : Bor (List ℕ)). b.now) (take i items) (get_or items i w ∷ [])
    ∙ ap (λ l. l ++ (get_or items i w).now ∷ []) (sym (take-map (λ (b : Bor (List ℕ)). b.now) i items))

pub now_drop : (items : List (Bor (List ℕ))) (i : ℕ) (w : Bor (List ℕ)) → i < length items → drop i (now_all items) ≡ (get_or items i w).now ∷ drop (i + 1) (now_all items)
now_drop items i w low =
    let index : suc i ≡ i + 1 = omega arith in
    drop-map (λ (b : Bor (List ℕ)). b.now) i items ∙ ap now_all (drop-cons items i w low)
    ∙ ap (λ l. (get_or items i w).now ∷ l) (ap (λ k. now_all (drop k items)) index ∙ sym (drop-map (λ (b : Bor (List ℕ)). b.now) (i + 1) items))

module _ (old now next : Index) (pair : ℕ × ℕ) (field number : ℕ) (words : List (List ℕ)) (i : ℕ) (word : List ℕ) (added : Bool) (dr : drop i words ≡ word ∷ drop (i + 1) words)
    (a : Adding old now pair field number words i)
    (adds : (slots : List (Slot × ℕ)) (code event : List ℕ) → AreFound now slots → IsPair now pair code event → Adds slots (record { code = code; event = event; field = field; word = word }) number next added) where
  module _ (slots : List (Slot × ℕ)) (code event : List ℕ) (z : AreFound old slots) (p : IsPair old pair code event) where
    abbrev before : List (Slot × ℕ)
    before = slots ++ map (slot_of code event field number) (take i words)

    put : Adds before (record { code = code; event = event; field = field; word = word }) number next added
    put = adds before code event (a.so_far slots code event z p).found (a.so_far slots code event z p).is_pair

    rest : again (λ v. taken_by code event field number before v) (word ∷ drop (i + 1) words) ≡ again (λ v. taken_by code event field number slots v) words
    rest = sym (ap (λ ws. again (λ v. taken_by code event field number before v) ws) dr) ∙ (a.so_far slots code event z p).left

    pub refused : added ≡ false → false ≡ not (again (λ v. taken_by code event field number slots v) words)
    refused e =
        let taken : taken_by code event field number before word ≡ true = not_false _ (sym e ∙ put.fresh) in
        ap not (sym (ap (λ b. b || (list_any (bytes_eq word) (drop (i + 1) words) || again (λ v. taken_by code event field number before v) (drop (i + 1) words))) taken) ∙ rest)

  module _ (tk : take (i + 1) words ≡ take i words ++ word ∷ []) (e : added ≡ true) (beside : IsBeside now next) where
    more_slots : (slots : List (Slot × ℕ)) (code event : List ℕ) → slots ++ map (slot_of code event field number) (take (i + 1) words) ≡ (slots ++ map (slot_of code event field number) (take i words)) ++ slot_of code event field number word ∷ []
    more_slots slots code event =
        ap (λ ws. slots ++ map (slot_of code event field number) ws) tk ∙ ap (λ l. slots ++ l) (map-append (slot_of code event field number) (take i words) (word ∷ []))
        ∙ sym (append_assoc slots (map (slot_of code event field number) (take i words)) (slot_of code event field number word ∷ []))

    pub one_more : Adding old next pair field number words (i + 1)
    one_more = record {
      beside = record { codes = beside.codes ∙ a.beside.codes; events = beside.events ∙ a.beside.events };
      so_far = λ slots code event z p. record {
        found = subst (AreFound next) (sym (more_slots slots code event)) ((put slots code event z p).more e);
        is_pair = record {
          code_is = ap (at code) beside.codes ∙ (a.so_far slots code event z p).is_pair.code_is;
          event_is = ap (at event) beside.events ∙ (a.so_far slots code event z p).is_pair.event_is;
        };
        left =
            let new : taken_by code event field number (before slots code event z p) word ≡ false = not_true _ (sym e ∙ (put slots code event z p).fresh) in
            ap (λ (l : List (Slot × ℕ)). again (λ v. taken_by code event field number l v) (drop (i + 1) words)) (more_slots slots code event)
            ∙ left_on code event field number (before slots code event z p) word (drop (i + 1) words) new ∙ rest slots code event z p;
      };
    }

-- ---- all words

module _ (old now : Index) (pair : ℕ × ℕ) (field number : ℕ) (words : List (List ℕ)) (i : ℕ) (all : length words ≤ i) (a : Adding old now pair field number words i) (slots : List (Slot × ℕ)) (code event : List ℕ)
    (z : AreFound old slots) (p : IsPair old pair code event) where
  pub none_again : true ≡ not (again (λ v. taken_by code event field number slots v) words)
  none_again =
      let so = a.so_far slots code event z p in
      ap not (sym (ap (λ ws. again (λ v. taken_by code event field number (slots ++ map (slot_of code event field number) (take i words)) v) ws) (drop_all i words all)) ∙ so.left)

  pub all_found : AreFound now (slots ++ numbered number (map (λ word. record { code = code; event = event; field = field; word = word }) words))
  all_found =
      subst (λ (l : List (Slot × ℕ)). AreFound now (slots ++ l)) (ap (λ ws. map (slot_of code event field number) ws) (take_all i words all) ∙ sym (slots_are code event field number words)) (a.so_far slots code event z p).found

-- ---- a route more

module _ (old paired : Index) (pair : ℕ × ℕ) (code event : List ℕ) (n : Numbers old paired pair code event) (keys : List Key) (x : Indexes old keys) where
  pub found_still : AreFound paired (slots_from 0 keys)
  found_still = n.still (slots_from 0 keys) x.found

  module _ (new : Index) (b : IsBeside paired new) where
    indexed : (senders : Option Senders) (number : ℕ) → number ≡ length keys → AreFound new (slots_from 0 keys ++ numbered number (slots_for code event senders))
        → Indexes new (with_key (record { code = code; event = event; senders = senders }) keys)
    indexed senders number is found =
        let key : Key = record { code = code; event = event; senders = senders } in
        let count : number ≡ 0 + length keys = omega (arith, is) in
        record {
          found = subst (AreFound new) (ap (λ m. slots_from 0 keys ++ numbered m (slots_for code event senders)) count ∙ sym (slots_more 0 keys key)) found;
          used = subst (AllByRecursion (λ c. list_any (λ k. bytes_eq c.items k.code) (with_key key keys) ≡ true)) (sym b.codes) (n.used keys senders x.used);
          known =
              subst (λ (es : List (Vec ℕ)). AllByRecursion (IsKnown new.codes.keys es) (with_key key keys)) (sym b.events)
              (subst (λ (cs : List (Vec ℕ)). AllByRecursion (IsKnown cs paired.events.keys) (with_key key keys)) (sym b.codes) (n.known keys senders x.known));
        }

    -- a route of what is left
    pub joins_rest : (number : ℕ) (added : Bool) → number ≡ length keys → Adds (slots_from 0 keys) (record { code = code; event = event; field = 0; word = [] }) number new added
        → Joins keys (record { code = code; event = event; senders = None }) new added
    joins_rest number added is h = record {
      fresh = h.fresh ∙ ap not (any_rest code event keys);
      more = λ e. indexed None number is (h.more e);
    }

    -- a route of senders
    pub joins_all : (s : Senders) (number : ℕ) (added : Bool) → number ≡ length keys → list_any (λ t. is_slot code event 0 [] t.0) (slots_from 0 keys) ≡ false → AddsAll (slots_from 0 keys) code event s number new added
        → Joins keys (record { code = code; event = event; senders = Some s }) new added
    joins_all s number added is none h = record {
      fresh =
          h.fresh
          ∙ ap not (again_slots code event s keys ∙ ap (λ b. b || again (λ word. list_any (has_word code event s word) keys) s.words) (sym (sym (any_rest code event keys) ∙ none)));
      more = λ e. indexed (Some s) number is (h.more e);
    }

-- a route behind one of what is left
pub shut_out : (self new : Index) (pair : ℕ × ℕ) (code event : List ℕ) (keys : List Key) (s : Senders) → list_any (λ t. is_slot code event 0 [] t.0) (slots_from 0 keys) ≡ true
    → Joins keys (record { code = code; event = event; senders = Some s }) new false
shut_out self new pair code event keys s there = record {
  fresh = ap not (sym (ap (λ b. b || again (λ word. list_any (has_word code event s word) keys) s.words) (sym (any_rest code event keys) ∙ there)));
  more = λ e. absurd (cc);
}

-- whether one is found, and whether one is there
pub looked_up : (t : Slot → Bool) (slots : List (Slot × ℕ)) (found : Option ℕ) (there b : Bool) → found ≡ lookup t slots → there ≡ is_some found → there ≡ b → list_any (λ s. t s.0) slots ≡ b
looked_up t slots found there b e is same = keys_any slots ∙ sym (is_some-lookup t slots) ∙ sym (ap is_some e) ∙ sym is ∙ same
  where
    keys_any : (slots : List (Slot × ℕ)) → list_any (λ s. t s.0) slots ≡ list_any t (keys_of slots)
    keys_any [] = refl
    keys_any (s ∷ slots) = ap (λ b. t s.0 || b) (keys_any slots)

-- ---- what a call made

module _ {E : Type 0} (old paired new : Index) (pair : ℕ × ℕ) (code event : List ℕ) (n : Numbers old paired pair code event) (number : ℕ) where
  pub rest_added : (r : Result Bool E) → IsBeside paired new
      → IfOk r (λ added. (slots : List (Slot × ℕ)) (c e : List ℕ) → AreFound paired slots → IsPair paired pair c e → Adds slots (record { code = c; event = e; field = 0; word = [] }) number new added)
      → IfOk r (λ added. (keys : List Key) → Indexes old keys → number ≡ length keys → Joins keys (record { code = code; event = event; senders = None }) new added)
  rest_added (Ok added) b adds = λ keys x is. joins_rest old paired pair code event n keys x new b number added is (adds (slots_from 0 keys) code event (found_still old paired pair code event n keys x) n.is_pair)
  rest_added (Err e) b adds = tt

  pub all_added : (s : Senders) (r : Result Bool E) → OnOk r (IsBeside paired new)
      → ((keys : List Key) → Indexes old keys → list_any (λ t. is_slot code event 0 [] t.0) (slots_from 0 keys) ≡ false)
      → IfOk r (λ added. (slots : List (Slot × ℕ)) (c e : List ℕ) → AreFound paired slots → IsPair paired pair c e → AddsAll slots c e s number new added)
      → IfOk r (λ added. (keys : List Key) → Indexes old keys → number ≡ length keys → Joins keys (record { code = code; event = event; senders = Some s }) new added)
  all_added s (Ok added) b none adds = λ keys x is.
      joins_all old paired pair code event n keys x new b s number added is (none keys x) (adds (slots_from 0 keys) code event (found_still old paired pair code event n keys x) n.is_pair)
  all_added s (Err e) b none adds = tt
