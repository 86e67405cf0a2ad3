-- What is read is spelled so, and what is spelled so is read: of a state.
use Rattle.std.proofs.Common.{◌≡◌, inl, inr, ℕ, zero, suc, ◌+◌, ◌-◌, ◌≤◌, ◌<◌, cond, eqb, List, [], ◌∷◌, ◌++◌, length, take, get_or, Option, Some, None, Result, Ok, Err, refl, sym, ap, subst, ◌∙◌, append_assoc, arith}
use Rattle.std.specs.Prelude.{IfOk, flat_map}
use Rattle.std.specs.List.{AllByRecursion}
use Rattle.std.specs.Int.{w32, w64, to_be_bytes}
use Rattle.std.proofs.lemmas.Bool.{eqb-true}
use Rattle.std.proofs.lemmas.List.{append-nil, nil_from_length}
use Rattle.std.proofs.lemmas.List.Concat.{flat_map-cons}
use Rattle.gw_due.specs.Spelling.{text, IsShort}
use Rattle.gw_due.specs.State.{Receiver, State}
use Rattle.gw_due.specs.Checkpoint.{eight, perhaps, receiver, receivers, checkpoint, PerhapsFits, ReceiverFits, ReceiversFit, StateFits}
use Rattle.gw_due.specs.declared.fault.ReadFault.{ReadFault}
use Rattle.gw_due.specs.declared.fault.ReadFault.TheVariants.{Memory, Unreadable}
use Rattle.gw_due.specs.own.Reading.{Gives, Fails, Reader, ◌>>=◌, both, made, number_at, text_at}
use Rattle.gw_due.specs.own.StateReading.{perhaps_of, perhaps_at, receiver_of, receiver_at, many_at, all_at, state_from, state_at, state_in}
use Rattle.gw_due.proofs.Forms.{IsBytes, Takes, Takes-then, Reads, IsForm, BothFit, both_spelled, both_form, made_reads, made_again, bind_some, guard, some_is, Below32, Below64, number32, number64, text_form}
use Rattle.gw_due.proofs.EventForms.{pick, tag_reads, alone}

eight_form : IsForm Below64 eight (number_at w64)
unfolding eight
eight_form = number64

-- ---- numbers that may be there

perhaps_of_reads : (flag : ℕ) (rest : List ℕ) (x : Option ℕ × List ℕ) → IsBytes (flag ∷ rest) → perhaps_of flag rest ≡ Some x → Reads PerhapsFits perhaps (flag ∷ rest) x.0 x.1
unfolding perhaps_of
perhaps_of_reads flag rest x is e =
    elim (pick (eqb flag 0) _ _ x e) [
      | inl p ↦ alone None PerhapsFits perhaps 0 refl tt flag rest x is p.0 p.1
      | inr p ↦ let g = guard (eqb flag 1) (made (λ n. Some n) (number_at w64) rest) x p.1 in
          tag_reads _ _ _ eight_form (λ n. Some n) PerhapsFits perhaps 1 (λ a. refl) (λ a h. h) flag rest x is g.0 g.1
    ]

perhaps_reads : (bytes : List ℕ) (x : Option ℕ × List ℕ) → IsBytes bytes → perhaps_at bytes ≡ Some x → Reads PerhapsFits perhaps bytes x.0 x.1
unfolding perhaps_at
perhaps_reads [] x is e = absurd cc
perhaps_reads (flag ∷ rest) x is e = perhaps_of_reads flag rest x is e

perhaps_again : (n : Option ℕ) (rest : List ℕ) → PerhapsFits n → perhaps_at (perhaps n ++ rest) ≡ Some (n, rest)
unfolding perhaps_at perhaps_of
perhaps_again None rest fits = refl
perhaps_again (Some n) rest fits = made_again _ _ _ (λ n. Some n) eight_form n rest fits

perhaps_form : IsForm PerhapsFits perhaps perhaps_at
perhaps_form = record { reads = perhaps_reads; again = perhaps_again }

-- ---- what is made of a part, and gives it back

made_form : {A B : Type 0} (F : A → Type 0) (f : A → List ℕ) (at : Reader A) (make : A → B) (part : B → A) → ((b : B) → make (part b) ≡ b) → ((a : A) → part (make a) ≡ a)
    → IsForm F f at → IsForm (λ b. F (part b)) (λ b. f (part b)) (made make at)
made_form {A} {B} F f at make part there back form = record {
  reads = λ bytes x is e.
      let r = made_reads F f at make form bytes x is e in
      let same : r.0 ≡ part x.0 = sym (back r.0) ∙ ap part r.1 in
      let here : Reads F f bytes (part x.0) x.1 = subst (λ (a : A). Reads F f bytes a x.1) same r.2 in
      record { takes = here.takes; fits = here.fits };
  again = λ b rest fits.
      made_again F f at make form (part b) rest fits ∙ ap (λ (b : B). Some (b, rest)) (there b);
}

-- ---- a receiver

two_counts : IsForm (BothFit Below64 Below64) (both_spelled eight eight) (both (number_at w64) (number_at w64))
two_counts = both_form Below64 Below64 eight eight (number_at w64) (number_at w64) eight_form eight_form

three_counts : IsForm (BothFit Below64 (BothFit Below64 Below64)) (both_spelled eight (both_spelled eight eight)) (both (number_at w64) (both (number_at w64) (number_at w64)))
three_counts = both_form Below64 (BothFit Below64 Below64) eight (both_spelled eight eight) (number_at w64) (both (number_at w64) (number_at w64)) eight_form two_counts

address_form : IsForm (BothFit IsShort (BothFit Below64 (BothFit Below64 Below64))) (both_spelled text (both_spelled eight (both_spelled eight eight))) (both text_at (both (number_at w64) (both (number_at w64) (number_at w64))))
address_form = both_form IsShort (BothFit Below64 (BothFit Below64 Below64)) text (both_spelled eight (both_spelled eight eight)) text_at (both (number_at w64) (both (number_at w64) (number_at w64))) text_form three_counts

name_form : IsForm (BothFit IsShort (BothFit IsShort (BothFit Below64 (BothFit Below64 Below64)))) (both_spelled text (both_spelled text (both_spelled eight (both_spelled eight eight)))) (both text_at (both text_at (both (number_at w64) (both (number_at w64) (number_at w64)))))
name_form = both_form IsShort (BothFit IsShort (BothFit Below64 (BothFit Below64 Below64))) text (both_spelled text (both_spelled eight (both_spelled eight eight))) text_at (both text_at (both (number_at w64) (both (number_at w64) (number_at w64)))) text_form address_form

number_form : IsForm (BothFit Below32 (BothFit IsShort (BothFit IsShort (BothFit Below64 (BothFit Below64 Below64))))) (both_spelled (to_be_bytes w32) (both_spelled text (both_spelled text (both_spelled eight (both_spelled eight eight))))) (both (number_at w32) (both text_at (both text_at (both (number_at w64) (both (number_at w64) (number_at w64))))))
number_form = both_form Below32 (BothFit IsShort (BothFit IsShort (BothFit Below64 (BothFit Below64 Below64)))) (to_be_bytes w32) (both_spelled text (both_spelled text (both_spelled eight (both_spelled eight eight)))) (number_at w32) (both text_at (both text_at (both (number_at w64) (both (number_at w64) (number_at w64))))) number32 name_form

abbrev parts_of : Receiver → ℕ × (List ℕ × (List ℕ × (ℕ × (ℕ × ℕ))))
parts_of r = (r.number, (r.name, (r.address, (r.from, (r.left, r.refused)))))

receiver_form : IsForm ReceiverFits receiver receiver_at
unfolding receiver_at
receiver_form = made_form (BothFit Below32 (BothFit IsShort (BothFit IsShort (BothFit Below64 (BothFit Below64 Below64))))) (both_spelled (to_be_bytes w32) (both_spelled text (both_spelled text (both_spelled eight (both_spelled eight eight))))) (both (number_at w32) (both text_at (both text_at (both (number_at w64) (both (number_at w64) (number_at w64)))))) receiver_of parts_of (λ r. refl) (λ p. refl) number_form

-- ---- receivers

record AreRead (n : ℕ) (bytes : List ℕ) (rs : List Receiver) (rest : List ℕ) : Type 0 where
  pub takes : Takes bytes (flat_map receiver rs) rest
  pub count : length rs ≡ n
  pub fit : AllByRecursion ReceiverFits rs

many_read : (n : ℕ) (bytes : List ℕ) (x : List Receiver × List ℕ) → IsBytes bytes → many_at n bytes ≡ Some x → AreRead n bytes x.0 x.1
unfolding many_at
many_read zero bytes x is e =
    subst (λ (y : List Receiver × List ℕ). AreRead 0 bytes y.0 y.1) (some_is ([], bytes) x e) (record { takes = record { parts = refl; rest_fits = is }; count = refl; fit = tt })
many_read (suc n) bytes x is e =
    let a = bind_some (receiver_at bytes) (λ first. many_at n first.1 >>= λ others. Some (first.0 ∷ others.0, others.1)) x e in
    let b = bind_some (many_at n a.0.1) (λ others. Some (a.0.0 ∷ others.0, others.1)) x a.2 in
    let first = receiver_form.reads bytes a.0 is a.1 in
    let more = many_read n a.0.1 b.0 first.takes.rest_fits b.1 in
    let takes = Takes-then bytes (receiver a.0.0) a.0.1 (flat_map receiver b.0.0) b.0.1 first.takes more.takes in
    let here : AreRead (suc n) bytes (a.0.0 ∷ b.0.0) b.0.1 = record {
      takes = subst (λ (l : List ℕ). Takes bytes l b.0.1) (sym (flat_map-cons receiver a.0.0 b.0.0)) takes;
      count = ap suc more.count;
      fit = (first.fits, more.fit);
    } in
    subst (λ (y : List Receiver × List ℕ). AreRead (suc n) bytes y.0 y.1) (some_is (a.0.0 ∷ b.0.0, b.0.1) x b.2) here

many_again : (rs : List Receiver) (rest : List ℕ) → AllByRecursion ReceiverFits rs → many_at (length rs) (flat_map receiver rs ++ rest) ≡ Some (rs, rest)
unfolding many_at
many_again [] rest fits = refl
many_again (r ∷ rs) rest fits =
    let grouped : flat_map receiver (r ∷ rs) ++ rest ≡ receiver r ++ (flat_map receiver rs ++ rest) =
    ap (λ (l : List ℕ). l ++ rest) (flat_map-cons receiver r rs) ∙ append_assoc (receiver r) (flat_map receiver rs) rest in
    ap (many_at (suc (length rs))) grouped
    ∙ ap (λ o. o >>= λ first. many_at (length rs) first.1 >>= λ others. Some (first.0 ∷ others.0, others.1)) (receiver_form.again r (flat_map receiver rs ++ rest) fits.0)
    ∙ ap (λ o. o >>= λ others. Some (r ∷ others.0, others.1)) (many_again rs rest fits.1)

all_reads : (bytes : List ℕ) (x : List Receiver × List ℕ) → IsBytes bytes → all_at bytes ≡ Some x → Reads ReceiversFit receivers bytes x.0 x.1
unfolding all_at
all_reads bytes x is e =
    let a = bind_some (number_at w32 bytes) (λ n. many_at n.0 n.1) x e in
    let t = number32.reads bytes a.0 is a.1 in
    let more = many_read a.0.0 a.0.1 x t.takes.rest_fits a.2 in
    let takes = Takes-then bytes (to_be_bytes w32 a.0.0) a.0.1 (flat_map receiver x.0) x.1 t.takes more.takes in
    record {
      takes = subst (λ (k : ℕ). Takes bytes (to_be_bytes w32 k ++ flat_map receiver x.0) x.1) (sym more.count) takes;
      fits = (omega (arith, t.fits, more.count), more.fit);
    }

all_again : (rs : List Receiver) (rest : List ℕ) → ReceiversFit rs → all_at (receivers rs ++ rest) ≡ Some (rs, rest)
unfolding all_at
all_again rs rest fits =
    ap all_at (append_assoc (to_be_bytes w32 (length rs)) (flat_map receiver rs) rest)
    ∙ ap (λ o. o >>= λ n. many_at n.0 n.1) (number32.again (length rs) (flat_map receiver rs ++ rest) fits.0)
    ∙ many_again rs rest fits.1

all_form : IsForm ReceiversFit receivers all_at
all_form = record { reads = all_reads; again = all_again }

-- ---- a state

oldest_form : IsForm (BothFit Below64 ReceiversFit) (both_spelled eight receivers) (both (number_at w64) all_at)
oldest_form = both_form Below64 ReceiversFit eight receivers (number_at w64) all_at eight_form all_form

margin_form : IsForm (BothFit Below64 (BothFit Below64 ReceiversFit)) (both_spelled eight (both_spelled eight receivers)) (both (number_at w64) (both (number_at w64) all_at))
margin_form = both_form Below64 (BothFit Below64 ReceiversFit) eight (both_spelled eight receivers) (number_at w64) (both (number_at w64) all_at) eight_form oldest_form

last_form : IsForm (BothFit PerhapsFits (BothFit Below64 (BothFit Below64 ReceiversFit))) (both_spelled perhaps (both_spelled eight (both_spelled eight receivers))) (both perhaps_at (both (number_at w64) (both (number_at w64) all_at)))
last_form = both_form PerhapsFits (BothFit Below64 (BothFit Below64 ReceiversFit)) perhaps (both_spelled eight (both_spelled eight receivers)) perhaps_at (both (number_at w64) (both (number_at w64) all_at)) perhaps_form margin_form

plan_form : IsForm (BothFit PerhapsFits (BothFit PerhapsFits (BothFit Below64 (BothFit Below64 ReceiversFit)))) (both_spelled perhaps (both_spelled perhaps (both_spelled eight (both_spelled eight receivers)))) (both perhaps_at (both perhaps_at (both (number_at w64) (both (number_at w64) all_at))))
plan_form = both_form PerhapsFits (BothFit PerhapsFits (BothFit Below64 (BothFit Below64 ReceiversFit))) perhaps (both_spelled perhaps (both_spelled eight (both_spelled eight receivers))) perhaps_at (both perhaps_at (both (number_at w64) (both (number_at w64) all_at))) perhaps_form last_form

next_form : IsForm (BothFit Below64 (BothFit PerhapsFits (BothFit PerhapsFits (BothFit Below64 (BothFit Below64 ReceiversFit))))) (both_spelled eight (both_spelled perhaps (both_spelled perhaps (both_spelled eight (both_spelled eight receivers))))) (both (number_at w64) (both perhaps_at (both perhaps_at (both (number_at w64) (both (number_at w64) all_at)))))
next_form = both_form Below64 (BothFit PerhapsFits (BothFit PerhapsFits (BothFit Below64 (BothFit Below64 ReceiversFit)))) eight (both_spelled perhaps (both_spelled perhaps (both_spelled eight (both_spelled eight receivers)))) (number_at w64) (both perhaps_at (both perhaps_at (both (number_at w64) (both (number_at w64) all_at)))) eight_form plan_form

abbrev state_parts : State → ℕ × (Option ℕ × (Option ℕ × (ℕ × (ℕ × List Receiver))))
state_parts s = (s.next, (s.plan, (s.last, (s.margin, (s.oldest, s.receivers)))))

state_form : IsForm StateFits checkpoint state_at
unfolding state_at
state_form = made_form (BothFit Below64 (BothFit PerhapsFits (BothFit PerhapsFits (BothFit Below64 (BothFit Below64 ReceiversFit))))) (both_spelled eight (both_spelled perhaps (both_spelled perhaps (both_spelled eight (both_spelled eight receivers))))) (both (number_at w64) (both perhaps_at (both perhaps_at (both (number_at w64) (both (number_at w64) all_at))))) state_from state_parts (λ s. refl) (λ p. refl) next_form

state_reads : (bytes : List ℕ) (s : State) → IsBytes bytes → state_in bytes ≡ Some s → StateFits s × (bytes ≡ checkpoint s)
unfolding state_in
state_reads bytes s is e =
    let a = bind_some (state_at bytes) (λ x. cond (eqb (length x.1) 0) (Some x.0) None) s e in
    let g = guard (eqb (length a.0.1) 0) (Some a.0.0) s a.2 in
    let t = state_form.reads bytes a.0 is a.1 in
    let nothing : a.0.1 ≡ [] = nil_from_length a.0.1 (eqb-true _ _ g.0) in
    let whole : bytes ≡ checkpoint a.0.0 = t.takes.parts ∙ ap (λ (l : List ℕ). checkpoint a.0.0 ++ l) nothing ∙ append-nil (checkpoint a.0.0) in
    subst (λ (s : State). StateFits s × (bytes ≡ checkpoint s)) (some_is a.0.0 s g.1) (t.fits, whole)

pub state_again : (s : State) → StateFits s → state_in (checkpoint s) ≡ Some s
unfolding state_in
state_again s fits =
    ap (λ o. o >>= λ x. cond (eqb (length x.1) 0) (Some x.0) None) (ap state_at (sym (append-nil (checkpoint s))) ∙ state_form.again s [] fits)

pub one_state : (these those : State) → StateFits these → StateFits those → checkpoint these ≡ checkpoint those → these ≡ those
one_state these those fits fit same = some_is these those (sym (state_again these fits) ∙ ap state_in same ∙ state_again those fit)

pub is_found : (bytes : List ℕ) (r : Result State ReadFault) → IsBytes bytes → Gives (λ s. s) r (state_in bytes) → IfOk r (λ s. StateFits s × (bytes ≡ checkpoint s))
is_found bytes (Ok s) is given = state_reads bytes s is given
is_found bytes (Err e) is given = tt

pub is_refused : (r : Result State ReadFault) (bytes : List ℕ) → Gives (λ s. s) r (state_in bytes) → r ≡ Err Unreadable → (s : State) → StateFits s → bytes ≡ checkpoint s → ⊥
is_refused (Ok x) bytes given is s fits same = absurd (cc)
is_refused (Err Memory) bytes given is s fits same = absurd (cc)
is_refused (Err Unreadable) bytes given is s fits same =
    let read : state_in bytes ≡ Some s = ap state_in same ∙ state_again s fits in
    absurd (cc (given, read))

-- ---- receivers one after the other, as a loop reads them

abbrev pub with_front : List Receiver → Option (List Receiver × List ℕ) → Option (List Receiver × List ℕ)
with_front front read = read >>= λ x. Some (front ++ x.0, x.1)

regroup : (front : List Receiver) (r : Receiver) (read : Option (List Receiver × List ℕ)) → with_front front (read >>= λ x. Some (r ∷ x.0, x.1)) ≡ with_front (front ++ r ∷ []) read
regroup front r (Some x) = ap (λ (rs : List Receiver). Some (rs, x.1)) (sym (append_assoc front (r ∷ []) x.0))
regroup front r None = refl

pub goes_on : (front : List Receiver) (count i : ℕ) (bytes : List ℕ) (r : Receiver) (after : List ℕ) (total : Option (List Receiver × List ℕ)) → i < count → receiver_at bytes ≡ Some (r, after)
    → with_front front (many_at (count - i) bytes) ≡ total → with_front (front ++ r ∷ []) (many_at (count - (i + 1)) after) ≡ total
unfolding many_at
goes_on front count i bytes r after total lt h so_far =
    let k : count - i ≡ suc (count - (i + 1)) = omega arith in
    let one : with_front front (many_at (count - i) bytes) ≡ with_front (front ++ r ∷ []) (many_at (count - (i + 1)) after) = rw (k, h) (regroup front r (many_at (count - (i + 1)) after)) in
    sym one ∙ so_far

pub ends : (e : ReadFault) (front : List Receiver) (count i : ℕ) (bytes : List ℕ) (total : Option (List Receiver × List ℕ)) → i < count → Fails e (receiver_at bytes)
    → with_front front (many_at (count - i) bytes) ≡ total → Fails e total
unfolding many_at
ends Memory front count i bytes total lt h so_far = tt
ends Unreadable front count i bytes total lt h so_far =
    let k : count - i ≡ suc (count - (i + 1)) = omega arith in
    let one : with_front front (many_at (count - i) bytes) ≡ None = rw (k, h) refl in
    sym so_far ∙ one

pub is_done : (front : List Receiver) (count i : ℕ) (bytes : List ℕ) (total : Option (List Receiver × List ℕ)) → count ≤ i → with_front front (many_at (count - i) bytes) ≡ total → total ≡ Some (front, bytes)
unfolding many_at
is_done front count i bytes total le so_far =
    let k : count - i ≡ 0 = omega arith in
    let one : with_front front (many_at (count - i) bytes) ≡ Some (front, bytes) = rw k (ap (λ (rs : List Receiver). Some (rs, bytes)) (append-nil front)) in
    sym so_far ∙ one

-- ---- receivers one after the other, as a loop writes them

pub written : (all : List Receiver) (i : ℕ) (d : Receiver) → i < length all → flat_map receiver (take (i + 1) all) ≡ flat_map receiver (take i all) ++ receiver (get_or all i d)
written [] i d lt = absurd (omega arith)
written (r ∷ all) zero d lt = flat_map-cons receiver r [] ∙ append-nil (receiver r)
written (r ∷ all) (suc i) d lt =
    let k : suc i + 1 ≡ suc (i + 1) = omega arith in
    ap (λ n. flat_map receiver (take n (r ∷ all))) k ∙ flat_map-cons receiver r (take (i + 1) all)
    ∙ ap (λ l. receiver r ++ l) (written all i d (omega arith)) ∙ sym (append_assoc (receiver r) (flat_map receiver (take i all)) (receiver (get_or all i d)))
    ∙ ap (λ l. l ++ receiver (get_or all i d)) (sym (flat_map-cons receiver r (take i all)))

pub fitting : (all : List Receiver) (i : ℕ) (d : Receiver) → i < length all → AllByRecursion ReceiverFits (take i all) → ReceiverFits (get_or all i d) → AllByRecursion ReceiverFits (take (i + 1) all)
fitting [] i d lt before here = absurd (omega arith)
fitting (r ∷ all) zero d lt before here = (here, tt)
fitting (r ∷ all) (suc i) d lt before here =
    let k : suc (i + 1) ≡ suc i + 1 = omega arith in
    subst (λ n. AllByRecursion ReceiverFits (take n (r ∷ all))) k (before.0, fitting all i d (omega arith) before.1 here)

pub one_more : (old front rest now piece new : List ℕ) → now ≡ old ++ (front ++ rest) → new ≡ now ++ piece → new ≡ old ++ (front ++ (rest ++ piece))
one_more old front rest now piece new before here =
    here ∙ ap (λ l. l ++ piece) before ∙ append_assoc old (front ++ rest) piece ∙ ap (λ l. old ++ l) (append_assoc front rest piece)
