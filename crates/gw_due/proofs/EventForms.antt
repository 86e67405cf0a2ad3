-- What is read is spelled so, and what is spelled so is read: of a record.
use Rattle.std.proofs.Common.{◌≡◌, ◌⊎◌, inl, inr, ℕ, Bool, true, false, cond, eqb, List, [], ◌∷◌, ◌++◌, length, Option, Some, None, Result, Ok, Err, refl, sym, ap, subst, ◌∙◌}
use Rattle.std.specs.Prelude.{IfOk}
use Rattle.std.specs.Int.{w32, w64, to_be_bytes}
use Rattle.std.proofs.lemmas.Bool.{eqb-true}
use Rattle.std.proofs.lemmas.List.{append-nil, nil_from_length}
use Rattle.gw_due.specs.Events.{How, Taken, Refused, Skipped, Event, Planned, Accepted, Again, Passed, Named, Margin, Retired}
use Rattle.gw_due.specs.Spelling.{Entry, text, receivers, how, event, spelled, IsShort, AreShort, HowFits, EventFits, Fits}
use Rattle.gw_due.specs.declared.fault.ReadFault.{ReadFault}
use Rattle.gw_due.specs.declared.fault.ReadFault.TheVariants.{Memory, Unreadable}
use Rattle.gw_due.specs.own.Reading.{Gives, Reader, ◌>>=◌, both, made, number_at, text_at, receivers_at, how_of, how_at, accepted_at, passed_at, named_at, again_at, event_of, event_at, entry_of}
use Rattle.gw_due.proofs.Forms.{IsBytes, IsBytes-rest, Takes-then, Reads, IsForm, BothFit, both_spelled, both_form, made_reads, made_again, bind_some, guard, some_is, Below32, Below64, number32, number64, text_form, receivers_form}

pub pick : {A : Type 0} (b : Bool) (x y : Option A) (z : A) → cond b x y ≡ Some z → ((b ≡ true) × (x ≡ Some z)) ⊎ ((b ≡ false) × (y ≡ Some z))
pick true x y z e = inl (refl, e)
pick false x y z e = inr (refl, e)

-- what was made of a part behind a tag
pub tag_reads : {A B : Type 0} (F : A → Type 0) (f : A → List ℕ) (at : Reader A) (form : IsForm F f at) (make : A → B) (G : B → Type 0) (g : B → List ℕ) (k : ℕ)
    → ((a : A) → g (make a) ≡ k ∷ f a) → ((a : A) → F a → G (make a))
    → (tag : ℕ) (rest : List ℕ) (x : B × List ℕ) → IsBytes (tag ∷ rest) → eqb tag k ≡ true → made make at rest ≡ Some x → Reads G g (tag ∷ rest) x.0 x.1
tag_reads {A} {B} F f at form make G g k same fit tag rest x is at_tag e =
    let r = made_reads F f at make form rest x (IsBytes-rest tag rest is) e in
    let here : Reads G g (tag ∷ rest) (make r.0) x.1 = record {
      takes = record {
        parts = ap (λ t. t ∷ rest) (eqb-true tag k at_tag) ∙ ap (λ (l : List ℕ). k ∷ l) r.2.takes.parts ∙ sym (ap (λ (l : List ℕ). l ++ x.1) (same r.0));
        rest_fits = r.2.takes.rest_fits;
      };
      fits = fit r.0 r.2.fits;
    } in
    subst (λ (b : B). Reads G g (tag ∷ rest) b x.1) r.1 here

-- a tag with nothing behind it
pub alone : {B : Type 0} (b : B) (G : B → Type 0) (g : B → List ℕ) (k : ℕ) → g b ≡ k ∷ [] → G b → (tag : ℕ) (rest : List ℕ) (x : B × List ℕ) → IsBytes (tag ∷ rest) → eqb tag k ≡ true → Some (b, rest) ≡ Some x → Reads G g (tag ∷ rest) x.0 x.1
alone {B} b G g k same fit tag rest x is at_tag e =
    let here : Reads G g (tag ∷ rest) b rest = record {
      takes = record { parts = ap (λ t. t ∷ rest) (eqb-true tag k at_tag) ∙ sym (ap (λ (l : List ℕ). l ++ rest) same); rest_fits = IsBytes-rest tag rest is };
      fits = fit;
    } in
    subst (λ (y : B × List ℕ). Reads G g (tag ∷ rest) y.0 y.1) (some_is (b, rest) x e) here

-- ---- how a receiver passed

refused_form : IsForm (BothFit Below32 IsShort) (both_spelled (to_be_bytes w32) text) (both (number_at w32) text_at)
refused_form = both_form Below32 IsShort (to_be_bytes w32) text (number_at w32) text_at number32 text_form

how_of_reads : (flag : ℕ) (rest : List ℕ) (x : How × List ℕ) → IsBytes (flag ∷ rest) → how_of flag rest ≡ Some x → Reads HowFits how (flag ∷ rest) x.0 x.1
unfolding how_of
how_of_reads flag rest x is e =
    elim (pick (eqb flag 0) _ _ x e) [
      | inl p ↦ alone Taken HowFits how 0 refl tt flag rest x is p.0 p.1
      | inr p ↦ elim (pick (eqb flag 1) _ _ x p.1) [
        | inl q ↦ tag_reads _ _ _ refused_form (λ p. Refused p.0 p.1) HowFits how 1 (λ a. refl) (λ a h. h) flag rest x is q.0 q.1
        | inr q ↦ let g = guard (eqb flag 2) (Some (Skipped, rest)) x q.1 in alone Skipped HowFits how 2 refl tt flag rest x is g.0 g.1
      ]
    ]

how_reads : (bytes : List ℕ) (x : How × List ℕ) → IsBytes bytes → how_at bytes ≡ Some x → Reads HowFits how bytes x.0 x.1
unfolding how_at
how_reads [] x is e = absurd cc
how_reads (flag ∷ rest) x is e = how_of_reads flag rest x is e

how_again : (h : How) (rest : List ℕ) → HowFits h → how_at (how h ++ rest) ≡ Some (h, rest)
unfolding how_at how_of
how_again Taken rest fits = refl
how_again (Refused code reason) rest fits = made_again _ _ _ (λ p. Refused p.0 p.1) refused_form (code, reason) rest fits
how_again Skipped rest fits = refl

how_form : IsForm HowFits how how_at
how_form = record { reads = how_reads; again = how_again }

-- ---- events

two_texts : IsForm (BothFit IsShort IsShort) (both_spelled text text) (both text_at text_at)
two_texts = both_form IsShort IsShort text text text_at text_at text_form text_form

named_form : IsForm (BothFit Below32 (BothFit IsShort IsShort)) (both_spelled (to_be_bytes w32) (both_spelled text text)) (both (number_at w32) (both text_at text_at))
named_form = both_form Below32 (BothFit IsShort IsShort) (to_be_bytes w32) (both_spelled text text) (number_at w32) (both text_at text_at) number32 two_texts

message_form : IsForm (BothFit AreShort IsShort) (both_spelled receivers text) (both receivers_at text_at)
message_form = both_form AreShort IsShort receivers text receivers_at text_at receivers_form text_form

accepted_form : IsForm (BothFit Below64 (BothFit AreShort IsShort)) (both_spelled (to_be_bytes w64) (both_spelled receivers text)) (both (number_at w64) (both receivers_at text_at))
accepted_form = both_form Below64 (BothFit AreShort IsShort) (to_be_bytes w64) (both_spelled receivers text) (number_at w64) (both receivers_at text_at) number64 message_form

again_form : IsForm (BothFit Below32 Below64) (both_spelled (to_be_bytes w32) (to_be_bytes w64)) (both (number_at w32) (number_at w64))
again_form = both_form Below32 Below64 (to_be_bytes w32) (to_be_bytes w64) (number_at w32) (number_at w64) number32 number64

place_form : IsForm (BothFit Below64 HowFits) (both_spelled (to_be_bytes w64) how) (both (number_at w64) how_at)
place_form = both_form Below64 HowFits (to_be_bytes w64) how (number_at w64) how_at number64 how_form

passed_form : IsForm (BothFit Below32 (BothFit Below64 HowFits)) (both_spelled (to_be_bytes w32) (both_spelled (to_be_bytes w64) how)) (both (number_at w32) (both (number_at w64) how_at))
passed_form = both_form Below32 (BothFit Below64 HowFits) (to_be_bytes w32) (both_spelled (to_be_bytes w64) how) (number_at w32) (both (number_at w64) how_at) number32 place_form

event_of_reads : (tag : ℕ) (rest : List ℕ) (x : Event × List ℕ) → IsBytes (tag ∷ rest) → event_of tag rest ≡ Some x → Reads EventFits event (tag ∷ rest) x.0 x.1
unfolding event_of accepted_at again_at passed_at named_at
event_of_reads tag rest x is e =
    elim (pick (eqb tag 1) _ _ x e) [
      | inl p ↦ tag_reads _ _ _ text_form Planned EventFits event 1 (λ a. refl) (λ a h. h) tag rest x is p.0 p.1
      | inr p ↦ elim (pick (eqb tag 2) _ _ x p.1) [
        | inl p ↦ tag_reads _ _ _ accepted_form (λ p. Accepted p.0 p.1.0 p.1.1) EventFits event 2 (λ a. refl) (λ a h. h) tag rest x is p.0 p.1
        | inr p ↦ elim (pick (eqb tag 3) _ _ x p.1) [
          | inl p ↦ tag_reads _ _ _ again_form (λ p. Again p.0 p.1) EventFits event 3 (λ a. refl) (λ a h. h) tag rest x is p.0 p.1
          | inr p ↦ elim (pick (eqb tag 4) _ _ x p.1) [
            | inl p ↦ tag_reads _ _ _ passed_form (λ p. Passed p.0 p.1.0 p.1.1) EventFits event 4 (λ a. refl) (λ a h. h) tag rest x is p.0 p.1
            | inr p ↦ elim (pick (eqb tag 5) _ _ x p.1) [
              | inl p ↦ tag_reads _ _ _ named_form (λ p. Named p.0 p.1.0 p.1.1) EventFits event 5 (λ a. refl) (λ a h. h) tag rest x is p.0 p.1
              | inr p ↦ elim (pick (eqb tag 6) _ _ x p.1) [
                | inl p ↦ tag_reads _ _ _ number64 Margin EventFits event 6 (λ a. refl) (λ a h. h) tag rest x is p.0 p.1
                | inr p ↦ let g = guard (eqb tag 7) (made Retired (number_at w64) rest) x p.1 in
                    tag_reads _ _ _ number64 Retired EventFits event 7 (λ a. refl) (λ a h. h) tag rest x is g.0 g.1
              ]
            ]
          ]
        ]
      ]
    ]

event_reads : (bytes : List ℕ) (x : Event × List ℕ) → IsBytes bytes → event_at bytes ≡ Some x → Reads EventFits event bytes x.0 x.1
unfolding event_at
event_reads [] x is e = absurd cc
event_reads (tag ∷ rest) x is e = event_of_reads tag rest x is e

event_again : (e : Event) (rest : List ℕ) → EventFits e → event_at (event e ++ rest) ≡ Some (e, rest)
unfolding event_at event_of accepted_at again_at passed_at named_at
event_again (Planned plan) rest fits = made_again _ _ _ Planned text_form plan rest fits
event_again (Accepted number to bytes) rest fits = made_again _ _ _ (λ p. Accepted p.0 p.1.0 p.1.1) accepted_form (number, (to, bytes)) rest fits
event_again (Again receiver place) rest fits = made_again _ _ _ (λ p. Again p.0 p.1) again_form (receiver, place) rest fits
event_again (Passed receiver place passed) rest fits = made_again _ _ _ (λ p. Passed p.0 p.1.0 p.1.1) passed_form (receiver, (place, passed)) rest fits
event_again (Named receiver name address) rest fits = made_again _ _ _ (λ p. Named p.0 p.1.0 p.1.1) named_form (receiver, (name, address)) rest fits
event_again (Margin number) rest fits = made_again _ _ _ Margin number64 number rest fits
event_again (Retired segment) rest fits = made_again _ _ _ Retired number64 segment rest fits

event_form : IsForm EventFits event event_at
event_form = record { reads = event_reads; again = event_again }

-- ---- records

abbrev timed : ℕ × Event → Entry
timed p = record { time = p.0; event = p.1 }

entry_reads : (bytes : List ℕ) (e : Entry) → IsBytes bytes → entry_of bytes ≡ Some e → Fits e × (bytes ≡ spelled e)
unfolding entry_of
entry_reads bytes e is read =
    let t = bind_some (number_at w64 bytes) (λ time. event_at time.1 >>= λ event. cond (eqb (length event.1) 0) (Some (timed (time.0, event.0))) None) e read in
    let v = bind_some (event_at t.0.1) (λ event. cond (eqb (length event.1) 0) (Some (timed (t.0.0, event.0))) None) e t.2 in
    let g = guard (eqb (length v.0.1) 0) (Some (timed (t.0.0, v.0.0))) e v.2 in
    let one = number64.reads bytes t.0 is t.1 in
    let two = event_form.reads t.0.1 v.0 one.takes.rest_fits v.1 in
    let nothing : v.0.1 ≡ [] = nil_from_length v.0.1 (eqb-true _ _ g.0) in
    let parts = (Takes-then bytes (to_be_bytes w64 t.0.0) t.0.1 (event v.0.0) v.0.1 one.takes two.takes).parts in
    let front : List ℕ = to_be_bytes w64 t.0.0 ++ event v.0.0 in
    let whole : bytes ≡ spelled (timed (t.0.0, v.0.0)) = parts ∙ ap (λ (l : List ℕ). front ++ l) nothing ∙ append-nil front in
    subst (λ (e : Entry). Fits e × (bytes ≡ spelled e)) (some_is (timed (t.0.0, v.0.0)) e g.1) ((one.fits, two.fits), whole)

pub entry_again : (e : Entry) → Fits e → entry_of (spelled e) ≡ Some e
unfolding entry_of
entry_again e fits =
    let first = number64.again e.time (event e.event) fits.0 in
    let second : event_at (event e.event) ≡ Some (e.event, []) = ap event_at (sym (append-nil (event e.event))) ∙ event_form.again e.event [] fits.1 in
    rw (first, second) refl

pub is_found : {X : Type 0} (view : X → Entry) (bytes : List ℕ) (r : Result X ReadFault) → IsBytes bytes → Gives view r (entry_of bytes) → IfOk r (λ x. Fits (view x) × (bytes ≡ spelled (view x)))
is_found view bytes (Ok x) is given = entry_reads bytes (view x) is given
is_found view bytes (Err e) is given = tt

pub is_refused : {X : Type 0} (view : X → Entry) (r : Result X ReadFault) (bytes : List ℕ) → Gives view r (entry_of bytes) → r ≡ Err Unreadable → (e : Entry) → Fits e → bytes ≡ spelled e → ⊥
is_refused view (Ok x) bytes given is e fits same = absurd (cc)
is_refused view (Err Memory) bytes given is e fits same = absurd (cc)
is_refused view (Err Unreadable) bytes given is e fits same =
    let read : entry_of bytes ≡ Some e = ap entry_of same ∙ entry_again e fits in
    absurd (cc (given, read))

pub one_record : (these those : Entry) → Fits these → Fits those → spelled these ≡ spelled those → these ≡ those
one_record these those fits fit same = some_is these those (sym (entry_again these fits) ∙ ap entry_of same ∙ entry_again those fit)
