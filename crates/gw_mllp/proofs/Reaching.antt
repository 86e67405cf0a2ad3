-- How an open block goes on with the bytes that come next.
use Rattle.std.proofs.Common.{◌≡◌, ℕ, ◌+◌, ◌-◌, ◌<◌, ◌≤◌, List, [], ◌∷◌, ◌++◌, length, take, drop, None, Some, refl, sym, ap, subst, ◌∙◌, append_assoc, arith, inl, inr}
use Rattle.std.proofs.lemmas.List.{append-nil, length-append, length-drop, length-take-le, take-append-drop}
use Rattle.std.proofs.Math.Seq.{take-append-add}
use Rattle.std.specs.Prelude.{slice_index}
use Rattle.memchr.specs.Find.{FindsNeedle}
use Rattle.gw_mllp.specs.Stream.{Lacks, HasNoEnd, content_len}
use Rattle.gw_mllp.specs.Taken.{Straddles, EndsAt, Overruns, StaysOpen, IsLone}
use Rattle.gw_mllp.proofs.Ends.{overlap, HasNoEnd-front, HasNoEnd-more, last-push, content_len-push, popped}
use Rattle.gw_mllp.proofs.Fronts.{content_len-le}
use Rattle.gw_mllp.proofs.Occurs.{cut_at, no_end_from_find, no_end_before}

-- two runs that hold no FS CR, and none between them
pub HasNoEnd-join : (a b : List ℕ) → HasNoEnd a → HasNoEnd b → (Straddles a b → ⊥) → HasNoEnd (a ++ b)
HasNoEnd-join a b ha hb apart before after e =
    elim (overlap a b before (28 ∷ 13 ∷ after) e) as (λ _. ⊥) [
      | inl p ↦ late a b before after ha hb apart p.0 p.1 p.2
      | inr p ↦ hb p.0 after p.2
    ]
  where
    late : (a b before after : List ℕ) → HasNoEnd a → HasNoEnd b → (Straddles a b → ⊥) → (w : List ℕ) → a ≡ before ++ w → 28 ∷ 13 ∷ after ≡ w ++ b → ⊥
    late a b before after ha hb apart [] e f = hb [] after (sym f)
    late a b before after ha hb apart (x ∷ []) e f =
        let x-is : x ≡ 28 = cc in
        let b-is : b ≡ 13 ∷ after = cc in
        apart
        (record {
          last = subst (λ (s : List ℕ). slice_index s (length s - 1) ≡ 28) (sym (e ∙ ap (λ (k : ℕ). before ++ k ∷ []) x-is)) (last-push before 28);
          after = after;
          first = b-is;
        })
    late a b before after ha hb apart (x ∷ y ∷ w) e f =
        let x-is : x ≡ 28 = cc in
        let y-is : y ≡ 13 = cc in
        ha before w (e ∙ ap (λ (k : ℕ). before ++ k ∷ y ∷ w) x-is ∙ ap (λ (k : ℕ). before ++ 28 ∷ k ∷ w) y-is)

-- the CR at the front ends the block
pub ends_at_front : (content bytes : List ℕ) → Straddles content bytes → EndsAt content (take 1 bytes)
ends_at_front content bytes s =
    let kept = take (length content - 1) content in
    let e : content ≡ kept ++ 28 ∷ [] = popped content kept (some_byte content s.last) s.last refl in
    let run : take 1 bytes ≡ 13 ∷ [] = ap (take 1) s.first in
    record {
      kept = kept;
      whole = ap (λ (x : List ℕ). content ++ x) run ∙ ap (λ (x : List ℕ). x ++ 13 ∷ []) e ∙ append_assoc kept (28 ∷ []) (13 ∷ []);
      some = omega (arith, ap length run);
      first = λ h. HasNoEnd-front kept (28 ∷ []) (subst HasNoEnd e h);
    }
  where
    some_byte : (content : List ℕ) → slice_index content (length content - 1) ≡ 28 → 0 < length content
    some_byte [] e = absurd cc
    some_byte (x ∷ content) e = omega arith

-- the first FS CR of the bytes ends the block
pub ends_at_first : (content bytes : List ℕ) (k : ℕ) → FindsNeedle bytes (28 ∷ 13 ∷ []) 0 (Some k) → (Straddles content bytes → ⊥) → EndsAt content (take (k + 2) bytes)
ends_at_first content bytes k found apart =
    let cut = cut_at bytes k found.1 in
    let fits : k + 2 ≤ length bytes = found.1.fits in
    let here : take (k + 2) bytes ≡ take k bytes ++ 28 ∷ 13 ∷ [] = take_two bytes k cut fits in
    record {
      kept = content ++ take k bytes;
      whole = ap (λ (x : List ℕ). content ++ x) here ∙ sym (append_assoc content (take k bytes) (28 ∷ 13 ∷ []));
      some = omega (arith, ap length here, length-append (take k bytes) (28 ∷ 13 ∷ []));
      first = λ h. HasNoEnd-join content (take k bytes) h (no_end_before bytes k found) (λ s. apart (longer content bytes k s));
    }
  where
    take_two : (bytes : List ℕ) (k : ℕ) → bytes ≡ take k bytes ++ 28 ∷ 13 ∷ drop ((k + 1) + 1) bytes → k + 2 ≤ length bytes → take (k + 2) bytes ≡ take k bytes ++ 28 ∷ 13 ∷ []
    take_two bytes k cut fits =
        let front = take k bytes in
        let after = drop ((k + 1) + 1) bytes in
        let n : length front ≡ k = length-take-le k bytes (omega arith) in
        ap (λ (i : ℕ). take (i + 2) bytes) (sym n) ∙ ap (take (length front + 2)) cut ∙ take-append-add front (28 ∷ 13 ∷ after) 2

    longer : (content bytes : List ℕ) (k : ℕ) → Straddles content (take k bytes) → Straddles content bytes
    longer content bytes k s = record {
      last = s.last;
      after = s.after ++ drop k bytes;
      first = sym (take-append-drop k bytes) ∙ ap (λ (x : List ℕ). x ++ drop k bytes) s.first;
    }

-- no end stands in the bytes
pub stays_open : (content bytes : List ℕ) → FindsNeedle bytes (28 ∷ 13 ∷ []) 0 None → (Straddles content bytes → ⊥) → HasNoEnd content → HasNoEnd (content ++ bytes)
stays_open content bytes found apart h = HasNoEnd-join content bytes h (no_end_from_find bytes None found refl) apart

-- the run that ends a block without its CR
pub overruns_by_end : (content bytes run after : List ℕ) → bytes ≡ run ++ after → EndsAt content run → 1048578 < length content + length run → Overruns content bytes
overruns_by_end content bytes run after whole ends long =
    let cut = without_last content run ends.kept ends.whole ends.some in
    let unended : HasNoEnd content → HasNoEnd (content ++ cut.0) = λ h. subst HasNoEnd (sym cut.2) (HasNoEnd-more ends.kept (28 ∷ []) (ends.first h) lacks) in
    record {
      run = cut.0;
      more = 13 ∷ after;
      whole = whole ∙ ap (λ (x : List ℕ). x ++ after) cut.1 ∙ append_assoc cut.0 (13 ∷ []) after;
      unended = unended;
      long = subst (λ (x : List ℕ). 1048576 < content_len x) (sym cut.2) (rw (content_len-push ends.kept) (omega (arith, long, ap length ends.whole, length-append content run, length-append ends.kept (28 ∷ 13 ∷ []))));
    }
  where
    lacks : Lacks 13 (28 ∷ [])
    lacks = (λ e. absurd (omega (arith, e)), tt)

    without_last : (content run kept : List ℕ) → content ++ run ≡ kept ++ 28 ∷ 13 ∷ [] → 0 < length run → (front : List ℕ) × (run ≡ front ++ 13 ∷ []) × (content ++ front ≡ kept ++ 28 ∷ [])
    without_last content run kept e some =
        elim (overlap content run (kept ++ 28 ∷ []) (13 ∷ []) (e ∙ sym (append_assoc kept (28 ∷ []) (13 ∷ [])))) as (λ _. (front : List ℕ) × (run ≡ front ++ 13 ∷ []) × (content ++ front ≡ kept ++ 28 ∷ [])) [
          | inl p ↦ at_seam content run kept some p.0 p.1 p.2
          | inr p ↦ (p.0, p.2, sym p.1)
        ]
      where
        at_seam : (content run kept : List ℕ) → 0 < length run → (w : List ℕ) → content ≡ (kept ++ 28 ∷ []) ++ w → 13 ∷ [] ≡ w ++ run → (front : List ℕ) × (run ≡ front ++ 13 ∷ []) × (content ++ front ≡ kept ++ 28 ∷ [])
        at_seam content run kept some [] e f = ([], sym f, append-nil content ∙ e ∙ append-nil (kept ++ 28 ∷ []))
        at_seam content run kept some (x ∷ w) e f = absurd (omega (arith, some, ap length f, length-append w run))

-- the run without its FS and CR, where it has both
pub ended : (content run kept : List ℕ) → content ++ run ≡ kept ++ 28 ∷ 13 ∷ [] → 2 ≤ length run → (content ++ take (length run - 2) run) ++ 28 ∷ 13 ∷ [] ≡ content ++ run
ended content run kept e some =
    let front = take (length run - 2) run in
    let back = drop (length run - 2) run in
    let whole : (content ++ front) ++ back ≡ kept ++ 28 ∷ 13 ∷ [] = append_assoc content front back ∙ ap (λ (x : List ℕ). content ++ x) (take-append-drop (length run - 2) run) ∙ e in
    let n : length back ≡ 2 = omega (arith, some, length-drop (length run - 2) run) in
    let is : back ≡ 28 ∷ 13 ∷ [] = same_back (content ++ front) back kept whole n in
    ap (λ (x : List ℕ). (content ++ front) ++ x) (sym is) ∙ append_assoc content front back ∙ ap (λ (x : List ℕ). content ++ x) (take-append-drop (length run - 2) run)
  where
    no_more : (w rest : List ℕ) → length (w ++ rest) ≡ length rest → w ≡ []
    no_more [] rest e = refl
    no_more (x ∷ w) rest e = absurd (omega (arith, e, length-append w rest))

    same_back : (a back kept : List ℕ) → a ++ back ≡ kept ++ 28 ∷ 13 ∷ [] → length back ≡ 2 → back ≡ 28 ∷ 13 ∷ []
    same_back a back kept e n =
        elim (overlap a back kept (28 ∷ 13 ∷ []) e) as (λ _. back ≡ 28 ∷ 13 ∷ []) [
          | inl p ↦ (let none : p.0 ≡ [] = no_more p.0 back (omega (arith, n, ap length p.2)) in sym (p.2 ∙ ap (λ (w : List ℕ). w ++ back) none))
          | inr p ↦ (let none : p.0 ≡ [] = no_more p.0 (28 ∷ 13 ∷ []) (omega (arith, n, ap length p.2)) in p.2 ∙ ap (λ (w : List ℕ). w ++ 28 ∷ 13 ∷ []) none)
        ]

pub lone_stays_open : (content piece : List ℕ) (byte : ℕ) → IsLone content piece byte → StaysOpen content piece
lone_stays_open content piece byte lone =
    rw lone.whole
    (record {
      unended = λ h. HasNoEnd-more content (byte ∷ []) h (lone.not_return, tt);
      short = omega (arith, lone.room, content_len-le (content ++ byte ∷ []), length-append content (byte ∷ []));
    })
