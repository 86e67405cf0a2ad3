-- Texts that lie in one buffer.
use Rattle.std.proofs.Common.{◌≡◌, ℕ, ◌+◌, ◌<◌, ◌≤◌, List, [], ◌∷◌, ◌++◌, length, take, drop, get_or, map, inl, inr, refl, sym, ap, subst, ◌∙◌, arith}
use Rattle.std.proofs.lemmas.List.{map-append, take-append-le, drop-append-le, length-drop, take_all, get_or-map, length-map}
use Rattle.std.proofs.Math.Seq.{drop-append_seam}
use Rattle.std.proofs.lemmas.List.Elements.{All-tail}
use Rattle.gw_er7.specs.declared.spans.TextSpan.{TextSpan}
use Rattle.gw_er7.specs.View.{Held, IsInside, AreInside, AreWithin, between, held_at, held}
use Rattle.gw_er7.specs.own.Spans.{AreOf}
use Rattle.gw_er7.specs.own.Borrowed.{IsNumbered}
use Rattle.gw_er7.proofs.Lying.{length-between, get_or-between}

-- what is appended to a buffer changes no slice that was in bounds
pub slice_kept : (k n : ℕ) (bytes more : List ℕ) → k + n ≤ length bytes → take n (drop k (bytes ++ more)) ≡ take n (drop k bytes)
slice_kept k n bytes more le =
    ap (take n) (drop-append-le k bytes more (omega (arith, le))) ∙ take-append-le n (drop k bytes) more (omega (arith, le, length-drop k bytes))

-- and it is the slice from the buffer's old end on
pub slice_put : (bytes more : List ℕ) → take (length more) (drop (length bytes) (bytes ++ more)) ≡ more
slice_put bytes more = ap (take (length more)) (drop-append_seam bytes more) ∙ take_all (length more) more (omega arith)

pub held_more : (bytes more : List ℕ) (ls : List TextSpan) → AreInside bytes ls → held (bytes ++ more) ls ≡ held bytes ls
held_more bytes more [] h = refl
held_more bytes more (l ∷ ls) h =
    let text = slice_kept l.from l.len bytes more (h 0 l (omega arith)) in
    ap (λ (t : List ℕ). record { place = l.place; text = t } ∷ held (bytes ++ more) ls) text ∙ ap (λ (hs : List Held). held_at bytes l ∷ hs) (held_more bytes more ls (All-tail (IsInside bytes) l ls h))

pub held_put : (bytes more new : List ℕ) (ls ms : List TextSpan) (l : TextSpan) → AreInside bytes ls → new ≡ bytes ++ more → ms ≡ ls ++ l ∷ [] → l.from ≡ length bytes → l.len ≡ length more → held new ms ≡ held bytes ls ++ record { place = l.place; text = more } ∷ []
held_put bytes more new ls ms l h b e from len =
    let text : take l.len (drop l.from (bytes ++ more)) ≡ more = rw (from, len) (slice_put bytes more) in
    let here : held_at (bytes ++ more) l ≡ record { place = l.place; text = more } = λ i. record { place = l.place; text = text i } in
    rw (b, e) (map-append (held_at (bytes ++ more)) ls (l ∷ []) ∙ ap (λ (hs : List Held). hs ++ held_at (bytes ++ more) l ∷ []) (held_more bytes more ls h) ∙ ap (λ (x : Held). held bytes ls ++ x ∷ []) here)

pub length-held : (bytes : List ℕ) (ls : List TextSpan) → length (held bytes ls) ≡ length ls
length-held bytes ls = length-map ls (held_at bytes)

-- ---- some of the texts

module _ (bytes : List ℕ) (from to : ℕ) (ls : List TextSpan) (i : ℕ) (l : TextSpan) (now : List Held) (are : AreWithin bytes from to ls) (view : between from to (held bytes ls) ≡ now) (lt : i < length now) (here : get_or ls (from + i) l ≡ l) where
  before : from + i < to
  before = omega (arith, lt, ap length view, length-between from to (held bytes ls) (omega (arith, are.bound, length-held bytes ls)), are.rising)

  pub inside_at : l.from + l.len ≤ length bytes
  inside_at = (let inside = are.inside (from + i) l (omega (arith, before, are.bound)) in subst (λ (m : TextSpan). m.from + m.len ≤ length bytes) here inside)

  pub value_at : (other : Held) → get_or now i other ≡ held_at bytes l
  value_at other =
      ap (λ (hs : List Held). get_or hs i other) (sym view) ∙ get_or-between from to (held bytes ls) i other before
      ∙ get_or-map (held_at bytes) ls (from + i) l other (omega (arith, before, are.bound)) ∙ ap (held_at bytes) here

-- ---- the same of spans that are kept as a slice

module _ {N : Type 0} (said : N → TextSpan) where
  are_narrow : (from to : ℕ) (ns : List N) (ls : List TextSpan) → AreOf said from to ns ls → 0 < length ns → map said ns ≡ between from to ls
  are_narrow from to ns ls (inl e) some = absurd (omega (arith, some, ap length e))
  are_narrow from to ns ls (inr e) some = e

module _ {N : Type 0} (said : N → TextSpan) (bytes : List ℕ) (from to : ℕ) (ns : List N) (ls : List TextSpan) (i : ℕ) (d : N) (l : TextSpan) (now : List Held) (are : AreWithin bytes from to ls) (of : AreOf said from to ns ls) (view : between from to (held bytes ls) ≡ now) (lt : i < length ns) (is : l ≡ said (get_or ns i d)) where
  same : map said ns ≡ between from to ls
  same = are_narrow said from to ns ls of (omega (arith, lt))

  narrow_before : from + i < to
  narrow_before = omega (arith, lt, length-map ns said, ap length same, length-between from to ls are.bound, are.rising)

  narrow_here : get_or ls (from + i) l ≡ l
  narrow_here =
      sym (get_or-between from to ls i l narrow_before) ∙ ap (λ (ms : List TextSpan). get_or ms i l) (sym same) ∙ get_or-map said ns i d l lt ∙ sym is

  narrow_lt : i < length now
  narrow_lt = omega (arith, narrow_before, ap length view, length-between from to (held bytes ls) (omega (arith, are.bound, length-held bytes ls)))

  pub narrow_inside : l.from + l.len ≤ length bytes
  narrow_inside = inside_at bytes from to ls i l now are view narrow_lt narrow_here

  pub narrow_value : (value : Held) → value ≡ held_at bytes l → IsNumbered now i value
  narrow_value value e = record { within = narrow_lt; is = λ other. value_at bytes from to ls i l now are view narrow_lt narrow_here other ∙ sym e }
