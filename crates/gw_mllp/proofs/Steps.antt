-- What each run of bytes does to the blocks of a stream.
use Rattle.std.proofs.Common.{◌≡◌, ℕ, ◌+◌, ◌<◌, ◌≤◌, List, [], ◌∷◌, ◌++◌, length, None, Some, refl, sym, ap, subst, ◌∙◌, append_assoc, arith}
use Rattle.std.proofs.lemmas.List.{append-nil, append_cancel_right, map-append}
use Rattle.std.proofs.lemmas.List.Concat.{flat_map-append}
use Rattle.std.specs.List.{flat_map, AllByRecursion}
use Rattle.gw_mllp.specs.Stream.{IsGap, HasNoEnd, Part, IsPart, Blocks, spelled, content_of, LongAfter, content_len}
use Rattle.std.proofs.lemmas.List.{length-append}
use Rattle.gw_mllp.specs.Stream.{Tail, Between, Within, Overlong}
use Rattle.gw_mllp.specs.Taken.{Begins, EndsAt, EndsWithin, Overruns, StaysOpen, Taken, Goes, Steps, Adds}
use Rattle.gw_mllp.proofs.Ends.{HasNoEnd-nil, Lacks-append}

pub AllByRecursion-push : {X : Type 0} (P : X → Type 0) (xs : List X) (x : X) → AllByRecursion P xs → P x → AllByRecursion P (xs ++ x ∷ [])
AllByRecursion-push P [] x h p = (p, tt)
AllByRecursion-push P (y ∷ xs) x h p = (h.0, AllByRecursion-push P xs x h.1 p)

-- a run up to a VT
pub Blocks-begin : (s g : List ℕ) (bs : List (List ℕ)) → Blocks s bs None → IsGap g → Blocks (s ++ (g ++ 11 ∷ [])) bs (Some [])
Blocks-begin s g bs cut gap = record {
  parts = cut.parts;
  rest = cut.rest ++ (g ++ 11 ∷ []);
  whole = ap (λ (x : List ℕ). x ++ (g ++ 11 ∷ [])) cut.whole ∙ append_assoc (flat_map spelled cut.parts) cut.rest (g ++ 11 ∷ []);
  each = cut.each;
  contents = cut.contents;
  is_rest = (cut.rest ++ g, Lacks-append 11 cut.rest g cut.is_rest gap, sym (append_assoc cut.rest g (11 ∷ [])), HasNoEnd-nil);
}

-- a run within a block
pub Blocks-more : (s t u : List ℕ) (bs : List (List ℕ)) → Blocks s bs (Some t) → HasNoEnd (t ++ u) → Blocks (s ++ u) bs (Some (t ++ u))
Blocks-more s t u bs cut no_end = record {
  parts = cut.parts;
  rest = cut.rest ++ u;
  whole = ap (λ (x : List ℕ). x ++ u) cut.whole ∙ append_assoc (flat_map spelled cut.parts) cut.rest u;
  each = cut.each;
  contents = cut.contents;
  is_rest = (cut.is_rest.0, cut.is_rest.1, ap (λ (x : List ℕ). x ++ u) cut.is_rest.2 ∙ append_assoc cut.is_rest.0 (11 ∷ t) u, no_end);
}

-- a run that ends the block
pub Blocks-end : (s t u c : List ℕ) (bs : List (List ℕ)) → Blocks s bs (Some t) → t ++ u ≡ c ++ 28 ∷ 13 ∷ [] → HasNoEnd c → length c ≤ 1048576 → Blocks (s ++ u) (bs ++ c ∷ []) None
Blocks-end s t u c bs cut e no_end short =
    let gap = cut.is_rest.0 in
    let p : Part = record { gap = gap; content = c } in
    let front = flat_map spelled cut.parts in
    let whole : s ++ u ≡ (front ++ (gap ++ 11 ∷ t)) ++ u = ap (λ (x : List ℕ). x ++ u) (cut.whole ∙ ap (λ (x : List ℕ). front ++ x) cut.is_rest.2) in
    let inner : (gap ++ 11 ∷ t) ++ u ≡ spelled p = append_assoc gap (11 ∷ t) u ∙ ap (λ (x : List ℕ). gap ++ 11 ∷ x) e in
    let last : flat_map spelled (p ∷ []) ≡ spelled p = append-nil (spelled p) in
    record {
      parts = cut.parts ++ p ∷ [];
      rest = [];
      whole = whole ∙ append_assoc front (gap ++ 11 ∷ t) u ∙ ap (λ (x : List ℕ). front ++ x) (inner ∙ sym last)
          ∙ sym (flat_map-append spelled cut.parts (p ∷ [])) ∙ sym (append-nil (flat_map spelled (cut.parts ++ p ∷ [])));
      each = AllByRecursion-push IsPart cut.parts p cut.each (record { gap = cut.is_rest.1; content = no_end; limit = short });
      contents = ap (λ (x : List (List ℕ)). x ++ c ∷ []) cut.contents ∙ sym (map-append content_of cut.parts (p ∷ []));
      is_rest = tt;
    }

pub LongAfter-more : (s u : List ℕ) (bs : List (List ℕ)) → LongAfter s bs → LongAfter (s ++ u) bs
LongAfter-more s u bs h = record {
  front = h.front;
  more = h.more ++ u;
  whole = ap (λ (x : List ℕ). x ++ u) h.whole ∙ append_assoc h.front h.more u;
  left = h.left;
  cut = h.cut;
  long = h.long;
}

-- a run within a block that makes it too long, and what follows
pub LongAfter-now : (s t u v : List ℕ) (bs : List (List ℕ)) → Blocks s bs (Some t) → HasNoEnd (t ++ u) → 1048576 < content_len (t ++ u) → LongAfter (s ++ (u ++ v)) bs
LongAfter-now s t u v bs cut no_end long = record {
  front = s ++ u;
  more = v;
  whole = sym (append_assoc s u v);
  left = t ++ u;
  cut = Blocks-more s t u bs cut no_end;
  long = long;
}

-- ---- runs

pub goes_on : (made made₁ made₂ : List (List ℕ)) (tail tail₁ tail₂ : Tail) (run more : List ℕ) → Goes made tail run made₁ tail₁ → Goes made₁ tail₁ more made₂ tail₂ → Goes made tail (run ++ more) made₂ tail₂
goes_on made made₁ made₂ tail tail₁ tail₂ run more g h stream given taken =
    subst (λ (x : List ℕ). Taken x (given ++ made₂) tail₂) (append_assoc stream run more) (h (stream ++ run) given (g stream given taken))

-- the same behind other blocks
pub goes_behind : (first made made' : List (List ℕ)) (tail tail' : Tail) (run : List ℕ) → Goes made tail run made' tail' → Goes (first ++ made) tail run (first ++ made') tail'
goes_behind first made made' tail tail' run g stream given taken =
    subst (λ (x : List (List ℕ)). Taken (stream ++ run) x tail') (append_assoc given first made')
    (g stream (given ++ first) (subst (λ (x : List (List ℕ)). Taken stream x tail) (sym (append_assoc given first made)) taken))

pub goes_begin : (made : List (List ℕ)) (gap : List ℕ) → IsGap gap → Goes made Between (gap ++ 11 ∷ []) made (Within [])
goes_begin made gap lacks stream given taken = (Blocks-begin stream gap (given ++ made) taken lacks, omega arith)

pub goes_open : (made : List (List ℕ)) (content bytes : List ℕ) → StaysOpen content bytes → Goes made (Within content) bytes made (Within (content ++ bytes))
goes_open made content bytes s stream given taken = (Blocks-more stream content bytes (given ++ made) taken.0 (s.unended taken.0.is_rest.3), s.short)

pub goes_over : (made : List (List ℕ)) (content bytes : List ℕ) → Overruns content bytes → Goes made (Within content) bytes made Overlong
goes_over made content bytes o stream given taken =
    rw o.whole (LongAfter-now stream content o.run o.more (given ++ made) taken.0 (o.unended taken.0.is_rest.3) o.long)

pub goes_end : (made : List (List ℕ)) (content run kept : List ℕ) → EndsAt content run → length content + length run ≤ 1048578 → kept ++ 28 ∷ 13 ∷ [] ≡ content ++ run
    → Goes made (Within content) run (made ++ kept ∷ []) Between
goes_end made content run kept ends short e stream given taken =
    let same : kept ≡ ends.kept = same_kept kept ends.kept (e ∙ ends.whole) in
    let no_end : HasNoEnd kept = subst HasNoEnd (sym same) (ends.first taken.0.is_rest.3) in
    let limit : length kept ≤ 1048576 = omega (arith, short, ap length e, length-append content run, length-append kept (28 ∷ 13 ∷ [])) in
    subst (λ (x : List (List ℕ)). Blocks (stream ++ run) x None) (append_assoc given made (kept ∷ [])) (Blocks-end stream content run kept (given ++ made) taken.0 (sym e) no_end limit)
  where
    same_kept : (a b : List ℕ) → a ++ 28 ∷ 13 ∷ [] ≡ b ++ 28 ∷ 13 ∷ [] → a ≡ b
    same_kept a b e = append_cancel_right a b (28 ∷ 13 ∷ []) e

pub goes_long : (made : List (List ℕ)) (bytes : List ℕ) → Goes made Overlong bytes made Overlong
goes_long made bytes stream given taken = LongAfter-more stream bytes (given ++ made) taken

-- ---- a piece between two blocks

-- the block that begins in the bytes reaches through this run
through : (made made' : List (List ℕ)) (tail : Tail) (bytes inner run after : List ℕ) (begins : Begins bytes inner) → inner ≡ run ++ after → Goes made (Within []) run made' tail
    → (0 < length after → tail ≡ Between) → Steps made Between bytes made' tail after
through made made' tail bytes inner run after begins e g between = record {
  run = (begins.0 ++ 11 ∷ []) ++ run;
  whole = begins.2 ∙ ap (λ (x : List ℕ). begins.0 ++ 11 ∷ x) e ∙ sym (append_assoc begins.0 (11 ∷ []) (run ++ after)) ∙ sym (append_assoc (begins.0 ++ 11 ∷ []) run after);
  goes = goes_on made made made' Between (Within []) tail (begins.0 ++ 11 ∷ []) run (goes_begin made begins.0 begins.1) g;
  between = between;
  shorter = λ some. omega (arith, length-append (begins.0 ++ 11 ∷ []) run, length-append begins.0 (11 ∷ []));
}

pub begun_open : (made : List (List ℕ)) (bytes inner content : List ℕ) → Begins bytes inner → StaysOpen [] inner → content ≡ inner → Steps made Between bytes made (Within content) []
begun_open made bytes inner content begins stays e =
    rw e (through made made (Within inner) bytes inner inner [] begins (sym (append-nil inner)) (goes_open made [] inner stays) (λ some. absurd (omega arith)))

pub begun_over : (made : List (List ℕ)) (bytes inner : List ℕ) → Begins bytes inner → Overruns [] inner → Steps made Between bytes made Overlong []
begun_over made bytes inner begins o =
    through made made Overlong bytes inner inner [] begins (sym (append-nil inner)) (goes_over made [] inner o) (λ some. absurd (omega arith))

pub begun_end : (made made' : List (List ℕ)) (bytes inner run after kept : List ℕ) → Begins bytes inner → EndsWithin [] inner run after → kept ++ 28 ∷ 13 ∷ [] ≡ run → made' ≡ made ++ kept ∷ []
    → Steps made Between bytes made' Between after
begun_end made made' bytes inner run after kept begins w e f =
    rw f (through made (made ++ kept ∷ []) Between bytes inner run after begins w.whole (goes_end made [] run kept w.ends w.short e) (λ some. refl))

-- ---- steps one after another

-- runs from the front of the piece, each up to the end of a block
pub record Walks (made : List (List ℕ)) (piece : List ℕ) (made' : List (List ℕ)) (after : List ℕ) : Type 0 where
  pub run : List ℕ
  pub whole : piece ≡ run ++ after
  pub goes : Goes made Between run made' Between

pub walk_more : (made made₁ made₂ : List (List ℕ)) (tail : Tail) (piece mid after : List ℕ) → Walks made piece made₁ mid → Steps made₁ Between mid made₂ tail after → 0 < length after → Walks made piece made₂ after
walk_more made made₁ made₂ tail piece mid after w s some = record {
  run = w.run ++ s.run;
  whole = w.whole ∙ ap (λ (x : List ℕ). w.run ++ x) s.whole ∙ sym (append_assoc w.run s.run after);
  goes = goes_on made made₁ made₂ Between Between Between w.run s.run w.goes (subst (λ (t : Tail). Goes made₁ Between s.run made₂ t) (s.between some) s.goes);
}

pub walk_last : (made made₁ made₂ : List (List ℕ)) (tail : Tail) (piece mid after : List ℕ) → Walks made piece made₁ mid → Steps made₁ Between mid made₂ tail after → after ≡ [] → Goes made Between piece made₂ tail
walk_last made made₁ made₂ tail piece mid after w s e =
    let whole : piece ≡ w.run ++ s.run = w.whole ∙ ap (λ (x : List ℕ). w.run ++ x) (s.whole ∙ ap (λ (x : List ℕ). s.run ++ x) e ∙ append-nil s.run) in
    subst (λ (x : List ℕ). Goes made Between x made₂ tail) (sym whole) (goes_on made made₁ made₂ Between Between tail w.run s.run w.goes s.goes)

pub shorter : (made made' : List (List ℕ)) (tail tail' : Tail) (bytes after : List ℕ) → Steps made tail bytes made' tail' after → 0 < length after → length after < length bytes
shorter made made' tail tail' bytes after s some = omega (arith, ap length s.whole, length-append s.run after, s.shorter some)

-- ---- what a decoder adds

pub adds_none : (waiting : List (List ℕ)) (tail tail' : Tail) (piece : List ℕ) → Goes [] tail piece [] tail' → Adds waiting tail piece waiting tail'
adds_none waiting tail tail' piece g = record { made = []; waits = sym (append-nil waiting); goes = g }

pub adds_end : (waiting waiting₁ waiting' made : List (List ℕ)) (tail : Tail) (content run after kept : List ℕ) → EndsAt content run → length content + length run ≤ 1048578 → kept ++ 28 ∷ 13 ∷ [] ≡ content ++ run
    → Goes [] Between after made tail → waiting₁ ≡ waiting ++ kept ∷ [] → waiting' ≡ waiting₁ ++ made → Adds waiting (Within content) (run ++ after) waiting' tail
adds_end waiting waiting₁ waiting' made tail content run after kept ends short e g f h = record {
  made = kept ∷ made;
  waits = h ∙ ap (λ (x : List (List ℕ)). x ++ made) f ∙ append_assoc waiting (kept ∷ []) made;
  goes = goes_on [] (kept ∷ []) (kept ∷ made) (Within content) Between tail run after (goes_end [] content run kept ends short e) (goes_behind (kept ∷ []) [] made Between tail after g);
}
