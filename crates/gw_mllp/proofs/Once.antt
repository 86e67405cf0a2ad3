-- What a decoder holds is a function of the stream.
use Rattle.std.proofs.Common.{◌≡◌, ◌↔◌, ℕ, ◌<◌, List, [], ◌∷◌, ◌++◌, map, None, Some, refl, sym, ap, ◌∙◌, append_assoc, arith, inl, inr}
use Rattle.std.proofs.lemmas.List.{append_cancel_left}
use Rattle.std.specs.List.{flat_map, AllByRecursion}
use Rattle.gw_mllp.specs.Stream.{IsGap, HasNoEnd, Part, IsPart, IsRest, LongAfter, IsLong, spelled, content_of, content_len, Tail, Between, Within, Overlong, Held, Has, Stands}
use Rattle.gw_mllp.proofs.Ends.{overlap}
use Rattle.gw_mllp.proofs.Fronts.{same_gap, same_content, after_gap, content_len-front}
use Rattle.gw_mllp.proofs.Unique.{one_cut}

-- A front that leaves too long a block open has the blocks of any other such front that is not before it.
same_blocks : (qs ps : List Part) (r s gap t q : List ℕ) → AllByRecursion IsPart qs → AllByRecursion IsPart ps → IsRest (Some s) r
    → IsGap gap → HasNoEnd t → 1048576 < content_len t → flat_map spelled qs ++ (gap ++ 11 ∷ (t ++ q)) ≡ flat_map spelled ps ++ r → map content_of qs ≡ map content_of ps
same_blocks [] [] r s gap t q qeach each is_rest is_gap no_end long e = refl
same_blocks [] (p ∷ ps) r s gap t q qeach each is_rest is_gap no_end long e =
    let more = flat_map spelled ps ++ r in
    let whole : flat_map spelled (p ∷ ps) ++ r ≡ p.gap ++ 11 ∷ (p.content ++ 28 ∷ 13 ∷ more) = append_assoc (spelled p) (flat_map spelled ps) r ∙ after_gap p more in
    let same = same_gap gap p.gap (t ++ q) (p.content ++ 28 ∷ 13 ∷ more) is_gap each.0.gap (e ∙ whole) in
    absurd (omega (arith, long, content_len-front t q p.content more no_end same.1, each.0.limit))
same_blocks (x ∷ qs) [] r s gap t q qeach each is_rest is_gap no_end long e =
    let more = flat_map spelled qs ++ (gap ++ 11 ∷ (t ++ q)) in
    let whole : r ≡ x.gap ++ 11 ∷ (x.content ++ 28 ∷ 13 ∷ more) = sym e ∙ append_assoc (spelled x) (flat_map spelled qs) (gap ++ 11 ∷ (t ++ q)) ∙ after_gap x more in
    let same = same_gap is_rest.0 x.gap s (x.content ++ 28 ∷ 13 ∷ more) is_rest.1 qeach.0.gap (sym is_rest.2 ∙ whole) in
    absurd (is_rest.3 x.content more same.1)
same_blocks (x ∷ qs) (p ∷ ps) r s gap t q qeach each is_rest is_gap no_end long e =
    let qmore = flat_map spelled qs ++ (gap ++ 11 ∷ (t ++ q)) in
    let more = flat_map spelled ps ++ r in
    let left : flat_map spelled (x ∷ qs) ++ (gap ++ 11 ∷ (t ++ q)) ≡ x.gap ++ 11 ∷ (x.content ++ 28 ∷ 13 ∷ qmore) = append_assoc (spelled x) (flat_map spelled qs) (gap ++ 11 ∷ (t ++ q)) ∙ after_gap x qmore in
    let right : flat_map spelled (p ∷ ps) ++ r ≡ p.gap ++ 11 ∷ (p.content ++ 28 ∷ 13 ∷ more) = append_assoc (spelled p) (flat_map spelled ps) r ∙ after_gap p more in
    let same = same_gap x.gap p.gap (x.content ++ 28 ∷ 13 ∷ qmore) (p.content ++ 28 ∷ 13 ∷ more) qeach.0.gap each.0.gap (sym left ∙ e ∙ right) in
    let rest = same_content x.content p.content qmore more qeach.0.content each.0.content same.1 in
    let heads : x.content ≡ p.content = rest.0 in
    let tails : map content_of qs ≡ map content_of ps = same_blocks qs ps r s gap t q qeach.1 each.1 is_rest is_gap no_end long rest.1 in
    cc

-- two such fronts, the first not behind the second
ordered : (stream : List ℕ) (xs ys : List (List ℕ)) (a : LongAfter stream xs) (b : LongAfter stream ys) (w : List ℕ) → b.front ≡ a.front ++ w → xs ≡ ys
ordered stream xs ys a b w e =
    let gap = a.cut.is_rest.0 in
    let parts = flat_map spelled a.cut.parts in
    let whole : parts ++ (gap ++ 11 ∷ (a.left ++ w)) ≡ flat_map spelled b.cut.parts ++ b.cut.rest =
    sym (append_assoc parts (gap ++ 11 ∷ a.left) w ∙ ap (λ (x : List ℕ). parts ++ x) (append_assoc gap (11 ∷ a.left) w))
    ∙ ap (λ (x : List ℕ). (parts ++ x) ++ w) (sym a.cut.is_rest.2) ∙ ap (λ (x : List ℕ). x ++ w) (sym a.cut.whole) ∙ sym e ∙ b.cut.whole in
    a.cut.contents ∙ same_blocks a.cut.parts b.cut.parts b.cut.rest b.left gap a.left w a.cut.each b.cut.each b.cut.is_rest a.cut.is_rest.1 a.cut.is_rest.3 a.long whole ∙ sym b.cut.contents

long_once : (stream : List ℕ) (xs ys : List (List ℕ)) → LongAfter stream xs → LongAfter stream ys → xs ≡ ys
long_once stream xs ys a b =
    elim (overlap a.front a.more b.front b.more (sym a.whole ∙ b.whole)) as (λ _. xs ≡ ys) [
      | inl p ↦ sym (ordered stream ys xs b a p.0 p.1)
      | inr p ↦ ordered stream xs ys a b p.0 p.1
    ]

-- the same blocks, and the same tail
record Same (xs ys : List (List ℕ)) (t u : Tail) : Type 0 where
  pub blocks : xs ≡ ys
  pub tail : t ≡ u

has_once : (stream : List ℕ) (xs ys : List (List ℕ)) (t u : Tail) → Has stream xs t → Has stream ys u → Same xs ys t u
has_once stream xs ys Between Between a b = record { blocks = (one_cut stream xs ys None None a.0 b.0).0; tail = refl }
has_once stream xs ys Between (Within u) a b = let same : None ≡ Some u = (one_cut stream xs ys None (Some u) a.0 b.0).1 in absurd cc
has_once stream xs ys Between Overlong a b = absurd (a.1 (ys, b))
has_once stream xs ys (Within t) Between a b = let same : Some t ≡ None = (one_cut stream xs ys (Some t) None a.0 b.0).1 in absurd cc
has_once stream xs ys (Within t) (Within u) a b =
    let same = one_cut stream xs ys (Some t) (Some u) a.0 b.0 in
    let inner : Some t ≡ Some u = same.1 in
    record { blocks = same.0; tail = cc }
has_once stream xs ys (Within t) Overlong a b = absurd (a.1 (ys, b))
has_once stream xs ys Overlong Between a b = absurd (b.1 (xs, a))
has_once stream xs ys Overlong (Within u) a b = absurd (b.1 (xs, a))
has_once stream xs ys Overlong Overlong a b = record { blocks = long_once stream xs ys a b; tail = refl }

abbrev held_of : List (List ℕ) → Tail → Held
held_of waiting tail = record { waiting = waiting; tail = tail }

pub stands_once : (stream : List ℕ) (given : List (List ℕ)) (a b : Held) → Stands stream given a → Stands stream given b → a ≡ b
stands_once stream given a b ha hb =
    let same = has_once stream (given ++ a.waiting) (given ++ b.waiting) a.tail b.tail ha hb in
    let waits : a.waiting ≡ b.waiting = append_cancel_left given a.waiting b.waiting same.blocks in
    let tails : a.tail ≡ b.tail = same.tail in
    held_same a b waits tails
  where
    held_same : (a b : Held) → a.waiting ≡ b.waiting → a.tail ≡ b.tail → a ≡ b
    held_same a b e f =
        let first : a ≡ record { waiting = b.waiting; tail = a.tail } = ap (λ (x : List (List ℕ)). held_of x a.tail) e in
        first ∙ ap (held_of b.waiting) f

pub overlong_exactly : (stream : List ℕ) (given : List (List ℕ)) (held : Held) → Stands stream given held → (held.tail ≡ Overlong) ↔ IsLong stream
overlong_exactly stream given held h = at_tail stream (given ++ held.waiting) held.tail h
  where
    at_tail : (stream : List ℕ) (blocks : List (List ℕ)) (tail : Tail) → Has stream blocks tail → (tail ≡ Overlong) ↔ IsLong stream
    at_tail stream blocks Between h = (λ e. absurd cc, λ long. absurd (h.1 long))
    at_tail stream blocks (Within t) h = (λ e. absurd cc, λ long. absurd (h.1 long))
    at_tail stream blocks Overlong h = (λ e. (blocks, h), λ long. refl)
