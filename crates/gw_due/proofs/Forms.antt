-- What is read is spelled so, and what is spelled so is read: of each part of a record.
use Rattle.std.proofs.Common.{◌≡◌, inl, inr, ℕ, zero, suc, ◌+◌, ◌*◌, ◌^◌, ◌<◌, ◌≤◌, Bool, true, false, cond, ltb, List, [], ◌∷◌, ◌++◌, length, get_or, take, drop, Option, Some, None, refl, sym, ap, subst, ◌∙◌, append_assoc, arith}
use Rattle.std.specs.Prelude.{flat_map}
use Rattle.std.specs.List.{AllByRecursion}
use Rattle.std.specs.Int.{Width, w32, w64, byte_len, from_be_bytes, to_be_bytes}
use Rattle.std.proofs.lemmas.Bool.{cases_lt, ltb-false, le-ltb}
use Rattle.std.proofs.lemmas.List.{take_at, drop_at, take-append-drop, length-append, length-take, length-drop, drop-drop, get_or-drop, get_or-take, get_or_past}
use Rattle.std.proofs.lemmas.List.Concat.{flat_map-cons}
use Rattle.std.proofs.Math.Seq.{take-add}
use Rattle.std.proofs.lemmas.Nat.{be_bytes_4, be_bytes_8, from_be_bytes-to_be_bytes_4, from_be_bytes-to_be_bytes_8}
use Rattle.gw_due.specs.Spelling.{text, receivers, IsShort, AreShort}
use Rattle.gw_due.specs.own.Reading.{Reader, ◌>>=◌, both, made, number_at, text_at, numbers, receivers_at}

pub record IsBytes (bytes : List ℕ) : Type 0 where
  pub each : (i : ℕ) → get_or bytes i 0 < 256

IsBytes-drop : (n : ℕ) (bytes : List ℕ) → IsBytes bytes → IsBytes (drop n bytes)
IsBytes-drop n bytes h = record { each = λ i. rw get_or-drop (h.each (n + i)) }

take_each : (n : ℕ) (bytes : List ℕ) → IsBytes bytes → (i : ℕ) → get_or (take n bytes) i 0 < 256
take_each n bytes h i =
    elim (cases_lt i n) [
      | inl lt ↦ rw (get_or-take n bytes i 0 lt) (h.each i)
      | inr le ↦ rw (get_or_past (take n bytes) i 0 (omega (arith, length-take n bytes))) (omega arith)
    ]

IsBytes-take : (n : ℕ) (bytes : List ℕ) → IsBytes bytes → IsBytes (take n bytes)
IsBytes-take n bytes h = record { each = take_each n bytes h }

pub IsBytes-rest : (b : ℕ) (bytes : List ℕ) → IsBytes (b ∷ bytes) → IsBytes bytes
IsBytes-rest b bytes h = record { each = λ i. h.each (suc i) }

-- what a reader took from the front
pub record Takes (bytes front rest : List ℕ) : Type 0 where
  pub parts : bytes ≡ front ++ rest
  pub rest_fits : IsBytes rest

pub Takes-then : (a x b y c : List ℕ) → Takes a x b → Takes b y c → Takes a (x ++ y) c
Takes-then a x b y c p q = record { parts = p.parts ∙ ap (λ (t : List ℕ). x ++ t) q.parts ∙ sym (append_assoc x y c); rest_fits = q.rest_fits }

-- a value that was read is spelled so, and what is spelled so is read
pub record Reads {A : Type 0} (Fits : A → Type 0) (spell : A → List ℕ) (bytes : List ℕ) (x : A) (rest : List ℕ) : Type 0 where
  pub takes : Takes bytes (spell x) rest
  pub fits : Fits x

pub record IsForm {A : Type 0} (Fits : A → Type 0) (spell : A → List ℕ) (at : Reader A) : Type 0 where
  pub reads : (bytes : List ℕ) (x : A × List ℕ) → IsBytes bytes → at bytes ≡ Some x → Reads Fits spell bytes x.0 x.1
  pub again : (x : A) (rest : List ℕ) → Fits x → at (spell x ++ rest) ≡ Some (x, rest)

-- the value of a step that did not fail
pub bind_some : {A B : Type 0} (r : Option A) (f : A → Option B) (y : B) → (r >>= f) ≡ Some y → (x : A) × (r ≡ Some x) × (f x ≡ Some y)
bind_some (Some x) f y e = (x, refl, e)
bind_some None f y e = absurd cc

-- a test that did not fail, one that did not succeed
guard_not : {A : Type 0} (b : Bool) (x : Option A) (y : A) → cond b None x ≡ Some y → (b ≡ false) × (x ≡ Some y)
guard_not true x y e = absurd cc
guard_not false x y e = (refl, e)

pub guard : {A : Type 0} (b : Bool) (x : Option A) (y : A) → cond b x None ≡ Some y → (b ≡ true) × (x ≡ Some y)
guard true x y e = (refl, e)
guard false x y e = absurd cc

pub some_is : {A : Type 0} (x y : A) → Some x ≡ Some y → x ≡ y
some_is x y e = cc

-- ---- one part behind the other, and what parts make

abbrev pub BothFit : {A B : Type 0} → (A → Type 0) → (B → Type 0) → A × B → Type 0
BothFit F G p = F p.0 × G p.1

abbrev pub both_spelled : {A B : Type 0} → (A → List ℕ) → (B → List ℕ) → A × B → List ℕ
both_spelled f g p = f p.0 ++ g p.1

pub both_form : {A B : Type 0} (F : A → Type 0) (G : B → Type 0) (f : A → List ℕ) (g : B → List ℕ) (first : Reader A) (second : Reader B)
    → IsForm F f first → IsForm G g second → IsForm (BothFit F G) (both_spelled f g) (both first second)
both_form {A} {B} F G f g first second p q = record {
  reads = λ bytes x is e.
      let a = bind_some (first bytes) (λ a. second a.1 >>= λ b. Some ((a.0, b.0), b.1)) x e in
      let b = bind_some (second a.0.1) (λ b. Some ((a.0.0, b.0), b.1)) x a.2 in
      let one = p.reads bytes a.0 is a.1 in
      let two = q.reads a.0.1 b.0 one.takes.rest_fits b.1 in
      let here : Reads (BothFit F G) (both_spelled f g) bytes (a.0.0, b.0.0) b.0.1 = record {
        takes = Takes-then bytes (f a.0.0) a.0.1 (g b.0.0) b.0.1 one.takes two.takes;
        fits = (one.fits, two.fits);
      } in
      subst (λ (y : (A × B) × List ℕ). Reads (BothFit F G) (both_spelled f g) bytes y.0 y.1) (some_is ((a.0.0, b.0.0), b.0.1) x b.2) here;
  again = λ x rest fits.
      ap (both first second) (append_assoc (f x.0) (g x.1) rest)
      ∙ rw (p.again x.0 (g x.1 ++ rest) fits.0, q.again x.1 rest fits.1) refl;
}

-- what was made of a part that was read
pub made_reads : {A B : Type 0} (F : A → Type 0) (f : A → List ℕ) (at : Reader A) (make : A → B) → IsForm F f at
    → (bytes : List ℕ) (x : B × List ℕ) → IsBytes bytes → made make at bytes ≡ Some x → (a : A) × (make a ≡ x.0) × Reads F f bytes a x.1
made_reads {A} {B} F f at make form bytes x is e =
    let a = bind_some (at bytes) (λ a. Some (make a.0, a.1)) x e in
    let made_is = some_is (make a.0.0, a.0.1) x a.2 in
    let r = form.reads bytes a.0 is a.1 in
    (a.0.0, ap (λ (p : B × List ℕ). p.0) made_is, subst (λ (l : List ℕ). Reads F f bytes a.0.0 l) (ap (λ (p : B × List ℕ). p.1) made_is) r)

pub made_again : {A B : Type 0} (F : A → Type 0) (f : A → List ℕ) (at : Reader A) (make : A → B) → IsForm F f at
    → (a : A) (rest : List ℕ) → F a → made make at (f a ++ rest) ≡ Some (make a, rest)
made_again F f at make form a rest fits = rw (form.again a rest fits) refl

-- ---- numbers

record IsWide (w : Width) (limit : ℕ) : Type 0 where
  pub len : (n : ℕ) → length (to_be_bytes w n) ≡ byte_len w
  pub back : (bytes : List ℕ) → length bytes ≡ byte_len w → IsBytes bytes → to_be_bytes w (from_be_bytes w bytes) ≡ bytes
  pub again : (n : ℕ) → n < limit → from_be_bytes w (to_be_bytes w n) ≡ n
  pub below : (bytes : List ℕ) → IsBytes bytes → from_be_bytes w bytes < limit

wide32 : IsWide w32 (2 ^ 32)
wide32 = record {
  len = λ n. refl;
  back = λ bytes len fits. be_bytes_4 bytes _ len fits.each refl;
  again = λ n lt. from_be_bytes-to_be_bytes_4 n lt;
  below = λ bytes fits. omega (arith, fits.each 0, fits.each 1, fits.each 2, fits.each 3);
}

wide64 : IsWide w64 (2 ^ 64)
wide64 = record {
  len = λ n. refl;
  back = λ bytes len fits. be_bytes_8 bytes _ len fits.each refl;
  again = λ n lt. from_be_bytes-to_be_bytes_8 n lt;
  below = λ bytes fits. omega (arith, fits.each 0, fits.each 1, fits.each 2, fits.each 3, fits.each 4, fits.each 5, fits.each 6, fits.each 7);
}

number_form : (w : Width) (limit : ℕ) → IsWide w limit → IsForm (λ n. n < limit) (to_be_bytes w) (number_at w)
number_form w limit wide = record {
  reads = λ bytes x is e.
      let g = guard_not (ltb (length bytes) (byte_len w)) (Some (from_be_bytes w (take (byte_len w) bytes), drop (byte_len w) bytes)) x e in
      let long : byte_len w ≤ length bytes = ltb-false _ _ g.0 in
      let front = IsBytes-take (byte_len w) bytes is in
      let len : length (take (byte_len w) bytes) ≡ byte_len w = omega (arith, length-take (byte_len w) bytes) in
      let here : Reads (λ n. n < limit) (to_be_bytes w) bytes (from_be_bytes w (take (byte_len w) bytes)) (drop (byte_len w) bytes) = record {
        takes = record {
          parts = sym (ap (λ l. l ++ drop (byte_len w) bytes) (wide.back (take (byte_len w) bytes) len front) ∙ take-append-drop (byte_len w) bytes);
          rest_fits = IsBytes-drop (byte_len w) bytes is;
        };
        fits = wide.below (take (byte_len w) bytes) front;
      } in
      subst (λ (y : ℕ × List ℕ). Reads (λ n. n < limit) (to_be_bytes w) bytes y.0 y.1) (some_is _ x g.1) here;
  again = λ n rest lt.
      let len = wide.len n in
      let long : ltb (length (to_be_bytes w n ++ rest)) (byte_len w) ≡ false = le-ltb _ _ (omega (arith, length-append (to_be_bytes w n) rest)) in
      rw (long, take_at (to_be_bytes w n) rest (byte_len w) len, drop_at (to_be_bytes w n) rest (byte_len w) len, wide.again n lt) refl;
}

abbrev pub Below32 : ℕ → Type 0
Below32 n = n < 2 ^ 32

abbrev pub Below64 : ℕ → Type 0
Below64 n = n < 2 ^ 64

pub number32 : IsForm Below32 (to_be_bytes w32) (number_at w32)
number32 = number_form w32 (2 ^ 32) wide32

pub number64 : IsForm Below64 (to_be_bytes w64) (number_at w64)
number64 = number_form w64 (2 ^ 64) wide64

-- ---- texts

text_reads : (bytes : List ℕ) (x : List ℕ × List ℕ) → IsBytes bytes → text_at bytes ≡ Some x → Reads IsShort text bytes x.0 x.1
unfolding text_at
text_reads bytes x is e =
    let b = bind_some (number_at w32 bytes) (λ n. cond (ltb (length n.1) n.0) None (Some (take n.0 n.1, drop n.0 n.1))) x e in
    let n = b.0 in
    let t = number32.reads bytes n is b.1 in
    let g = guard_not (ltb (length n.1) n.0) (Some (take n.0 n.1, drop n.0 n.1)) x b.2 in
    let long : n.0 ≤ length n.1 = ltb-false _ _ g.0 in
    let len : length (take n.0 n.1) ≡ n.0 = omega (arith, length-take n.0 n.1) in
    let second : Takes n.1 (take n.0 n.1) (drop n.0 n.1) = record { parts = sym (take-append-drop n.0 n.1); rest_fits = IsBytes-drop n.0 n.1 t.takes.rest_fits } in
    let both = Takes-then bytes (to_be_bytes w32 n.0) n.1 (take n.0 n.1) (drop n.0 n.1) t.takes second in
    let here : Reads IsShort text bytes (take n.0 n.1) (drop n.0 n.1) = record {
      takes = subst (λ (k : ℕ). Takes bytes (to_be_bytes w32 k ++ take n.0 n.1) (drop n.0 n.1)) (sym len) both;
      fits = omega (arith, t.fits);
    } in
    subst (λ (p : List ℕ × List ℕ). Reads IsShort text bytes p.0 p.1) (some_is _ x g.1) here

text_again : (bytes rest : List ℕ) → IsShort bytes → text_at (text bytes ++ rest) ≡ Some (bytes, rest)
unfolding text_at
text_again bytes rest lt =
    let long : ltb (length (bytes ++ rest)) (length bytes) ≡ false = le-ltb _ _ (omega (arith, length-append bytes rest)) in
    rw (number32.again (length bytes) (bytes ++ rest) lt, long, take_at bytes rest (length bytes) refl, drop_at bytes rest (length bytes) refl) refl

pub text_form : IsForm IsShort text text_at
text_form = record { reads = text_reads; again = text_again }

-- ---- receivers

abbrev AreWide : List ℕ → Type 0
AreWide to = AllByRecursion (λ r. r < 2 ^ 32) to

record AreSpelled (n : ℕ) (bytes : List ℕ) : Type 0 where
  pub front : take (4 * n) bytes ≡ flat_map (to_be_bytes w32) (numbers n bytes)
  pub count : length (numbers n bytes) ≡ n
  pub wide : AreWide (numbers n bytes)

numbers_spelled : (n : ℕ) (bytes : List ℕ) → 4 * n ≤ length bytes → IsBytes bytes → AreSpelled n bytes
unfolding numbers
numbers_spelled zero bytes enough is = record { front = refl; count = refl; wide = tt }
numbers_spelled (suc n) bytes enough is =
    let rest : AreSpelled n (drop 4 bytes) = numbers_spelled n (drop 4 bytes) (omega (arith, length-drop 4 bytes)) (IsBytes-drop 4 bytes is) in
    let len : length (take 4 bytes) ≡ 4 = omega (arith, length-take 4 bytes) in
    let four : 4 * suc n ≡ 4 + 4 * n = omega arith in
    record {
      front = ap (λ k. take k bytes) four ∙ take-add 4 (4 * n) bytes
          ∙ ap (λ l. l ++ take (4 * n) (drop 4 bytes)) (sym (wide32.back (take 4 bytes) len (IsBytes-take 4 bytes is)))
          ∙ ap (λ l. to_be_bytes w32 (from_be_bytes w32 (take 4 bytes)) ++ l) rest.front
          ∙ sym (flat_map-cons (to_be_bytes w32) (from_be_bytes w32 (take 4 bytes)) (numbers n (drop 4 bytes)));
      count = ap suc rest.count;
      wide = (wide32.below (take 4 bytes) (IsBytes-take 4 bytes is), rest.wide);
    }

receivers_reads : (bytes : List ℕ) (x : List ℕ × List ℕ) → IsBytes bytes → receivers_at bytes ≡ Some x → Reads AreShort receivers bytes x.0 x.1
unfolding receivers_at
receivers_reads bytes x is e =
    let b = bind_some (number_at w32 bytes) (λ n. cond (ltb (length n.1) (4 * n.0)) None (Some (numbers n.0 n.1, drop (4 * n.0) n.1))) x e in
    let n = b.0 in
    let t = number32.reads bytes n is b.1 in
    let g = guard_not (ltb (length n.1) (4 * n.0)) (Some (numbers n.0 n.1, drop (4 * n.0) n.1)) x b.2 in
    let long : 4 * n.0 ≤ length n.1 = ltb-false _ _ g.0 in
    let all = numbers_spelled n.0 n.1 long t.takes.rest_fits in
    let second : Takes n.1 (flat_map (to_be_bytes w32) (numbers n.0 n.1)) (drop (4 * n.0) n.1) = record {
      parts = sym (ap (λ l. l ++ drop (4 * n.0) n.1) (sym all.front) ∙ take-append-drop (4 * n.0) n.1);
      rest_fits = IsBytes-drop (4 * n.0) n.1 t.takes.rest_fits;
    } in
    let both = Takes-then bytes (to_be_bytes w32 n.0) n.1 (flat_map (to_be_bytes w32) (numbers n.0 n.1)) (drop (4 * n.0) n.1) t.takes second in
    let here : Reads AreShort receivers bytes (numbers n.0 n.1) (drop (4 * n.0) n.1) = record {
      takes = subst (λ (k : ℕ). Takes bytes (to_be_bytes w32 k ++ flat_map (to_be_bytes w32) (numbers n.0 n.1)) (drop (4 * n.0) n.1)) (sym all.count) both;
      fits = (omega (arith, t.fits, all.count), all.wide);
    } in
    subst (λ (p : List ℕ × List ℕ). Reads AreShort receivers bytes p.0 p.1) (some_is _ x g.1) here

record AreAgain (to rest : List ℕ) : Type 0 where
  pub are : numbers (length to) (flat_map (to_be_bytes w32) to ++ rest) ≡ to
  pub behind : drop (4 * length to) (flat_map (to_be_bytes w32) to ++ rest) ≡ rest
  pub enough : 4 * length to ≤ length (flat_map (to_be_bytes w32) to ++ rest)

numbers_again : (to rest : List ℕ) → AreWide to → AreAgain to rest
unfolding numbers
numbers_again [] rest wide = record { are = refl; behind = refl; enough = omega arith }
numbers_again (r ∷ to) rest wide =
    let more = numbers_again to rest wide.1 in
    let bytes : List ℕ = flat_map (to_be_bytes w32) to ++ rest in
    let grouped : flat_map (to_be_bytes w32) (r ∷ to) ++ rest ≡ to_be_bytes w32 r ++ bytes =
    ap (λ l. l ++ rest) (flat_map-cons (to_be_bytes w32) r to) ∙ append_assoc (to_be_bytes w32 r) (flat_map (to_be_bytes w32) to) rest in
    let front = take_at (to_be_bytes w32 r) bytes 4 refl in
    let tail = drop_at (to_be_bytes w32 r) bytes 4 refl in
    let four : 4 * length (r ∷ to) ≡ 4 + 4 * length to = omega arith in
    record {
      are = ap (λ l. from_be_bytes w32 (take 4 l) ∷ numbers (length to) (drop 4 l)) grouped
          ∙ ap (λ l. from_be_bytes w32 l ∷ numbers (length to) (drop 4 (to_be_bytes w32 r ++ bytes))) front
          ∙ ap (λ l. from_be_bytes w32 (to_be_bytes w32 r) ∷ numbers (length to) l) tail
          ∙ ap (λ l. from_be_bytes w32 (to_be_bytes w32 r) ∷ l) more.are
          ∙ ap (λ n. n ∷ to) (wide32.again r wide.0);
      behind = ap (λ k. drop k (flat_map (to_be_bytes w32) (r ∷ to) ++ rest)) four
          ∙ ap (λ l. drop (4 + 4 * length to) l) grouped ∙ sym (drop-drop (4 * length to) 4 (to_be_bytes w32 r ++ bytes))
          ∙ ap (λ l. drop (4 * length to) l) tail ∙ more.behind;
      enough = omega (arith, ap length grouped, length-append (to_be_bytes w32 r) bytes, more.enough);
    }

receivers_again : (to rest : List ℕ) → AreShort to → receivers_at (receivers to ++ rest) ≡ Some (to, rest)
unfolding receivers_at
receivers_again to rest short =
    let all = numbers_again to rest short.1 in
    let bytes : List ℕ = flat_map (to_be_bytes w32) to ++ rest in
    let grouped : receivers to ++ rest ≡ to_be_bytes w32 (length to) ++ bytes = append_assoc (to_be_bytes w32 (length to)) (flat_map (to_be_bytes w32) to) rest in
    let long : ltb (length bytes) (4 * length to) ≡ false = le-ltb _ _ all.enough in
    ap receivers_at grouped ∙ rw (number32.again (length to) bytes short.0, long, all.are, all.behind) refl

pub receivers_form : IsForm AreShort receivers receivers_at
receivers_form = record { reads = receivers_reads; again = receivers_again }

pub all_below : (to : List ℕ) → ((i : ℕ) → get_or to i 0 < 2 ^ 32) → AreWide to
all_below [] each = tt
all_below (r ∷ to) each = (each 0, all_below to (λ i. each (suc i)))
