-- Lists that are so many parts joined.
use Rattle.std.proofs.Common.{◌≡◌, ℕ, zero, suc, ◌+◌, ◌*◌, ◌≤◌, List, [], ◌∷◌, ◌++◌, Option, Some, None, refl, sym, ap, ◌∙◌, subst, arith, length}
use Rattle.std.proofs.lemmas.List.{append-nil, append_assoc}
use Rattle.std.proofs.Math.Nat.{mul-le-mul_right}
use Rattle.std.specs.List.{AllByRecursion}
use Rattle.gw_er7.specs.Message.{SegmentValue}
use Rattle.gw_profile.specs.Shapes.{ProfileValue}
use Rattle.gw_profile.specs.Deterministic.{AtMost}
use Rattle.gw_validate.specs.Cuts.{Many}
use Rattle.gw_resolve.specs.Intervals.{Interval, never, once, add, multiply, sum, product}
use Rattle.gw_resolve.specs.Places.{Element}
use Rattle.gw_leaves.specs.Counts.{chosen_count}
use Rattle.gw_interp.specs.Occurrences.{Occurrence}
use Rattle.gw_interp.specs.Meaning.{ForEach}
use Rattle.gw_interp.proofs.Walks.{IsOccurrence}
use Rattle.gw_interp.proofs.Paths.{Several}

-- as many parts as the interval allows
pub record Given (P : List SegmentValue → Type 0) (c : Interval) (list : List SegmentValue) : Type 0 where
  pub count : ℕ
  pub enough : c.least ≤ count
  pub few : AtMost c.greatest count
  pub parts : Many P count list

module _ (P : List SegmentValue → Type 0) where
  many_join : (a b : ℕ) (xs ys : List SegmentValue) → Many P a xs → Many P b ys → Many P (a + b) (xs ++ ys)
  many_join zero b xs ys h k =
      let zero_more : b ≡ 0 + b = omega arith in
      subst (λ n. Many P n (xs ++ ys)) zero_more (subst (λ l. Many P b (l ++ ys)) (sym h) k)
  many_join (suc a) b xs ys h k =
      let one_more : suc (a + b) ≡ suc a + b = omega arith in
      subst (λ n. Many P n (xs ++ ys)) one_more
      (record {
        front = h.front;
        back = h.back ++ ys;
        joined = ap (λ l. l ++ ys) h.joined ∙ append_assoc h.front h.back ys;
        here = h.here;
        there = many_join a b h.back ys h.there k;
      })

  pub given_none : (list : List SegmentValue) → list ≡ [] → Given P never list
  given_none list e = record { count = 0; enough = omega arith; few = omega arith; parts = e }

  pub given_one : (list : List SegmentValue) → P list → Given P once list
  given_one list h =
      record {
        count = 1;
        enough = omega arith;
        few = omega arith;
        parts = record { front = list; back = []; joined = sym (append-nil list); here = h; there = refl };
      }

  -- what isn't fewer than so many isn't fewer than maybe none
  pub maybe_fewer : {C : Type 0} (condition : Option C) (c : Interval) (list : List SegmentValue) → Given P c list → Given P (chosen_count condition c) list
  maybe_fewer None c list g = g
  maybe_fewer (Some condition) c list g = record { count = g.count; enough = omega arith; few = g.few; parts = g.parts }

  at_most_sum : (a b : Option ℕ) (x y : ℕ) → AtMost a x → AtMost b y → AtMost (add a b) (x + y)
  at_most_sum None b x y h k = tt
  at_most_sum (Some a) None x y h k = tt
  at_most_sum (Some a) (Some b) x y h k = omega arith

  pub given_sum : (a b : Interval) (xs ys list : List SegmentValue) → list ≡ xs ++ ys → Given P a xs → Given P b ys → Given P (sum a b) list
  given_sum a b xs ys list e g h =
      record {
        count = g.count + h.count;
        enough = omega (arith, g.enough, h.enough);
        few = at_most_sum a.greatest b.greatest g.count h.count g.few h.few;
        parts = subst (Many P (g.count + h.count)) (sym e) (many_join g.count h.count xs ys g.parts h.parts);
      }

  -- ---- a part for each occurrence

  module _ (profile : ProfileValue) (m : List SegmentValue) (e : Element) (R : Occurrence → List SegmentValue → Type 0) where
    each_part : ((o : Occurrence) (list : List SegmentValue) → IsOccurrence profile m e o → R o list → P list) → (os : List Occurrence) (list : List SegmentValue) → AllByRecursion (IsOccurrence profile m e) os → ForEach R os list → Many P (length os) list
    each_part part [] list h k = k
    each_part part (o ∷ os) list h k =
        record { front = k.front; back = k.back; joined = k.joined; here = part o k.front h.0 k.here; there = each_part part os k.back h.1 k.there }

    pub for_each : ((o : Occurrence) (list : List SegmentValue) → IsOccurrence profile m e o → R o list → P list) → (c : Interval) (os : List Occurrence) (list : List SegmentValue) → Several profile m e c os → ForEach R os list → Given P c list
    for_each part c os list s k =
        record { count = length os; enough = s.enough; few = s.few; parts = each_part part os list s.each k }

    -- so many times so many parts
    record Multiplied (c : Interval) (n : ℕ) (list : List SegmentValue) : Type 0 where
      count : ℕ
      enough : n * c.least ≤ count
      few : (b : ℕ) → c.greatest ≡ Some b → count ≤ n * b
      none : n ≡ 0 → count ≡ 0
      parts : Many P count list

    module _ (c : Interval) (part : (o : Occurrence) (list : List SegmentValue) → IsOccurrence profile m e o → R o list → Given P c list) where
      multiplied : (os : List Occurrence) (list : List SegmentValue) → AllByRecursion (IsOccurrence profile m e) os → ForEach R os list → Multiplied c (length os) list
      multiplied [] list h k = record { count = 0; enough = omega arith; few = λ b e. omega arith; none = λ e. refl; parts = k }
      multiplied (o ∷ os) list h k =
          let one = part o k.front h.0 k.here in
          let more = multiplied os k.back h.1 k.there in
          record {
            count = one.count + more.count;
            enough = omega (arith, one.enough, more.enough);
            few = λ b e. let fewer : one.count ≤ b = subst (λ g. AtMost g one.count) e one.few in omega (arith, fewer, more.few b e);
            none = λ e. absurd (omega (arith, e));
            parts = subst (Many P (one.count + more.count)) (sym k.joined) (many_join one.count more.count k.front k.back one.parts more.parts);
          }

      few_times : (high k : Option ℕ) (n count : ℕ) → AtMost high n → ((b : ℕ) → k ≡ Some b → count ≤ n * b) → (n ≡ 0 → count ≡ 0) → AtMost (multiply high k) count
      few_times (Some zero) k n count few each none = let no : count ≡ 0 = none (omega (arith, few)) in omega (arith, no)
      few_times None (Some zero) n count few each none = omega (arith, each 0 refl)
      few_times None (Some (suc b)) n count few each none = tt
      few_times None None n count few each none = tt
      few_times (Some (suc a)) None n count few each none = tt
      few_times (Some (suc a)) (Some b) n count few each none =
          let less : n * b ≤ suc a * b = mul-le-mul_right b few in omega (arith, each b refl, less)

      pub for_each_given : (d : Interval) (os : List Occurrence) (list : List SegmentValue) → Several profile m e d os → ForEach R os list → Given P (product d c) list
      for_each_given d os list s k =
          let made = multiplied os list s.each k in
          let less : d.least * c.least ≤ length os * c.least = mul-le-mul_right c.least s.enough in
          record {
            count = made.count;
            enough = omega (arith, less, made.enough);
            few = few_times d.greatest c.greatest (length os) made.count s.few made.few made.none;
            parts = made.parts;
          }
