-- A list of nodes is ambiguous exactly where it isn't deterministic.
use Rattle.std.proofs.Common.{◌≡◌, ℕ, zero, suc, ◌+◌, ◌<◌, ◌⊎◌, inl, inr, Bool, true, false, List, [], ◌∷◌, ◌++◌, Option, Some, None, refl, sym, subst, arith, ◌↔◌}
use Rattle.std.specs.Prelude.{◌&&◌, ◌==◌, nat_lt, if◌then◌else◌}
use Rattle.std.proofs.lemmas.Grind.{common_steps}
use Rattle.std.proofs.lemmas.Bool.Decides.{Decides-eqb, Decides-ltb, nat_tests}
use Rattle.gw_profile.specs.declared.shape.Card.{Card}
use Rattle.gw_profile.specs.Among.{Among}
use Rattle.gw_profile.specs.Shapes.{Forest, nothing, segment, group}
use Rattle.gw_profile.specs.Line.{allows}
use Rattle.gw_profile.specs.Fault.{is_among}
use Rattle.gw_profile.specs.LookAhead.{is_optional, first_names, follow_names, behind_child, is_before, least, least_shared, clash, or_else, ambiguous}
use Rattle.gw_profile.specs.Deterministic.{Name, AtMost, Below, First, Optional, Demands, Follows, BehindChildren, NoName, Apart, Deterministic, LeastShared, FirstShared}
use Rattle.gw_profile.proofs.Facts.{both, and_of, either, or_left, or_right, tells}
use Rattle.gw_profile.proofs.Among.{among_is, not_among, among_append, among_one, among_if}

pub allows_is : (most : Option ℕ) (k : ℕ) → (allows most k ≡ true) ↔ AtMost most k
allows_is None k = (λ e. tt, λ h. refl)
allows_is (Some m) k = (λ e. grind (arith, common_steps), λ h. grind (arith, common_steps))

pub zero_is : (n : ℕ) → (n == 0 ≡ true) ↔ (n ≡ 0)
zero_is n = Decides-eqb n 0

-- ---- First and After

-- the names of a node or, where none of it is demanded, of those behind it
part_named : (most : Option ℕ) (min : ℕ) (xs ys : List Name) (x : Name) (P Q : Type 0) → (Among x xs ↔ P) → (Among x ys ↔ Q) → Among x ((if allows most 1 then xs else []) ++ (if min == 0 then ys else [])) ↔ ((Below 0 most × P) ⊎ ((min ≡ 0) × Q))
part_named most min xs ys x P Q p q = (
  λ h. elim ((among_append (if allows most 1 then xs else []) _ x).0 h) [
    | inl e ↦ (let f = (among_if (allows most 1) xs x).0 e in inl ((allows_is most 1).0 f.0, p.0 f.1))
    | inr e ↦ (let f = (among_if (min == 0) ys x).0 e in inr ((zero_is min).0 f.0, q.0 f.1))
  ],
  elim [
    | inl h ↦ (among_append (if allows most 1 then xs else []) _ x).1 (inl ((among_if (allows most 1) xs x).1 ((allows_is most 1).1 h.0, p.1 h.1)))
    | inr h ↦ (among_append (if allows most 1 then xs else []) _ x).1 (inr ((among_if (min == 0) ys x).1 ((zero_is min).1 h.0, q.1 h.1)))
  ],
)

pub first_named : (f : Forest) (x : Name) → Among x (first_names f) ↔ First f x
first_named nothing x = (λ h. h, λ h. h)
first_named (segment s rest) x = part_named s.card.max s.card.min (s.name ∷ []) (first_names rest) x _ _ (among_one s.name x) (first_named rest x)
first_named (group g nodes rest) x = part_named g.card.max g.card.min (first_names nodes) (first_names rest) x _ _ (first_named nodes x) (first_named rest x)

pub optional_is : (f : Forest) → (is_optional f ≡ true) ↔ Optional f
optional_is nothing = (λ e. tt, λ h. refl)
optional_is (segment s rest) =
    (λ e. let p = both _ _ e in ((zero_is s.card.min).0 p.0, (optional_is rest).0 p.1), λ h. and_of _ _ ((zero_is s.card.min).1 h.0) ((optional_is rest).1 h.1))
optional_is (group g nodes rest) =
    (λ e. let p = both _ _ e in ((zero_is g.card.min).0 p.0, (optional_is rest).0 p.1), λ h. and_of _ _ ((zero_is g.card.min).1 h.0) ((optional_is rest).1 h.1))

demands_behind : (min : ℕ) (rest : Forest) → Demands rest ⊎ Optional rest → ((0 < min) ⊎ Demands rest) ⊎ ((min ≡ 0) × Optional rest)
demands_behind zero rest (inl d) = inl (inr d)
demands_behind zero rest (inr o) = inr (refl, o)
demands_behind (suc n) rest h = inl (inl (omega arith))

pub demands_or : (f : Forest) → Demands f ⊎ Optional f
demands_or nothing = inr tt
demands_or (segment s rest) = demands_behind s.card.min rest (demands_or rest)
demands_or (group g nodes rest) = demands_behind g.card.min rest (demands_or rest)

-- a list of names and a kind of names are one
abbrev pub Lists : List Name → (Name → Type 0) → Type 0
Lists names P = (x : Name) → Among x names ↔ P x

pub follow_named : (f : Forest) (after : List Name) (A : Name → Type 0) → Lists after A → Lists (follow_names f after) (Follows f A)
follow_named f after A a x = (
  λ h. elim ((among_append (first_names f) _ x).0 h) [
    | inl e ↦ inl ((first_named f x).0 e)
    | inr e ↦ (let g = (among_if (is_optional f) after x).0 e in inr ((optional_is f).0 g.0, (a x).0 g.1))
  ],
  elim [
    | inl h ↦ (among_append (first_names f) _ x).1 (inl ((first_named f x).1 h))
    | inr h ↦ (among_append (first_names f) _ x).1 (inr ((among_if (is_optional f) after x).1 ((optional_is f).1 h.0, (a x).1 h.1)))
  ],
)

pub behind_named : (card : Card) (nodes : Forest) (after : List Name) (A : Name → Type 0) → Lists after A → Lists (behind_child card nodes after) (BehindChildren card nodes A)
behind_named card nodes after A a x = (
  λ h. elim ((among_append after _ x).0 h) [
    | inl e ↦ inl ((a x).0 e)
    | inr e ↦ (let g = (among_if (allows card.max 2) (first_names nodes) x).0 e in inr ((allows_is card.max 2).0 g.0, (first_named nodes x).0 g.1))
  ],
  elim [
    | inl h ↦ (among_append after _ x).1 (inl ((a x).1 h))
    | inr h ↦ (among_append after _ x).1 (inr ((among_if (allows card.max 2) (first_names nodes) x).1 ((allows_is card.max 2).1 h.0, (first_named nodes x).1 h.1)))
  ],
)

-- ---- byte order

before_refl : (x : Name) → is_before x x ≡ true
before_refl [] = refl
before_refl (b ∷ x) = or_right (nat_lt b b) _ (and_of (b == b) _ ((Decides-eqb b b).1 refl) (before_refl x))

-- what the order says of two names that aren't empty
heads : (a b : ℕ) (x y : Name) → is_before (a ∷ x) (b ∷ y) ≡ true → (a < b) ⊎ ((a ≡ b) × (is_before x y ≡ true))
heads a b x y e =
    elim (either (nat_lt a b) _ e) [
      | inl h ↦ inl ((Decides-ltb a b).0 h)
      | inr h ↦ (let p = both (a == b) _ h in inr ((Decides-eqb a b).0 p.0, p.1))
    ]

lower : (a b : ℕ) (x y : Name) → a < b → is_before (a ∷ x) (b ∷ y) ≡ true
lower a b x y h = or_left (nat_lt a b) _ ((Decides-ltb a b).1 h)

level : (a b : ℕ) (x y : Name) → a ≡ b → is_before x y ≡ true → is_before (a ∷ x) (b ∷ y) ≡ true
level a b x y e h = or_right (nat_lt a b) _ (and_of (a == b) _ ((Decides-eqb a b).1 e) h)

before_trans : (x y z : Name) → is_before x y ≡ true → is_before y z ≡ true → is_before x z ≡ true
before_trans [] y z e f = refl
before_trans (a ∷ x) [] z e f = absurd (cc)
before_trans (a ∷ x) (b ∷ y) [] e f = absurd (cc)
before_trans (a ∷ x) (b ∷ y) (c ∷ z) e f =
    elim (heads a b x y e) [
      | inl h ↦ elim (heads b c y z f) [ inl k ↦ lower a c x z (omega arith) | inr k ↦ lower a c x z (omega (arith, k.0)) ]
      | inr h ↦ elim (heads b c y z f) [ inl k ↦ lower a c x z (omega (arith, h.0)) | inr k ↦ level a c x z (omega (arith, h.0, k.0)) (before_trans x y z h.1 k.1) ]
    ]

before_total : (x y : Name) → is_before x y ≡ false → is_before y x ≡ true
before_total [] y e = absurd (cc)
before_total (a ∷ x) [] e = refl
before_total (a ∷ x) (b ∷ y) e =
    elim (tells (nat_lt b a)) [
      | inl h ↦ or_left (nat_lt b a) _ h
      | inr h ↦ elim (tells (nat_lt a b)) [
        | inl k ↦ absurd (let f = or_left (nat_lt a b) (a == b && is_before x y) k in (cc))
        | inr k ↦ elim (tells (is_before x y)) [
          | inl i ↦ absurd (let f = level a b x y (same a b h k) i in (cc))
          | inr i ↦ level b a y x (sym (same a b h k)) (before_total x y i)
        ]
      ]
    ]
  where
    same : (a b : ℕ) → nat_lt b a ≡ false → nat_lt a b ≡ false → a ≡ b
    same a b h k = grind (arith, nat_tests)

before_both : (x y : Name) → is_before x y ≡ true → is_before y x ≡ true → x ≡ y
before_both [] [] e f = refl
before_both [] (b ∷ y) e f = absurd (cc)
before_both (a ∷ x) [] e f = absurd (cc)
before_both (a ∷ x) (b ∷ y) e f =
    elim (heads a b x y e) [
      | inl h ↦ elim (heads b a y x f) [ inl k ↦ absurd (omega arith) | inr k ↦ absurd (omega (arith, k.0)) ]
      | inr h ↦ elim (heads b a y x f) [ inl k ↦ absurd (omega (arith, h.0)) | inr k ↦ (let t : x ≡ y = before_both x y h.1 k.1 in let i : a ≡ b = h.0 in cc) ]
    ]

-- ---- the least shared name

abbrev LeastOf : List Name → List Name → Option Name → Type 0
LeastOf xs ys None = (x : Name) → Among x xs → Among x ys → ⊥
LeastOf xs ys (Some x) = Among x xs × Among x ys × ((y : Name) → Among y xs → Among y ys → is_before x y ≡ true)

chosen : (z : Name) (xs ys : List Name) (w : Name) → LeastOf xs ys (Some w) → Among z ys → (b : Bool) → is_before z w ≡ b → LeastOf (z ∷ xs) ys (Some (if b then z else w))
chosen z xs ys w h a true e =
    (inl refl, a, λ y. elim [ inl i ↦ (λ k. subst (λ v. is_before z v ≡ true) (sym i) (before_refl z)) | inr i ↦ (λ k. before_trans z w y e (h.2 y i k)) ])
chosen z xs ys w h a false e =
    (inr h.0, h.1, λ y. elim [ inl i ↦ (λ k. subst (λ v. is_before w v ≡ true) (sym i) (before_total z w e)) | inr i ↦ (λ k. h.2 y i k) ])

with_name : (z : Name) (xs ys : List Name) (o : Option Name) → LeastOf xs ys o → (b : Bool) → is_among z ys ≡ b → LeastOf (z ∷ xs) ys (if b then Some (least z o) else o)
with_name z xs ys None h true e =
    (inl refl, (among_is z ys).0 e, λ y. elim [ inl i ↦ (λ k. subst (λ v. is_before z v ≡ true) (sym i) (before_refl z)) | inr i ↦ (λ k. absurd (h y i k)) ])
with_name z xs ys (Some w) h true e = chosen z xs ys w h ((among_is z ys).0 e) (is_before z w) refl
with_name z xs ys None h false e = λ x. elim [ inl i ↦ (λ k. not_among z ys e (subst (λ v. Among v ys) i k)) | inr i ↦ (λ k. h x i k) ]
with_name z xs ys (Some w) h false e =
    (inr h.0, h.1, λ y. elim [ inl i ↦ (λ k. absurd (not_among z ys e (subst (λ v. Among v ys) i k))) | inr i ↦ (λ k. h.2 y i k) ])

least_of : (xs ys : List Name) → LeastOf xs ys (least_shared xs ys)
least_of [] ys = λ x h k. h
least_of (z ∷ xs) ys = with_name z xs ys (least_shared xs ys) (least_of xs ys) (is_among z ys) refl

-- ---- one node

abbrev ClashSays : ℕ → Option ℕ → (Name → Type 0) → (Name → Type 0) → Option Name → Type 0
ClashSays min max P Q None = Apart min max P Q
ClashSays min max P Q (Some x) = LeastShared min max P Q x

clash_says : (card : Card) (xs ys : List Name) (P Q : Name → Type 0) → Lists xs P → Lists ys Q → ClashSays card.min card.max P Q (clash card xs ys)
clash_says card xs ys P Q p q = opened (allows card.max (card.min + 1)) refl (least_shared xs ys) (least_of xs ys)
  where
    one : suc card.min ≡ card.min + 1
    one = omega arith

    opened : (b : Bool) → allows card.max (card.min + 1) ≡ b → (o : Option Name) → LeastOf xs ys o → ClashSays card.min card.max P Q (if b then o else None)
    opened true e None h = λ x b i k. h x ((p x).1 i) ((q x).1 k)
    opened true e (Some x) h =
        record {
          open_number = subst (AtMost card.max) (sym one) ((allows_is card.max (card.min + 1)).0 e);
          begins = (p x).0 h.0;
          follows = (q x).0 h.1;
          least = λ y i k. h.2 y ((p y).1 i) ((q y).1 k);
        }
    opened false e o h = λ x b i k. let f = (allows_is card.max (card.min + 1)).1 (subst (AtMost card.max) one b) in absurd (cc)

-- ---- all nodes

abbrev pub AmbiguousSays : Forest → (Name → Type 0) → Option Name → Type 0
AmbiguousSays f A None = Deterministic f A
AmbiguousSays f A (Some x) = FirstShared f A x

pub ambiguous_says : (f : Forest) (after : List Name) (A : Name → Type 0) → Lists after A → AmbiguousSays f A (ambiguous f after)
ambiguous_says nothing after A a = tt
ambiguous_says (segment s rest) after A a =
    joined (clash s.card (s.name ∷ []) (follow_names rest after)) (ambiguous rest after)
    (clash_says s.card (s.name ∷ []) (follow_names rest after) _ _ (among_one s.name) (follow_named rest after A a)) (ambiguous_says rest after A a)
  where
    joined : (o p : Option Name) → ClashSays s.card.min s.card.max (λ x. x ≡ s.name) (Follows rest A) o → AmbiguousSays rest A p → AmbiguousSays (segment s rest) A (or_else o p)
    joined None None h k = (h, k)
    joined None (Some x) h k = inr (h, k)
    joined (Some x) p h k = inl h
ambiguous_says (group g nodes rest) after A a =
    joined (clash g.card (first_names nodes) (follow_names rest after)) (ambiguous nodes (behind_child g.card nodes (follow_names rest after))) (ambiguous rest after)
    (clash_says g.card (first_names nodes) (follow_names rest after) _ _ (first_named nodes) (follow_named rest after A a))
    (ambiguous_says nodes _ _ (behind_named g.card nodes (follow_names rest after) (Follows rest A) (follow_named rest after A a)))
    (ambiguous_says rest after A a)
  where
    joined : (o p q : Option Name) → ClashSays g.card.min g.card.max (First nodes) (Follows rest A) o → AmbiguousSays nodes (BehindChildren g.card nodes (Follows rest A)) p → AmbiguousSays rest A q → AmbiguousSays (group g nodes rest) A (or_else (or_else o p) q)
    joined None None None h k i = (h, k, i)
    joined None None (Some x) h k i = inr (h, inr (k, i))
    joined None (Some x) q h k i = inr (h, inl k)
    joined (Some x) p q h k i = inl h

shared_not : (f : Forest) (A : Name → Type 0) (x : Name) → FirstShared f A x → Deterministic f A → ⊥
shared_not nothing A x h d = h
shared_not (segment s rest) A x (inl h) d = d.0 x h.open_number h.begins h.follows
shared_not (segment s rest) A x (inr h) d = shared_not rest A x h.1 d.1
shared_not (group g nodes rest) A x (inl h) d = d.0 x h.open_number h.begins h.follows
shared_not (group g nodes rest) A x (inr h) d =
    elim h.1 [ inl i ↦ shared_not nodes _ x i d.1 | inr i ↦ shared_not rest A x i.1 d.2 ]

module _ (min : ℕ) (max : Option ℕ) (P Q : Name → Type 0) where
  one_least : (x y : Name) → LeastShared min max P Q x → LeastShared min max P Q y → x ≡ y
  one_least x y h k = before_both x y (h.least y k.begins k.follows) (k.least x h.begins h.follows)

  least_not : (x : Name) → LeastShared min max P Q x → Apart min max P Q → ⊥
  least_not x h a = a x h.open_number h.begins h.follows

one_shared : (f : Forest) (A : Name → Type 0) (x y : Name) → FirstShared f A x → FirstShared f A y → x ≡ y
one_shared nothing A x y h k = absurd h
one_shared (segment s rest) A x y (inl h) (inl k) = one_least _ _ _ _ x y h k
one_shared (segment s rest) A x y (inl h) (inr k) = absurd (least_not _ _ _ _ x h k.0)
one_shared (segment s rest) A x y (inr h) (inl k) = absurd (least_not _ _ _ _ y k h.0)
one_shared (segment s rest) A x y (inr h) (inr k) = one_shared rest A x y h.1 k.1
one_shared (group g nodes rest) A x y (inl h) (inl k) = one_least _ _ _ _ x y h k
one_shared (group g nodes rest) A x y (inl h) (inr k) = absurd (least_not _ _ _ _ x h k.0)
one_shared (group g nodes rest) A x y (inr h) (inl k) = absurd (least_not _ _ _ _ y k h.0)
one_shared (group g nodes rest) A x y (inr h) (inr k) =
    elim h.1 [
      | inl i ↦ elim k.1 [ inl j ↦ one_shared nodes _ x y i j | inr j ↦ absurd (shared_not nodes _ x i j.0) ]
      | inr i ↦ elim k.1 [ inl j ↦ absurd (shared_not nodes _ y j i.0) | inr j ↦ one_shared rest A x y i.1 j.1 ]
    ]

pub top_says : (f : Forest) → AmbiguousSays f NoName (ambiguous f [])
top_says f = ambiguous_says f [] NoName (λ x. (λ h. h, λ h. h))

pub not_ambiguous_is : (f : Forest) → (ambiguous f [] ≡ None) ↔ Deterministic f NoName
not_ambiguous_is f = (λ e. subst (AmbiguousSays f NoName) e (top_says f), λ d. by d (ambiguous f []) (top_says f))
  where
    by : Deterministic f NoName → (o : Option Name) → AmbiguousSays f NoName o → o ≡ None
    by d None h = refl
    by d (Some x) h = absurd (shared_not f NoName x h d)

pub ambiguous_is : (f : Forest) (x : Name) → (ambiguous f [] ≡ Some x) ↔ FirstShared f NoName x
ambiguous_is f x = (λ e. subst (AmbiguousSays f NoName) e (top_says f), λ h. by h (ambiguous f []) (top_says f))
  where
    by : FirstShared f NoName x → (o : Option Name) → AmbiguousSays f NoName o → o ≡ Some x
    by h None d = absurd (shared_not f NoName x h d)
    by h (Some y) k = let e : y ≡ x = one_shared f NoName y x k h in cc
