-- Whether a text is canonical: what its first byte says of it.
use Rattle.std.proofs.Common.{◌≡◌, ◌≢◌, ℕ, zero, suc, ◌+◌, ◌<◌, Bool, true, false, List, [], ◌∷◌, ◌++◌, length, get_or, take, drop, refl, sym, ap, subst, ◌∙◌, append_assoc, arith}
use Rattle.std.specs.Prelude.{◌↔◌}
use Rattle.std.proofs.lemmas.Bool.{and_parts, false_from_ne_true, true≢false}
use Rattle.std.proofs.lemmas.Bool.Decides.{nat_tests}
use Rattle.std.proofs.lemmas.List.{nil_from_length, take-append-drop, drop_more, drop_at, take_at, length-append, length-take, length-drop}
use Rattle.std.proofs.lemmas.Slice.Eq.{bytes_eq-Decides}
use Rattle.std.specs.List.{list_all, flat_map, AllByRecursion}
use Rattle.gw_er7.specs.Text.{canon, standard, is_special, is_text_byte, is_canonical, body_of, Item, Plain, Escape, spelled, IsItem, IsInRange, IsPlain, IsCanonical}
use Rattle.gw_er7.specs.own.Canonical.{is_plain, Follows}
use Rattle.gw_er7.proofs.Fixed.{body_len, canonical_stays}
use Rattle.gw_er7.proofs.Ranges.{Lawful, HasLawful, high, canonical-from}
use Rattle.gw_er7.proofs.Rounds.{IsTextByte, text_bytes}

-- ---- plain bytes

pub plain_of : (b : ℕ) → b < 256 → is_plain b ≡ true → IsPlain b
plain_of b small e =
    let range : b < 32 → b ≡ 9 = grind (arith, nat_tests) in
    let other : is_special b ≡ false = grind (arith, nat_tests) in
    record { range = (small, range); not_special = other }

pub plain_is : (b : ℕ) → IsPlain b → is_plain b ≡ true
plain_is b is =
    let other = is.not_special in
    let low : b < 32 → b ≡ 9 = is.range.1 in
    grind (arith, nat_tests)

pub all_of : (bs : List ℕ) → ((k : ℕ) → get_or bs k 0 < 256) → list_all is_plain bs ≡ true → AllByRecursion IsPlain bs
all_of [] small e = tt
all_of (b ∷ bs) small e = (let both = and_parts (is_plain b) _ e in (plain_of b (small 0) both.0, all_of bs (λ k. small (suc k)) both.1))

pub all_are : (bs : List ℕ) → AllByRecursion IsPlain bs → list_all is_plain bs ≡ true
all_are [] h = refl
all_are (b ∷ bs) h = rw (plain_is b h.0) (all_are bs h.1)

-- bytes, as many as are taken
pub small_take : (n : ℕ) (bs : List ℕ) → ((k : ℕ) → get_or bs k 0 < 256) → (k : ℕ) → get_or (take n bs) k 0 < 256
small_take zero bs small k = omega arith
small_take (suc n) [] small k = omega arith
small_take (suc n) (b ∷ bs) small zero = small 0
small_take (suc n) (b ∷ bs) small (suc k) = small_take n bs (λ i. small (suc i)) k

-- ---- the first item

-- how a canonical text begins
data Opened (b : ℕ) (bs : List ℕ) : Type 0 where
  plainly : IsPlain b → IsCanonical bs → Opened b bs
  by_escape : (body rest : List ℕ) → b ≡ 92 → (body ≡ [] → ⊥) → AllByRecursion IsPlain body → bs ≡ body ++ 92 ∷ rest → IsCanonical rest → Opened b bs

opened : (b : ℕ) (bs : List ℕ) → IsCanonical (b ∷ bs) → Opened b bs
opened b bs is = by_items is.items is.whole is.each
  where
    by_items : (items : List Item) → b ∷ bs ≡ flat_map spelled items → AllByRecursion IsItem items → Opened b bs
    by_items [] e h = absurd (let z : ⊥ = cc in z)
    by_items (Plain x ∷ items) e h =
        let same : b ≡ x = cc in
        let rest : bs ≡ flat_map spelled items = cc in
        plainly (subst (λ (y : ℕ). IsPlain y) (sym same) h.0) (record { items = items; whole = rest; each = h.1 })
    by_items (Escape body ∷ items) e h =
        let same : b ≡ 92 = cc in
        let rest : bs ≡ (body ++ 92 ∷ []) ++ flat_map spelled items = cc in
        by_escape body (flat_map spelled items) same h.0.0 h.0.1 (rest ∙ append_assoc body (92 ∷ []) (flat_map spelled items)) (record { items = items; whole = refl; each = h.1 })

not_plain_escape : IsPlain 92 → ⊥
not_plain_escape is = true≢false is.not_special

pub plain_first : (b : ℕ) (bs : List ℕ) → b < 256 → is_plain b ≡ true → Follows (b ∷ bs) bs
plain_first b bs small e = record {
  same = ((λ is. from (opened b bs is)), (λ is. record { items = Plain b ∷ is.items; whole = ap (λ (t : List ℕ). b ∷ t) is.whole; each = (plain_of b small e, is.each) }));
  shorter = omega arith;
}
  where
    from : Opened b bs → IsCanonical bs
    from (plainly is rest) = rest
    from (by_escape body rest at some all cut is) = absurd (not_plain_escape (subst IsPlain at (plain_of b small e)))

-- neither a plain byte nor an escape character
pub other_first : (b : ℕ) (bs : List ℕ) → is_plain b ≡ false → b ≢ 92 → IsCanonical (b ∷ bs) → ⊥
other_first b bs e apart is = from (opened b bs is)
  where
    from : Opened b bs → ⊥
    from (plainly p rest) = true≢false (sym (plain_is b p) ∙ e)
    from (by_escape body rest at some all cut k) = apart at

-- ---- an escape

-- the body ends at the first escape character behind it
body_cut : (body rest : List ℕ) → AllByRecursion IsPlain body → body_of standard (body ++ 92 ∷ rest) ≡ body
body_cut body rest h = ap (λ (n : ℕ). take n (body ++ 92 ∷ rest)) (body_len body rest h) ∙ take_at body (92 ∷ rest) (length body) refl

pub no_end : (b : ℕ) (bs : List ℕ) → b ≡ 92 → body_of standard bs ≡ bs → IsCanonical (b ∷ bs) → ⊥
no_end b bs at none is = from (opened b bs is)
  where
    from : Opened b bs → ⊥
    from (plainly p rest) = not_plain_escape (subst IsPlain at p)
    from (by_escape body rest a some all cut k) =
        let e : body ≡ bs = sym (body_cut body rest all) ∙ ap (body_of standard) (sym cut) ∙ none in
        let n : length body ≡ length body + suc (length rest) = ap length (e ∙ cut) ∙ length-append body (92 ∷ rest) in
        absurd (omega arith)

pub bad_body : (b : ℕ) (bs : List ℕ) (k : ℕ) → b ≡ 92 → body_of standard bs ≡ take k bs → list_all is_plain (take k bs) ≡ false → IsCanonical (b ∷ bs) → ⊥
bad_body b bs k at found e is = from (opened b bs is)
  where
    from : Opened b bs → ⊥
    from (plainly p rest) = not_plain_escape (subst IsPlain at p)
    from (by_escape body rest a full all cut kept) =
        let same : take k bs ≡ body = sym found ∙ ap (body_of standard) cut ∙ body_cut body rest all in
        true≢false (sym (all_are body all) ∙ ap (list_all is_plain) (sym same) ∙ e)

pub empty_body : (b : ℕ) (bs : List ℕ) (k : ℕ) → b ≡ 92 → body_of standard bs ≡ take k bs → length (take k bs) ≡ 0 → IsCanonical (b ∷ bs) → ⊥
empty_body b bs k at found none is = from (opened b bs is)
  where
    from : Opened b bs → ⊥
    from (plainly p rest) = not_plain_escape (subst IsPlain at p)
    from (by_escape body rest a full all cut kept) =
        full (sym (body_cut body rest all) ∙ ap (body_of standard) (sym cut) ∙ found ∙ nil_from_length (take k bs) none)

pub good_body : (b : ℕ) (bs : List ℕ) (k : ℕ) (rest : List ℕ) → b ≡ 92 → k < length bs → get_or bs k 0 ≡ 92 → body_of standard bs ≡ take k bs → 0 < length (take k bs) → AllByRecursion IsPlain (take k bs) → rest ≡ drop (k + 1) bs → Follows (b ∷ bs) rest
good_body b bs k rest at lt there found some all e = record {
  same = (
    (λ is. from (opened b bs is)),
    (λ is. record {
      items = Escape (take k bs) ∷ is.items;
      whole = ap (λ (x : ℕ). x ∷ bs) at ∙ ap (λ (t : List ℕ). 92 ∷ t) (whole ∙ sym (append_assoc (take k bs) (92 ∷ []) rest) ∙ ap (λ (t : List ℕ). (take k bs ++ 92 ∷ []) ++ t) is.whole);
      each = (((λ none. absurd (let n : length (take k bs) ≡ 0 = ap length none in omega arith)), all), is.each);
    }),
  );
  shorter = omega (arith, ap length e, length-drop (k + 1) bs);
}
  where
    whole : bs ≡ take k bs ++ 92 ∷ rest
    whole = sym (take-append-drop k bs) ∙ ap (λ (x : List ℕ). take k bs ++ x) (drop_more bs k 0 lt ∙ ap (λ (x : ℕ). x ∷ drop (k + 1) bs) there ∙ ap (λ (x : List ℕ). 92 ∷ x) (sym e))

    from : Opened b bs → IsCanonical rest
    from (plainly p left) = absurd (not_plain_escape (subst IsPlain at p))
    from (by_escape body left a full plain cut kept) =
        let same : body ≡ take k bs = sym (body_cut body left plain) ∙ ap (body_of standard) (sym cut) ∙ found in
        let n : length body ≡ k = omega (arith, ap length same, length-take k bs) in
        let back : rest ≡ left = e ∙ ap (drop (k + 1)) cut ∙ ap (drop (k + 1)) (sym (append_assoc body (92 ∷ []) left)) ∙ drop_at (body ++ 92 ∷ []) left (k + 1) (omega (arith, length-append body (92 ∷ []))) in
        subst (λ (t : List ℕ). IsCanonical t) (sym back) kept

-- ---- the test

lawful_standard : HasLawful standard
lawful_standard = record { field = high 124 (omega arith) (omega arith); component = high 94 (omega arith) (omega arith); repetition = high 126 (omega arith) (omega arith); escape = high 92 (omega arith) (omega arith); subcomponent = high 38 (omega arith) (omega arith) }

in_range : (bs : List ℕ) → list_all is_text_byte bs ≡ true → Lawful bs
in_range [] e = tt
in_range (b ∷ bs) e = (let both = and_parts (is_text_byte b) _ e in (here b both.0, in_range bs both.1))
  where
    here : (b : ℕ) → is_text_byte b ≡ true → IsInRange b
    here b e =
        let small : b < 256 = grind (arith, nat_tests) in
        let low : b < 32 → b ≡ 9 = grind (arith, nat_tests) in
        (small, low)

range_of : (bs : List ℕ) → AllByRecursion IsTextByte bs → list_all is_text_byte bs ≡ true
range_of [] h = refl
range_of (b ∷ bs) h = rw (here b h.0.range) (range_of bs h.1)
  where
    here : (b : ℕ) → IsInRange b → is_text_byte b ≡ true
    here b is = let small : b < 256 = is.0 in let low : b < 32 → b ≡ 9 = is.1 in grind (arith, nat_tests)

pub decides : (text : List ℕ) → (is_canonical text ≡ true) ↔ IsCanonical text
decides text = (from, to)
  where
    from : is_canonical text ≡ true → IsCanonical text
    from e =
        let both = and_parts (list_all is_text_byte text) _ e in
        let lawful = in_range text both.0 in
        let same : canon standard text ≡ text = (bytes_eq-Decides (canon standard text) text).0 both.1 in
        subst (λ (t : List ℕ). IsCanonical t) same (canonical-from standard 0 text lawful_standard lawful)

    to : IsCanonical text → is_canonical text ≡ true
    to is =
        let bytes : AllByRecursion IsTextByte text = subst (λ (t : List ℕ). AllByRecursion IsTextByte t) (sym is.whole) (text_bytes is.items is.each) in
        rw (range_of text bytes) ((bytes_eq-Decides (canon standard text) text).1 (canonical_stays text is))

pub empty_text : (text : List ℕ) → length text < 1 → IsCanonical text
empty_text [] h = record { items = []; whole = refl; each = tt }
empty_text (b ∷ bs) h = absurd (omega arith)

pub same_test : (v : Bool) (text : List ℕ) → (v ≡ true) ↔ IsCanonical text → v ≡ is_canonical text
same_test true text h = sym ((decides text).1 (h.0 refl))
same_test false text h = sym (false_from_ne_true (is_canonical text) (λ e. true≢false (sym (h.1 ((decides text).0 e)))))
