-- What putting a text changes.
use Rattle.std.proofs.Common.{◌≡◌, ℕ, zero, suc, ◌<◌, true, false, cond, subst, List, [], ◌∷◌, Some, None, refl, sym, ap, ◌∙◌, arith, length, Result, Ok, Err, OnOk}
use Rattle.std.specs.Prelude.{◌==◌, unwrap_or}
use Rattle.std.proofs.lemmas.Bool.Decides.{Decides-eqb}
use Rattle.std.specs.Cmp.Lexicographic.{nat_list_cmp_total}
use Rattle.std.specs.FinMap as texts
use Rattle.std.specs.FinMap.{get-insert}
use Rattle.std.specs.List.{AllByRecursion}
use Rattle.gw_er7.specs.Message.{Texts, SegmentValue, first_field, IsEntry, IsOther}
use Rattle.gw_er7.specs.Building.{IsBegun, with_last, MayPut}
use Rattle.gw_er7.proofs.Keys.{tie, no_tie}
use Rattle.gw_er7.proofs.Lasts.{kept_put}
use Rattle.gw_interp.specs.own.Putting.{last_name, last_texts, MayStand, IsPut}

pub may_put : (key text : List ℕ) (old : List SegmentValue) → 0 < length text → MayStand key text old → MayPut key text old
may_put key text old lt may = go old may.begun may.free (may.entry lt)
  where
    go : (old : List SegmentValue) → 0 < length old → texts.get (last_texts old) key ≡ None → IsEntry (first_field (last_name old)) (key, text) → MayPut key text old
    go [] begun free entry = absurd (omega (arith, begun))
    go (s ∷ []) begun free entry = (free, entry)
    go (s ∷ t ∷ ss) begun free entry = go (t ∷ ss) (omega arith) free entry

abbrev putting : (key text : List ℕ) → SegmentValue → SegmentValue
putting key text s = record s { at = texts.insert s.at key text }

put_last : (key text : List ℕ) (old : List SegmentValue) → 0 < length old → last_texts (with_last (putting key text) old) ≡ texts.insert (last_texts old) key text
put_last key text [] lt = absurd (omega (arith, lt))
put_last key text (s ∷ []) lt = refl
put_last key text (s ∷ t ∷ []) lt = refl
put_last key text (s ∷ t ∷ u ∷ ss) lt = put_last key text (t ∷ u ∷ ss) (omega arith)

put_others : (key text : List ℕ) (old : List SegmentValue) (at : Texts) → at ≡ texts.insert (last_texts old) key text → with_last (putting key text) old ≡ with_last (λ s. record s { at = at }) old
put_others key text [] at e = refl
put_others key text (s ∷ []) at e = ap (λ m. record s { at = m } ∷ []) (sym e)
put_others key text (s ∷ t ∷ ss) at e = ap (λ l. s ∷ l) (put_others key text (t ∷ ss) at e)

others_put : (key text : List ℕ) (ss : List SegmentValue) → MayPut key text ss → AllByRecursion IsOther ss → AllByRecursion IsOther (with_last (putting key text) ss)
others_put key text [] may h = absurd may
others_put key text (s ∷ []) may h = (record { segment = kept_put s key text h.0.segment may.1; name = h.0.name }, tt)
others_put key text (s ∷ t ∷ ss) may h = (h.0, others_put key text (t ∷ ss) may h.1)

begun_put : (key text : List ℕ) (ss : List SegmentValue) → MayPut key text ss → IsBegun ss → IsBegun (with_last (putting key text) ss)
begun_put key text [] may h = absurd may
begun_put key text (s ∷ []) may h = (record { segment = kept_put s key text h.0.segment may.1; name = h.0.name }, tt)
begun_put key text (s ∷ t ∷ ss) may h = (h.0, others_put key text (t ∷ ss) may h.1)

pub put_is : (key text : List ℕ) (old new : List SegmentValue) → 0 < length text → MayStand key text old → new ≡ with_last (putting key text) old → IsPut key text old new
put_is key text old new lt may e =
    let last : last_texts new ≡ texts.insert (last_texts old) key text = ap last_texts e ∙ put_last key text old may.begun in
    record {
      others = e ∙ put_others key text old (last_texts new) last;
      here =
          ap (λ m. unwrap_or (texts.get m key) []) last
          ∙ ap (λ o. unwrap_or o []) (get-insert nat_list_cmp_total (last_texts old) key text key ∙ ap (λ b. cond b (Some text) (texts.get (last_texts old) key)) (tie key key refl));
      elsewhere = λ k apart.
          ap (λ m. texts.get m k) last
          ∙ get-insert nat_list_cmp_total (last_texts old) key text k ∙ ap (λ b. cond b (Some text) (texts.get (last_texts old) k)) (no_tie k key apart);
      keeps = λ h. subst IsBegun (sym e) (begun_put key text old (may_put key text old lt may) h);
    }

pub same_last : (old : List SegmentValue) → old ≡ with_last (λ s. record s { at = last_texts old }) old
same_last [] = refl
same_last (s ∷ []) = refl
same_last (s ∷ t ∷ ss) = ap (λ l. s ∷ l) (same_last (t ∷ ss))

pub nothing_put : (key text : List ℕ) (old : List SegmentValue) → MayStand key text old → length text ≡ 0 → IsPut key text old old
nothing_put key text old may e =
    record {
      others = same_last old;
      here = ap (λ o. unwrap_or o []) may.free ∙ sym (empty text e);
      elsewhere = λ k apart. refl;
      keeps = λ h. h;
    }
  where
    empty : (text : List ℕ) → length text ≡ 0 → text ≡ []
    empty [] e = refl
    empty (b ∷ text) e = absurd (omega (arith, e))

-- ---- results

pub on_ok : {A E : Type 0} (P Q : Type 0) (r : Result A E) → (P → Q) → OnOk r P → OnOk r Q
on_ok P Q (Ok a) so p = so p
on_ok P Q (Err e) so p = tt

pub none_long : (n : ℕ) → (n == 0) ≡ true → n ≡ 0
none_long n e = (Decides-eqb n 0).0 e

pub some_long : (n : ℕ) → (n == 0) ≡ false → 0 < n
some_long zero e = absurd (cc)
some_long (suc n) e = omega arith
