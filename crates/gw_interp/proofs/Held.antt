-- What a field that breaks nothing says of the texts in its repetitions.
use Rattle.std.proofs.Common.{◌≡◌, ℕ, ◌<◌, ◌⊎◌, inl, inr, Bool, true, false, List, [], ◌∷◌, Option, Some, None, refl, sym, ap, ◌∙◌, subst, arith, length, IfSome}
use Rattle.std.specs.Prelude.{◌==◌, nat_lt, nat_le, filter, find, cond, unwrap_or}
use Rattle.std.proofs.lemmas.Bool.Decides.{nat_tests, Decides-eqb}
use Rattle.gw_er7.specs.Message.{Texts, text_of}
use Rattle.gw_er7.specs.Presence.{CompAt, RepAt}
use Rattle.gw_profile.specs.Among.{Among}
use Rattle.gw_profile.specs.Fault.{is_among}
use Rattle.gw_profile.specs.Shapes.{SubValue, CompValue, FieldValue, TableValue, ProfileValue}
use Rattle.gw_profile.specs.Value.{table_of}
use Rattle.gw_profile.specs.WellFormed.{LawfulSub, LawfulComp, LawfulField}
use Rattle.gw_profile.proofs.Among.{among_is}
use Rattle.gw_profile.proofs.Facts.{tells, false_not, not_false}
use Rattle.gw_profile.specs.declared.shape.Count.{Count}
use Rattle.gw_profile.specs.Lengths.{measure, len_count}
use Rattle.gw_validate.specs.Breaches.{is_long, lacks, is_unlisted, SubBreach, sub_absent, sub_forbidden, too_long, not_listed, InAny, in_first, in_later, CompBreach, comp_absent, comp_forbidden, in_sub, in_comp, in_rep, FieldBreach, in_reps}
use Rattle.gw_leaves.specs.declared.shape.Presence.TheVariants.{Maybe}
use Rattle.gw_leaves.specs.Leaves.{any, IsOf, is_short, is_always, is_absent, comp_presence, sub_usage, sub_presence, rep_presence, sub_values}
use Rattle.gw_profile.specs.Numbered.{comp_of, sub_of}
use Rattle.gw_interp.proofs.Lists.{found_test, found_all}
use Rattle.gw_interp.proofs.Shaped.{IsShaped, always_required, absent_forbidden, both_always, both_absent, some_text, no_text, text_there}

-- each of the names is that of a table
abbrev pub HasTables : List (List ℕ) → List TableValue → Type 0
HasTables names tables = (name : List ℕ) → Among name names → (values : List (List ℕ)) × (table_of name tables ≡ Some values)

-- a breach of what is found
pub in_found : {A : Type 0} (number : A → ℕ) (B : A → List ℕ → Type 0) (test : A → Bool) (xs : List A) (x : A) (spot : List ℕ) → find test xs ≡ Some x → B x spot → InAny number B xs (number x ∷ spot)
in_found number B test [] x spot e b = absurd (cc)
in_found number B test (y ∷ xs) x spot e b = by (test y) e (λ g. in_found number B test xs x spot g b)
  where
    by : (t : Bool) → cond t (Some y) (find test xs) ≡ Some x → (find test xs ≡ Some x → InAny number B xs (number x ∷ spot)) → InAny number B (y ∷ xs) (number x ∷ spot)
    by true g later = let same : x ≡ y = cc in subst (λ z. InAny number B (z ∷ xs) (number x ∷ spot)) same (in_first b)
    by false g later = in_later (later g)

-- ---- a subcomponent

-- of what nothing is known
pub shaped_any : (count : Count) (text : List ℕ) → IsShaped (record { presence = Maybe; values = any count None }) text
shaped_any count text = record { always = λ e. absurd (cc); absent = λ e. absurd (cc); values = λ some other. refl }

short_of : (count : Count) (len : Option ℕ) (text : List ℕ) → (is_long count len text ≡ true → ⊥) → is_short count len text ≡ true
short_of count None text n = refl
short_of count (Some most) text n = by (tells (nat_lt most (measure count text)))
  where
    by : (nat_lt most (measure count text) ≡ true) ⊎ (nat_lt most (measure count text) ≡ false) → nat_le (measure count text) most ≡ true
    by (inl e) = absurd (n e)
    by (inr e) = grind (arith, nat_tests)

kept : (test : List ℕ → Bool) (text : List ℕ) (texts : List (List ℕ)) → test text ≡ true → Among text texts → Among text (filter test texts)
kept test text [] e a = absurd a
kept test text (x ∷ texts) e (inl same) = rw (sym (ap test same) ∙ e) (inl same)
kept test text (x ∷ texts) e (inr a) = by (test x) refl (kept test text texts e a)
  where
    by : (b : Bool) → test x ≡ b → Among text (filter test texts) → Among text (filter test (x ∷ texts))
    by true f later = rw f (inr later)
    by false f later = rw f later

module _ (names : List (List ℕ)) (profile : ProfileValue) (has : HasTables names profile.tables) where
  listed_of : (s : SubValue) (text name : List ℕ) → Among name names → is_short (len_count profile) s.len text ≡ true → (is_unlisted profile.tables (Some name) text ≡ true → ⊥) → IsOf (sub_values profile (Some (record s { table = Some name }))) text
  listed_of s text name known short not_out =
      let found = has name known in
      let inside : is_among text found.0 ≡ true = not_false _ (sym (ap (λ o. lacks o text) found.1) ∙ false_not _ not_out) in
      subst (λ o. Among text (filter (is_short (len_count profile) s.len) (unwrap_or o []))) (sym found.1) (kept (is_short (len_count profile) s.len) text found.0 short ((among_is text found.0).0 inside))

  values_of : (s : SubValue) (text : List ℕ) → IfSome s.table (λ name. Among name names) → is_short (len_count profile) s.len text ≡ true → (is_unlisted profile.tables s.table text ≡ true → ⊥) → IsOf (sub_values profile (Some s)) text
  values_of s text known short not_out = by s.table known not_out
    where
      by : (t : Option (List ℕ)) → IfSome t (λ name. Among name names) → (is_unlisted profile.tables t text ≡ true → ⊥) → IsOf (sub_values profile (Some (record s { table = t }))) text
      by None k n = short
      by (Some name) k n = listed_of s text name k short n

  shaped_sub : (s : SubValue) (text : List ℕ) → LawfulSub names s → ((spot : List ℕ) → SubBreach profile s text spot → ⊥) → IsShaped (record { presence = sub_usage (Some s); values = sub_values profile (Some s) }) text
  shaped_sub s text lawful unbroken = record {
    always = λ e none. unbroken (3 ∷ []) (sub_absent (always_required s.usage e) (ap length none));
    absent = λ e. no_text text (λ lt. unbroken (4 ∷ []) (sub_forbidden (absent_forbidden s.usage e) lt));
    values = λ some other. values_of s text lawful.known (short_of (len_count profile) s.len text (λ l. unbroken (6 ∷ []) (too_long (some_text text some) other l))) (λ u. unbroken (7 ∷ []) (not_listed (some_text text some) other u));
  }

  -- ---- a repetition that is there, of a field that breaks nothing

  module _ (m : Texts) (f : FieldValue) (lawful : LawfulField names f) (unbroken : (spot : List ℕ) → FieldBreach profile m f spot → ⊥) (r : ℕ) (there : RepAt m f.number r) (n : ℕ) where
    comp_broken : (c : CompValue) (spot : List ℕ) → comp_of (Some f) n ≡ Some c → CompBreach profile m f.number r c spot → ⊥
    comp_broken c spot e b =
        unbroken (r ∷ c.number ∷ spot) (in_reps (in_rep there (in_comp (in_found (λ (d : CompValue). d.number) (CompBreach profile m f.number r) (λ (d : CompValue). d.number == n) f.comps c spot e b))))

    comp_number : (c : CompValue) → comp_of (Some f) n ≡ Some c → c.number ≡ n
    comp_number c e = (Decides-eqb c.number n).0 (found_test (λ (d : CompValue). d.number == n) f.comps c e)

    pub comp_there : is_always (comp_presence (comp_of (Some f) n)) ≡ true → (CompAt m f.number r n → ⊥) → ⊥
    comp_there a none = by (comp_of (Some f) n) refl a
      where
        by : (o : Option CompValue) → comp_of (Some f) n ≡ o → is_always (comp_presence o) ≡ true → ⊥
        by None e a = cc
        by (Some c) e a = comp_broken c (0 ∷ 3 ∷ []) e (comp_absent (always_required c.usage a) (λ at. none (subst (CompAt m f.number r) (comp_number c e) at)))

    pub comp_gone : is_absent (comp_presence (comp_of (Some f) n)) ≡ true → CompAt m f.number r n → ⊥
    comp_gone a at = by (comp_of (Some f) n) refl a
      where
        by : (o : Option CompValue) → comp_of (Some f) n ≡ o → is_absent (comp_presence o) ≡ true → ⊥
        by None e a = cc
        by (Some c) e a = comp_broken c (0 ∷ 4 ∷ []) e (comp_forbidden (absent_forbidden c.usage a) (subst (CompAt m f.number r) (sym (comp_number c e)) at))

    module _ (k : ℕ) (at : CompAt m f.number r n) where
      sub_broken : (c : CompValue) (s : SubValue) → comp_of (Some f) n ≡ Some c → sub_of (Some c) k ≡ Some s → (spot : List ℕ) → SubBreach profile s (text_of m f.number r n k) spot → ⊥
      sub_broken c s ec es spot b =
          let number : s.number ≡ k = (Decides-eqb s.number k).0 (found_test (λ (t : SubValue). t.number == k) c.subs s es) in
          let same : text_of m f.number r n k ≡ text_of m f.number r c.number s.number = λ i. text_of m f.number r (sym (comp_number c ec) i) (sym number i) in
          comp_broken c (s.number ∷ spot) ec
          (in_sub (subst (CompAt m f.number r) (sym (comp_number c ec)) at)
          (in_found (λ (t : SubValue). t.number) (λ (t : SubValue). SubBreach profile t (text_of m f.number r c.number t.number)) (λ (t : SubValue). t.number == k) c.subs s spot es (subst (λ text. SubBreach profile s text spot) same b)))

      sub_shaped : IsShaped (record { presence = sub_usage (sub_of (comp_of (Some f) n) k); values = sub_values profile (sub_of (comp_of (Some f) n) k) }) (text_of m f.number r n k)
      sub_shaped = by (comp_of (Some f) n) refl (sub_of (comp_of (Some f) n) k) refl
        where
          by : (co : Option CompValue) → comp_of (Some f) n ≡ co → (so : Option SubValue) → sub_of co k ≡ so → IsShaped (record { presence = sub_usage so; values = sub_values profile so }) (text_of m f.number r n k)
          by co ec None es = shaped_any (len_count profile) (text_of m f.number r n k)
          by None ec (Some s) es = absurd (cc)
          by (Some c) ec (Some s) es =
              let comp : LawfulComp names c = found_all (λ (d : CompValue). d.number == n) (LawfulComp names) f.comps c ec lawful.each in
              let sub : LawfulSub names s = found_all (λ (t : SubValue). t.number == k) (LawfulSub names) c.subs s es comp.each in
              shaped_sub s (text_of m f.number r n k) sub (sub_broken c s ec es)

      pub copied_here : IsShaped (record { presence = sub_presence (comp_of (Some f) n) (sub_of (comp_of (Some f) n) k); values = sub_values profile (sub_of (comp_of (Some f) n) k) }) (text_of m f.number r n k)
      copied_here = by (is_absent (comp_presence (comp_of (Some f) n))) refl
        where
          by : (b : Bool) → is_absent (comp_presence (comp_of (Some f) n)) ≡ b → IsShaped (record { presence = sub_presence (comp_of (Some f) n) (sub_of (comp_of (Some f) n) k); values = sub_values profile (sub_of (comp_of (Some f) n) k) }) (text_of m f.number r n k)
          by true e = absurd (comp_gone e at)
          by false e = rw e sub_shaped

    pub rep_shaped : (k : ℕ) → IsShaped (record { presence = rep_presence (Some f) n k; values = sub_values profile (sub_of (comp_of (Some f) n) k) }) (text_of m f.number r n k)
    rep_shaped k = record {
      always = λ e none. let p = both_always (comp_presence (comp_of (Some f) n)) _ e in comp_there p.0 (λ at. (sub_shaped k at).always p.1 none);
      absent = λ e. no_text (text_of m f.number r n k) (λ lt. gone lt (both_absent (comp_presence (comp_of (Some f) n)) _ e));
      values = λ some other. (sub_shaped k (k, some_text (text_of m f.number r n k) some)).values some other;
    }
      where
        gone : 0 < length (text_of m f.number r n k) → (is_absent (comp_presence (comp_of (Some f) n)) ≡ true) ⊎ (is_absent (sub_usage (sub_of (comp_of (Some f) n) k)) ≡ true) → ⊥
        gone lt (inl e) = comp_gone e (k, lt)
        gone lt (inr e) = text_there (text_of m f.number r n k) lt ((sub_shaped k (k, lt)).absent e)
