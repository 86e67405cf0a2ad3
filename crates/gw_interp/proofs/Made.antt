-- A field made of leaves: how often it is there, and that what it holds breaks nothing where no rule fails for it.
use Rattle.std.proofs.Common.{◌≡◌, ℕ, ◌<◌, ◌⊎◌, inl, inr, Bool, true, false, List, [], map, Option, Some, None, refl, sym, ap, ◌∙◌, subst, length}
use Rattle.std.specs.Prelude.{◌==◌, ◌&&◌, ◌||◌, not, find, flat_map, if◌then◌else◌}
use Rattle.std.specs.List.{AllByRecursion, list_any, list_all}
use Rattle.std.proofs.lemmas.Bool.Decides.{Decides-eqb}
use Rattle.gw_er7.specs.Message.{Texts, text_of}
use Rattle.gw_er7.specs.Presence.{CompAt, RepAt}
use Rattle.gw_profile.specs.Shapes.{SubValue, CompValue, FieldValue, ProfileValue}
use Rattle.gw_profile.specs.WellFormed.{Rising, LawfulComp, LawfulField}
use Rattle.gw_profile.proofs.Facts as facts
use Rattle.gw_profile.proofs.Facts.{either, and_of, not_true}
use Rattle.gw_validate.specs.Breaches.{is_required, is_null, SubBreach, InAny, CompBreach, comp_absent, comp_forbidden, in_sub}
use Rattle.gw_maplang.specs.declared.rule.LeafPlace.{LeafPlace}
use Rattle.gw_resolve.specs.Intervals.{Interval, never}
use Rattle.gw_resolve.specs.Resolved.{At, alternatives, leaf_at}
use Rattle.gw_leaves.specs.Leaves.{Sources, at_presence, is_always, is_absent}
use Rattle.gw_profile.specs.Numbered.{comp_of, sub_of}
use Rattle.gw_leaves.specs.Counts.{some_always, all_absent, leaves_count}
use Rattle.gw_resolve.specs.Failures.{Mark, fails}
use Rattle.gw_leaves.specs.Components.{comp_in, leaf_mark, is_comp_sure, is_sub_sure, made_sub, made_comp, is_forbidden_comp, is_forbidden_sub, placed, made_leaf, made_field}
use Rattle.gw_resolve.specs.Lawful.{LawfulAt, LawfulLeaves, place}
use Rattle.gw_interp.specs.Meaning.{Walked, FirstText, AtMeans, Where}
use Rattle.gw_interp.proofs.Walks.{IsWalked}
use Rattle.gw_interp.proofs.Lists.{all_with, all_pass, some_pass, found_test, found_all, found_each, rising_distinct, none_fails, both_empty, each_empty}
use Rattle.gw_interp.proofs.Shaped.{IsFit, some_text, no_text, text_there}
use Rattle.gw_interp.proofs.Held.{HasTables}
use Rattle.gw_interp.proofs.Firsts.{IsFirstShaped, first_shaped, first_fit}
use Rattle.gw_interp.proofs.Repetitions.{IsCounted, never_counted, counted_within, counted_alike}
use Rattle.gw_interp.proofs.Contents.{none_broken, demanded, sub_unbroken}

-- ---- elements found by their numbers

pub own_number : (n : ℕ) → n == n ≡ true
own_number n = (Decides-eqb n n).1 refl

pub found_by_number : {A : Type 0} (number : A → ℕ) (low high : ℕ) (xs : List A) → Rising low high (map number xs) → AllByRecursion (λ x. find (λ y. number y == number x) xs ≡ Some x) xs
found_by_number number low high xs rising =
    found_each number (λ n y. number y == n) (λ x. own_number (number x)) (λ x y e. sym ((Decides-eqb (number y) (number x)).0 e)) xs (rising_distinct low high (map number xs) rising)

pub same_place : (a b : At) → b.comp == a.comp && b.sub == a.sub ≡ true → place a ≡ place b
same_place a b e =
    let p = facts.both (b.comp == a.comp) (b.sub == a.sub) e in
    let comp : a.comp ≡ b.comp = sym ((Decides-eqb b.comp a.comp).0 p.0) in
    let sub : a.sub ≡ b.sub = sym ((Decides-eqb b.sub a.sub).0 p.1) in
    λ i. record { comp = comp i; sub = sub i }

-- ---- leaves at their places

-- a text that is there is that of a place
pub record IsMade (s : Sources) (Here : ℕ → Type 0) (leaves : List At) (m : Texts) (number r c k : ℕ) : Type 0 where
  pub here : Here r
  pub at : At
  pub found : leaf_at leaves c k ≡ Some at
  pub shaped : IsFirstShaped s (alternatives at) (text_of m number r c k)

pub comp_is : (leaves : List At) (c k : ℕ) (a : At) → leaf_at leaves c k ≡ Some a → a.comp ≡ c
comp_is leaves c k a e = (Decides-eqb a.comp c).0 (facts.both (a.comp == c) (a.sub == k) (found_test (λ (b : At). b.comp == c && b.sub == k) leaves a e)).0

pub sub_is : (leaves : List At) (c k : ℕ) (a : At) → leaf_at leaves c k ≡ Some a → a.sub ≡ k
sub_is leaves c k a e = (Decides-eqb a.sub k).0 (facts.both (a.comp == c) (a.sub == k) (found_test (λ (b : At). b.comp == c && b.sub == k) leaves a e)).1

module _ (names : List (List ℕ)) (s : Sources) (has : HasTables names s.profile.tables) (Here : ℕ → Type 0) (W : ℕ → Walked) (walked : (r : ℕ) → Here r → IsWalked names s (W r)) (repeated : Bool) (leaves : List At) (lawful : LawfulLeaves repeated leaves) (m : Texts) (number : ℕ) (means : (r c k : ℕ) → Where (Here r) (AtMeans (W r) (leaf_at leaves c k)) (text_of m number r c k)) where
  leaf_means : (r c k : ℕ) (a : At) → Here r → leaf_at leaves c k ≡ Some a → FirstText (W r) (alternatives a) (text_of m number r c k) → IsFirstShaped s (alternatives a) (text_of m number r c k)
  leaf_means r c k a here e h = first_shaped names s (W r) has (walked r here) repeated (alternatives a) (text_of m number r c k) (found_all (λ (b : At). b.comp == c && b.sub == k) (LawfulAt repeated) leaves a e lawful.each).each h

  made : (r c k : ℕ) → 0 < length (text_of m number r c k) → IsMade s Here leaves m number r c k
  made r c k lt = by (means r c k)
    where
      at_leaf : Here r → (o : Option At) → leaf_at leaves c k ≡ o → AtMeans (W r) o (text_of m number r c k) → IsMade s Here leaves m number r c k
      at_leaf here None e h = absurd (text_there _ lt h)
      at_leaf here (Some a) e h = record { here = here; at = a; found = e; shaped = leaf_means r c k a here e h }

      by : Where (Here r) (AtMeans (W r) (leaf_at leaves c k)) (text_of m number r c k) → IsMade s Here leaves m number r c k
      by (inl h) = at_leaf h.0 (leaf_at leaves c k) refl h.1
      by (inr h) = absurd (text_there _ lt h.1)

  -- what is always there is there
  sure_text : (r : ℕ) (a : At) → Here r → leaf_at leaves a.comp a.sub ≡ Some a → is_always (at_presence s a) ≡ true → 0 < length (text_of m number r a.comp a.sub)
  sure_text r a here e always = by (means r a.comp a.sub)
    where
      by : Where (Here r) (AtMeans (W r) (leaf_at leaves a.comp a.sub)) (text_of m number r a.comp a.sub) → 0 < length (text_of m number r a.comp a.sub)
      by (inl h) = some_text _ ((leaf_means r a.comp a.sub a here e (subst (λ o. AtMeans (W r) o (text_of m number r a.comp a.sub)) e h.1)).always always)
      by (inr h) = absurd (h.0 here)

  each_found : AllByRecursion (λ (a : At). leaf_at leaves a.comp a.sub ≡ Some a) leaves
  each_found = found_each place (λ (p : LeafPlace) (a : At). a.comp == p.comp && a.sub == p.sub) (λ a. and_of (a.comp == a.comp) (a.sub == a.sub) (own_number a.comp) (own_number a.sub)) same_place leaves lawful.distinct

  -- no text is that of a place that never has one
  gone_text : (r c k : ℕ) (a : At) → IsFirstShaped s (alternatives a) (text_of m number r c k) → 0 < length (text_of m number r c k) → is_absent (at_presence s a) ≡ true → ⊥
  gone_text r c k a shaped lt e = text_there _ lt (shaped.absent e)

  -- ---- how often

  pub made_counted : (i : Interval) → IsCounted Here i → IsCounted (RepAt m number) (leaves_count s leaves i)
  made_counted i is = by (all_absent s leaves) refl (some_always s leaves) refl
    where
      here : (r : ℕ) → RepAt m number r → Here r
      here r at = (made r at.0 at.1.0 at.1.1).here

      gone : all_absent s leaves ≡ true → (r : ℕ) → RepAt m number r → ⊥
      gone e r at =
          let is_made = made r at.0 at.1.0 at.1.1 in
          let absent = found_all (λ (b : At). b.comp == at.0 && b.sub == at.1.0) (λ (a : At). is_absent (at_presence s a) ≡ true) leaves is_made.at is_made.found (all_pass (λ (a : At). is_absent (at_presence s a)) leaves e) in
          gone_text r at.0 at.1.0 is_made.at is_made.shaped at.1.1 absent

      back : some_always s leaves ≡ true → (r : ℕ) → Here r → RepAt m number r
      back e r there =
          let sure = some_pass (λ (a : At). is_always (at_presence s a)) (λ (a : At). leaf_at leaves a.comp a.sub ≡ Some a) leaves e each_found in
          (sure.0.comp, (sure.0.sub, sure_text r sure.0 there sure.2 sure.1))

      by : (a : Bool) → all_absent s leaves ≡ a → (b : Bool) → some_always s leaves ≡ b → IsCounted (RepAt m number) (if a then never else if b then i else record { least = 0; greatest = i.greatest })
      by true e b f = never_counted (RepAt m number) (gone e)
      by false e true f = counted_alike (RepAt m number) Here here (back f) i is
      by false e false f = counted_within (RepAt m number) Here here i is

  -- ---- what it holds

  module _ (profile : ProfileValue) (mark : Mark) (target : FieldValue) (unfailed : AllByRecursion (λ (a : At). made_leaf s profile target a ≡ []) leaves) (r : ℕ) where
    parts_of : (c k : ℕ) (at : IsMade s Here leaves m number r c k) → (fails 11 (leaf_mark target.number at.at) ((is_forbidden_comp (comp_of (Some target) at.at.comp) || is_forbidden_sub (sub_of (comp_of (Some target) at.at.comp) at.at.sub)) && not (is_absent (at_presence s at.at))) ≡ []) × (placed s profile (leaf_mark target.number at.at) (alternatives at.at) (sub_of (comp_of (Some target) at.at.comp) at.at.sub) ≡ [])
    parts_of c k at = both_empty _ (placed s profile (leaf_mark target.number at.at) (alternatives at.at) (sub_of (comp_of (Some target) at.at.comp) at.at.sub)) (found_all (λ (b : At). b.comp == c && b.sub == k) (λ (a : At). made_leaf s profile target a ≡ []) leaves at.at at.found unfailed)

    -- where the component or subcomponent of a place is forbidden, it never has a text
    kept_out : (c k : ℕ) → 0 < length (text_of m number r c k) → is_forbidden_comp (comp_of (Some target) c) || is_forbidden_sub (sub_of (comp_of (Some target) c) k) ≡ true → ⊥
    kept_out c k lt e =
        let at = made r c k lt in
        let comp = comp_is leaves c k at.at at.found in
        let sub = sub_is leaves c k at.at at.found in
        let asked : is_forbidden_comp (comp_of (Some target) at.at.comp) || is_forbidden_sub (sub_of (comp_of (Some target) at.at.comp) at.at.sub) ≡ true = ap (λ n. is_forbidden_comp (comp_of (Some target) n) || is_forbidden_sub (sub_of (comp_of (Some target) n) at.at.sub)) comp ∙ ap (λ n. is_forbidden_comp (comp_of (Some target) c) || is_forbidden_sub (sub_of (comp_of (Some target) c) n)) sub ∙ e in
        gone_text r c k at.at at.shaped lt (demanded _ (is_absent (at_presence s at.at)) (none_fails 11 (leaf_mark target.number at.at) _ (parts_of c k at).0) asked)

    fit_leaf : (c k : ℕ) (sub : SubValue) → sub_of (comp_of (Some target) c) k ≡ Some sub → (text_of m number r c k ≡ [] → ⊥) → is_null (text_of m number r c k) ≡ false → IsFit profile sub (text_of m number r c k)
    fit_leaf c k sub e some other =
        let at = made r c k (some_text _ some) in
        let here : sub_of (comp_of (Some target) at.at.comp) at.at.sub ≡ Some sub = ap (λ n. sub_of (comp_of (Some target) n) at.at.sub) (comp_is leaves c k at.at at.found) ∙ ap (sub_of (comp_of (Some target) c)) (sub_is leaves c k at.at at.found) ∙ e in
        first_fit s profile (leaf_mark target.number at.at) sub (text_of m number r c k) some other (alternatives at.at) (subst (λ o. placed s profile (leaf_mark target.number at.at) (alternatives at.at) o ≡ []) here (parts_of c k at).1) (at.shaped.by_one some)

    -- a required component is there
    comp_sure : (c : ℕ) → RepAt m number r → is_comp_sure s leaves c ≡ true → CompAt m number r c
    comp_sure c rep e = by (either (list_any (λ (a : At). a.comp == c && is_always (at_presence s a)) leaves) (list_all (λ (a : At). a.comp == c || is_absent (at_presence s a)) leaves) e)
      where
        is_made : IsMade s Here leaves m number r rep.0 rep.1.0
        is_made = made r rep.0 rep.1.0 rep.1.1

        alone : (is_made.at.comp == c ≡ true) ⊎ (is_absent (at_presence s is_made.at) ≡ true) → CompAt m number r c
        alone (inl same) =
            let comp : rep.0 ≡ c = sym (comp_is leaves rep.0 rep.1.0 is_made.at is_made.found) ∙ (Decides-eqb is_made.at.comp c).0 same in
            subst (CompAt m number r) comp rep.1
        alone (inr absent) = absurd (gone_text r rep.0 rep.1.0 is_made.at is_made.shaped rep.1.1 absent)

        by : (list_any (λ (a : At). a.comp == c && is_always (at_presence s a)) leaves ≡ true) ⊎ (list_all (λ (a : At). a.comp == c || is_absent (at_presence s a)) leaves ≡ true) → CompAt m number r c
        by (inl any) =
            let sure = some_pass (λ (a : At). a.comp == c && is_always (at_presence s a)) (λ (a : At). leaf_at leaves a.comp a.sub ≡ Some a) leaves any each_found in
            let p = facts.both (sure.0.comp == c) _ sure.1 in
            subst (CompAt m number r) ((Decides-eqb sure.0.comp c).0 p.0) (sure.0.sub, sure_text r sure.0 is_made.here sure.2 p.1)
        by (inr all) =
            alone
            (either (is_made.at.comp == c) _
            (found_all (λ (b : At). b.comp == rep.0 && b.sub == rep.1.0) (λ (a : At). a.comp == c || is_absent (at_presence s a) ≡ true) leaves is_made.at is_made.found (all_pass (λ (a : At). a.comp == c || is_absent (at_presence s a)) leaves all)))

    -- and so is a required subcomponent of a component that is there
    sub_sure : (c k : ℕ) → CompAt m number r c → is_sub_sure s leaves c k ≡ true → 0 < length (text_of m number r c k)
    sub_sure c k there e = by (either (list_any (λ (a : At). a.comp == c && a.sub == k && is_always (at_presence s a)) leaves) (list_all (λ (a : At). not (a.comp == c) || a.sub == k || is_absent (at_presence s a)) leaves) e)
      where
        is_made : IsMade s Here leaves m number r c there.0
        is_made = made r c there.0 there.1

        in_it : is_made.at.comp == c ≡ true
        in_it = (Decides-eqb is_made.at.comp c).1 (comp_is leaves c there.0 is_made.at is_made.found)

        here : (not (is_made.at.comp == c) ≡ true) ⊎ (is_made.at.sub == k ≡ true) → 0 < length (text_of m number r c k)
        here (inl other) = absurd (not_true (is_made.at.comp == c) other in_it)
        here (inr same) =
            let sub : there.0 ≡ k = sym (sub_is leaves c there.0 is_made.at is_made.found) ∙ (Decides-eqb is_made.at.sub k).0 same in
            subst (λ n. 0 < length (text_of m number r c n)) sub there.1

        alone : (not (is_made.at.comp == c) || is_made.at.sub == k ≡ true) ⊎ (is_absent (at_presence s is_made.at) ≡ true) → 0 < length (text_of m number r c k)
        alone (inl same) = here (either (not (is_made.at.comp == c)) (is_made.at.sub == k) same)
        alone (inr absent) = absurd (gone_text r c there.0 is_made.at is_made.shaped there.1 absent)

        by : (list_any (λ (a : At). a.comp == c && a.sub == k && is_always (at_presence s a)) leaves ≡ true) ⊎ (list_all (λ (a : At). not (a.comp == c) || a.sub == k || is_absent (at_presence s a)) leaves ≡ true) → 0 < length (text_of m number r c k)
        by (inl any) =
            let sure = some_pass (λ (a : At). a.comp == c && a.sub == k && is_always (at_presence s a)) (λ (a : At). leaf_at leaves a.comp a.sub ≡ Some a) leaves any each_found in
            let p = facts.both (sure.0.comp == c && sure.0.sub == k) _ sure.1 in
            let q = facts.both (sure.0.comp == c) (sure.0.sub == k) p.0 in
            subst (λ n. 0 < length (text_of m number r c n)) ((Decides-eqb sure.0.sub k).0 q.1)
            (subst (λ n. 0 < length (text_of m number r n sure.0.sub)) ((Decides-eqb sure.0.comp c).0 q.0) (sure_text r sure.0 is_made.here sure.2 p.1))
        by (inr all) =
            alone
            (either (not (is_made.at.comp == c) || is_made.at.sub == k) _
            (found_all (λ (b : At). b.comp == c && b.sub == there.0) (λ (a : At). not (a.comp == c) || a.sub == k || is_absent (at_presence s a) ≡ true) leaves is_made.at is_made.found (all_pass (λ (a : At). not (a.comp == c) || a.sub == k || is_absent (at_presence s a)) leaves all)))

    sub_made : (c : CompValue) → comp_of (Some target) c.number ≡ Some c → CompAt m number r c.number → (sub : SubValue) → made_sub s (comp_in mark c.number) leaves c.number sub ≡ [] → sub_of (Some c) sub.number ≡ Some sub → (spot : List ℕ) → SubBreach profile sub (text_of m number r c.number sub.number) spot → ⊥
    sub_made c ec there sub none es =
        let found : sub_of (comp_of (Some target) c.number) sub.number ≡ Some sub = ap (λ o. sub_of o sub.number) ec ∙ es in
        sub_unbroken profile sub (text_of m number r c.number sub.number)
        (λ u. text_there _ (sub_sure c.number sub.number there (demanded (is_required sub.usage) _ (none_fails 5 _ _ none) u)))
        (λ u. no_text _ (λ lt. kept_out c.number sub.number lt (facts.or_right (is_forbidden_comp (comp_of (Some target) c.number)) _ (ap is_forbidden_sub found ∙ u))))
        (fit_leaf c.number sub.number sub found)

    comp_made : (target_names : List (List ℕ)) (c : CompValue) → RepAt m number r → LawfulComp target_names c → made_comp s mark leaves c ≡ [] → comp_of (Some target) c.number ≡ Some c → (spot : List ℕ) → CompBreach profile m number r c spot → ⊥
    comp_made target_names c rep lawful none ec = by (both_empty _ (flat_map (made_sub s (comp_in mark c.number) leaves c.number) c.subs) none)
      where
        by : (fails 5 (comp_in mark c.number) (is_required c.usage && not (is_comp_sure s leaves c.number)) ≡ []) × (flat_map (made_sub s (comp_in mark c.number) leaves c.number) c.subs ≡ []) → (spot : List ℕ) → CompBreach profile m number r c spot → ⊥
        by parts spot (comp_absent u gone) = gone (comp_sure c.number rep (demanded (is_required c.usage) _ (none_fails 5 _ _ parts.0) u))
        by parts spot (comp_forbidden u at) = kept_out c.number at.0 at.1 (facts.or_left (is_forbidden_comp (comp_of (Some target) c.number)) _ (ap is_forbidden_comp ec ∙ u))
        by parts spot (in_sub at b) =
            none_broken (λ (t : SubValue). t.number) (λ (t : SubValue). SubBreach profile t (text_of m number r c.number t.number)) c.subs
            (all_with (λ (t : SubValue). made_sub s (comp_in mark c.number) leaves c.number t ≡ []) (λ (t : SubValue). sub_of (Some c) t.number ≡ Some t) (λ (t : SubValue). (spot : List ℕ) → SubBreach profile t (text_of m number r c.number t.number) spot → ⊥)
            (λ t e f. sub_made c ec at t e f) c.subs (each_empty (made_sub s (comp_in mark c.number) leaves c.number) c.subs parts.1) (found_by_number (λ (t : SubValue). t.number) 1 99 c.subs lawful.rising)) spot b

  -- a repetition that is made breaks no component
  pub comps_made : (target_names : List (List ℕ)) (profile : ProfileValue) (mark : Mark) (target : FieldValue) → LawfulField target_names target → made_field s profile mark leaves target ≡ [] → (r : ℕ) → RepAt m number r → (spot : List ℕ) → InAny (λ c. c.number) (CompBreach profile m number r) target.comps spot → ⊥
  comps_made target_names profile mark target lawful none r rep =
      let parts = both_empty (flat_map (made_comp s mark leaves) target.comps) (flat_map (made_leaf s profile target) leaves) none in
      let unfailed = each_empty (made_leaf s profile target) leaves parts.1 in
      none_broken (λ (c : CompValue). c.number) (CompBreach profile m number r) target.comps
      (all_with (λ (c : CompValue). made_comp s mark leaves c ≡ []) (λ (c : CompValue). LawfulComp target_names c × (comp_of (Some target) c.number ≡ Some c)) (λ (c : CompValue). (spot : List ℕ) → CompBreach profile m number r c spot → ⊥)
      (λ c e f. comp_made profile mark target unfailed r target_names c rep f.0 e f.1) target.comps (each_empty (made_comp s mark leaves) target.comps parts.0)
      (all_with (LawfulComp target_names) (λ (c : CompValue). comp_of (Some target) c.number ≡ Some c) (λ (c : CompValue). LawfulComp target_names c × (comp_of (Some target) c.number ≡ Some c)) (λ c a b. (a, b)) target.comps lawful.each (found_by_number (λ (c : CompValue). c.number) 1 99 target.comps lawful.rising)))
