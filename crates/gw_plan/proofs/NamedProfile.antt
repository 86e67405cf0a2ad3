-- A profile has the name that its first line says.
use Rattle.std.proofs.Common.{◌≡◌, inl, inr, ℕ, ◌+◌, Bool, true, false, List, [], ◌∷◌, reverse, Option, Some, None, Ok, refl, sym, ap, ◌∙◌, subst}
use Rattle.std.specs.Prelude.{if◌then◌else◌, IfSome, codes}
use Rattle.std.specs.Option.{is_some}
use Rattle.gw_lines.specs.Words.{Word}
use Rattle.gw_lines.specs.Spelled.{is_keyword}
use Rattle.gw_lines.specs.Parts.{◌>>=◌, name_at, segment_at, number_at, some_values, with_all, first_word}
use Rattle.gw_lines.specs.Reading.{first_of, accepted}
use Rattle.gw_lines.proofs.Taken.{taken_by}
use Rattle.gw_profile.specs.declared.fault.ProfileFault.TheVariants.{Syntax}
use Rattle.gw_profile.specs.Shapes.{ProfileValue}
use Rattle.gw_profile.specs.Line.{Line, Begins, Table, Segment, Field, Comp, Sub, Group, End, Counts, profile_form, table_form, segment_form, field_form, comp_form, sub_form, group_form, count_form, form}
use Rattle.gw_profile.specs.Line.{label_at, usage_at, card_at, options, leaf_options}
use Rattle.gw_profile.specs.Fault.{grammar, tests, takes}
use Rattle.gw_profile.specs.Value.{name_of}
use Rattle.gw_profile.specs.Whole.{is_unclosed, spelled}
use Rattle.gw_profile.proofs.Spelling.{spelled_read}
use Rattle.gw_profile.proofs.Shaped.{any, gives, either_gives, with_all_is}
use Rattle.gw_plan.specs.declared.fault.PlanFault.TheVariants.{Duplicate}
use Rattle.gw_plan.specs.Declarations.{named_profile}
use Rattle.gw_plan.specs.Inner.{Inner, text, broken, common, first_said, profile_header_of, profile_header, duplicate_profile, profile_faults_beside}
use Rattle.gw_plan.proofs.Rejoined.{rejoined}
use Rattle.gw_plan.proofs.FirstLines.{First, first_taken, turned, keyword_gives}
use Rattle.gw_plan.proofs.Earliest.{none_of_both, none_beside}

-- the words that say the name of a profile
abbrev Says : List Word → Line → Type 0
Says ws (Begins name) = (at : ℕ) → profile_header_of (at, ws) ≡ Some (at, name)
Says ws (Table name values) = Unit {0}
Says ws (Segment name label renamed usage card) = Unit {0}
Says ws (Field number usage card leaf) = Unit {0}
Says ws (Comp number usage leaf) = Unit {0}
Says ws (Sub number usage leaf) = Unit {0}
Says ws (Group at label usage card) = Unit {0}
Says ws End = Unit {0}
Says ws Counts = Unit {0}

begins_says : (w : Word) (more : List Word) → is_keyword (codes "profile") w ≡ true → IfSome (profile_form more) (Says (w ∷ more))
begins_says w more k = by (name_at more) refl
  where
    by : (o : Option (List ℕ × List Word)) → name_at more ≡ o → IfSome (o >>= λ name. with_all name.1 (Begins name.0)) (Says (w ∷ more))
    by None e = tt
    by (Some (name, v ∷ rest)) e = tt
    by (Some (name, [])) e = λ at.
        ap (λ (b : Bool). ((if b then Some more else None) >>= λ rest. name_at rest) >>= λ n. with_all n.1 (at, n.0)) k
        ∙ ap (λ (o : Option (List ℕ × List Word)). o >>= λ n. with_all n.1 (at, n.0)) e

module _ {A : Type 0} (ws : List Word) (o : Option A) (f : A → Option Line) where
  after : ((x : A) → IfSome (f x) (Says ws)) → IfSome (o >>= f) (Says ws)
  after h = gives (λ _. Unit {0}) (Says ws) o f (any o) (λ x u. h x)

form_says : (at : ℕ) (ws : List Word) → IfSome (form at ws) (Says ws)
form_says at [] = tt
form_says at (w ∷ more) =
    let P = Says (w ∷ more) in
    keyword_gives P (is_keyword (codes "profile") w) (profile_form more) _ (begins_says w more)
    (either_gives P (is_keyword (codes "table") w) (table_form more) _ (after (w ∷ more) (name_at more) _ (λ n. after (w ∷ more) (some_values n.1) _ (λ v. tt)))
    (either_gives P (is_keyword (codes "segment") w) (segment_form more) _ (after (w ∷ more) (segment_at more) _ (λ n. after (w ∷ more) (label_at n.0 n.1) _
    (λ l. after (w ∷ more) (usage_at l.1) _ (λ u. after (w ∷ more) (card_at u.1) _ (λ c. with_all_is P c.1 (Segment n.0 l.0.0 l.0.1 u.0 c.0) tt)))))
    (either_gives P (is_keyword (codes "field") w) (field_form more) _ (after (w ∷ more) (number_at 999 more) _ (λ n. after (w ∷ more) (usage_at n.1) _
    (λ u. after (w ∷ more) (card_at u.1) _ (λ c. after (w ∷ more) (leaf_options u.0 c.1) _ (λ l. tt)))))
    (either_gives P (is_keyword (codes "comp") w) (comp_form more) _ (after (w ∷ more) (number_at 99 more) _ (λ n. after (w ∷ more) (usage_at n.1) _
    (λ u. after (w ∷ more) (leaf_options u.0 u.1) _ (λ l. tt))))
    (either_gives P (is_keyword (codes "sub") w) (sub_form more) _ (after (w ∷ more) (number_at 99 more) _ (λ n. after (w ∷ more) (usage_at n.1) _
    (λ u. after (w ∷ more) (options u.0 false u.1) _ (λ l. tt))))
    (either_gives P (is_keyword (codes "group") w) (group_form at more) _ (after (w ∷ more) (name_at more) _ (λ l. after (w ∷ more) (usage_at l.1) _
    (λ u. after (w ∷ more) (card_at u.1) _ (λ c. with_all_is P c.1 (Group at l.0 u.0 c.0) tt))))
    (either_gives P (is_keyword (codes "end") w) (with_all more End) _ (with_all_is P more End tt)
    (either_gives P (is_keyword (codes "count") w) (count_form more) None (after (w ∷ more) (first_word more) _
    (λ c. either_gives P (is_keyword (codes "characters") c.0) (with_all c.1 Counts) None (with_all_is P c.1 Counts tt) tt)) tt))))))))

-- the first line of a profile says its name
first_begins : (at : ℕ) (line : Line) → first_of (tests [] at line) ≡ None → (name : List ℕ) × (line ≡ Begins name)
first_begins at (Begins name) e = (name, refl)
first_begins at (Table name values) e = absurd (cc)
first_begins at (Segment name label renamed usage card) e = absurd (cc)
first_begins at (Field number usage card leaf) e = absurd (cc)
first_begins at (Comp number usage leaf) e = absurd (cc)
first_begins at (Sub number usage leaf) e = absurd (cc)
first_begins at (Group line label usage card) e = absurd (cc)
first_begins at End e = absurd (cc)
first_begins at Counts e = absurd (cc)

some_said : (all : List Line) → is_unclosed all ≡ false → all ≡ [] → ⊥
some_said [] closed e = cc
some_said (line ∷ all) closed e = cc

-- what the first line says of a profile
headed : (n : ℕ) (text : List (List ℕ)) (all : List Line) → First grammar n text all → (at : ℕ) × ((first_said n text >>= profile_header_of) ≡ Some (at, name_of (reverse all)))
headed n text all f =
    let t = taken_by grammar [] f.at f.spelling f.line f.taken in
    let b = first_begins f.at f.line t.1 in
    let says : Says f.spelling (Begins b.0) = subst (Says f.spelling) b.1 (subst (λ o. IfSome o (Says f.spelling)) t.0 (form_says f.at f.spelling)) in
    let named : name_of (reverse all) ≡ b.0 = ap (λ ls. name_of (reverse ls)) f.all_are ∙ ap name_of (turned f.others f.line) ∙ ap (λ (l : Line). name_of (l ∷ reverse f.others)) b.1 in
    (f.number, ap (λ o. o >>= profile_header_of) f.said ∙ says f.number ∙ ap (λ name. Some (f.number, name)) (sym named))

named_so : (p : Inner) (v : ProfileValue) → spelled (text p) ≡ Ok v → broken (p.at + 1) p.lines ≡ None → (at : ℕ) × (profile_header p ≡ Some (at, v.name))
named_so p v e whole =
    let a = spelled_read (text p) v e in
    let accepts = subst (λ (ls : List (List ℕ)). accepted Syntax takes [] 1 ls ≡ Ok a.0.all) (rejoined (p.at + 1) p.lines whole) a.0.accepts in
    let name : name_of (reverse a.0.all) ≡ v.name = ap (λ (q : ProfileValue). q.name) a.1.value in
    elim (first_taken grammar Syntax (p.at + 1) 1 p.lines a.0.all accepts) [
      | inl none ↦ absurd (some_said a.0.all a.1.closed none)
      | inr f ↦ (let h = headed (p.at + 1) p.lines a.0.all f in (h.0, h.1 ∙ ap (λ name. Some (h.0, name)) name))
    ]

-- no profile above has the name of one that is taken
pub profile_is_new : (ps : List ProfileValue) (p : Inner) (v : ProfileValue) → spelled (text p) ≡ Ok v → profile_faults_beside ps p ≡ None → named_profile v.name ps ≡ None
profile_is_new ps p v e none =
    let both = none_of_both (common p) (duplicate_profile ps (profile_header p)) none in
    let h = named_so p v e (none_beside p both.0) in
    again_none (named_profile v.name ps) h.0 (ap (duplicate_profile ps) (sym h.1) ∙ both.1)
  where
    again_none : (o : Option ProfileValue) (at : ℕ) → (if is_some o then Some (Duplicate at) else None) ≡ None → o ≡ None
    again_none None at k = refl
    again_none (Some x) at k = absurd (cc)
