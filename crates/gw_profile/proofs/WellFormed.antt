-- The profile that taken lines spell is well formed.
use Rattle.std.proofs.Common.{◌≡◌, ℕ, ◌+◌, ◌≤◌, inl, inr, Bool, true, false, List, [], ◌∷◌, length, reverse, Option, Some, None, Ok, Err, refl, sym, ◌∙◌, subst, arith}
use mathlib.Core.List.{reverse_aux}
use Rattle.std.specs.Prelude.{◌&&◌, ◌||◌, ◌==◌, not, if◌then◌else◌, codes, unwrap_or}
use Rattle.std.specs.List.{AllByRecursion, list_all}
use Rattle.std.proofs.lemmas.Slice.Eq.{bytes_eq-Decides}
use Rattle.std.proofs.lemmas.Bool.Decides.{Decides-eqb}
use Rattle.gw_lines.specs.Words.{lines}
use Rattle.gw_lines.specs.Spelled.{is_name}
use Rattle.gw_profile.specs.declared.fault.ProfileFault.TheVariants.{Syntax, TooLarge}
use Rattle.gw_profile.specs.declared.shape.Usage as usages
use Rattle.gw_profile.specs.declared.shape.Usage.TheVariants.{R, RE, O, X}
use Rattle.gw_profile.specs.declared.shape.Card.{Card}
use Rattle.gw_profile.specs.Among.{Among, Distinct}
use Rattle.gw_profile.specs.Shapes.{GroupValue, Forest, nothing, segment, group, ProfileValue}
use Rattle.gw_profile.specs.Line.{Line, Begins, Table, Segment, Field, Comp, Sub, Group, End, Counts, allows, agrees}
use Rattle.gw_profile.specs.Fault as Fault
use Rattle.gw_profile.specs.Fault.{levels, takes}
use Rattle.gw_profile.specs.Value as Value
use Rattle.gw_profile.specs.Value.{Nodes, nodes, next, past, name_of, profile}
use Rattle.gw_profile.specs.LookAhead.{is_optional, ambiguous}
use Rattle.gw_profile.specs.Deterministic.{Name, AtMost, Demands, NoName, Deterministic, Determined}
use Rattle.gw_profile.specs.Whole.{empty_group, is_msh, is_once, is_header, is_headed, is_unclosed, unambiguous, filled, ruled, whole, spelled, most_bytes, most_lines}
use Rattle.gw_profile.specs.WellFormed.{Agrees, LawfulSegment, LawfulGroup, LawfulTable, EachSegment, EachGroup, once, IsOther, Headed, table_names, WellFormed}
use Rattle.gw_lines.specs.Grammar.{AllTaken}
use Rattle.gw_lines.proofs.Taken.{accepted_taken, spelled_accepts}
use Rattle.gw_profile.specs.Fault.{grammar}
use Rattle.gw_profile.proofs.Facts.{both, not_true, or_left, or_right, no_clash, unchosen, not_is}
use Rattle.gw_profile.proofs.Among.{among_append}
use Rattle.gw_profile.proofs.Ambiguity.{allows_is, optional_is, demands_or, not_ambiguous_is}
use Rattle.gw_profile.proofs.Passed.{taken_keeps}
use Rattle.gw_profile.proofs.Parts.{Goes}
use Rattle.gw_profile.proofs.Levels.{levels_lawful}

-- ---- what holds of all forests that lines spell

module _ (Q : Forest → Type 0) (none : Q nothing) where
  abbrev pub OfNodes : Nodes → Type 0
  OfNodes n = Q n.here × AllByRecursion Q n.behind

  of_next : (behind : List Forest) → AllByRecursion Q behind → Q (next behind)
  of_next [] h = none
  of_next (f ∷ behind) h = h.0

  of_past : (behind : List Forest) → AllByRecursion Q behind → AllByRecursion Q (past behind)
  of_past [] h = tt
  of_past (f ∷ behind) h = h.1

-- ---- the header

is_other : (name label : List ℕ) → not (is_msh name || is_msh label) ≡ true → (name ≡ codes "MSH" → ⊥) × (label ≡ codes "MSH" → ⊥)
is_other name label h =
    (λ k. not_true _ h (or_left _ _ ((bytes_eq-Decides name (codes "MSH")).1 k)), λ k. not_true _ h (or_right (is_msh name) _ ((bytes_eq-Decides label (codes "MSH")).1 k)))

others : (below : List Line) → list_all (λ other. not (is_header other)) below ≡ true → OfNodes (EachSegment IsOther) tt (nodes below)
others [] e = (tt, tt)
others (Begins name ∷ below) e = others below e
others (Table name values ∷ below) e = others below e
others (Counts ∷ below) e = others below e
others (Segment name label renamed usage card ∷ below) e =
    let p = both (not (is_msh name || is_msh label)) _ e in let h = others below p.1 in ((is_other name label p.0, h.0), h.1)
others (Field number usage card leaf ∷ below) e = others below e
others (Comp number usage leaf ∷ below) e = others below e
others (Sub number usage leaf ∷ below) e = others below e
others (Group at label usage card ∷ below) e =
    let h = others below e in ((h.0, of_next (EachSegment IsOther) tt (nodes below).behind h.1), of_past (EachSegment IsOther) tt (nodes below).behind h.1)
others (End ∷ below) e = let h = others below e in (tt, (h.0, h.1))

-- R 1..1
once_is : (usage : Option usages.Usage) (card : Card) → agrees usage card ≡ true → is_once usage card ≡ true → (unwrap_or usage O ≡ R) × (card ≡ once)
once_is None card a e = absurd (cc)
once_is (Some R) card a e =
    let p = both (card.min == 1) _ e in let q = both _ (allows card.max card.min) a in
    (refl, by card.min card.max (one card.min p.0) ((allows_is card.max card.min).0 q.1) (λ h. not_true _ p.1 ((allows_is card.max 2).1 h)))
  where
    one : (n : ℕ) → n == 1 ≡ true → n ≡ 1
    one n e = (Decides-eqb n 1).0 e

    just : (m : ℕ) → 1 ≤ m → (2 ≤ m → ⊥) → m ≡ 1
    just m a b = omega arith

    by : (min : ℕ) (max : Option ℕ) → min ≡ 1 → AtMost max min → (AtMost max 2 → ⊥) → ◌≡◌ {A = Card} (record { min = min; max = max }) once
    by min None e h k = absurd (k tt)
    by min (Some m) e h k = let f : m ≡ 1 = just m (omega arith) (λ i. k i) in cc
once_is (Some RE) card a e = absurd (cc)
once_is (Some O) card a e = absurd (cc)
once_is (Some X) card a e = absurd (cc)

headed_is : (above below : List Line) → Goes above below → is_headed below ≡ true → Headed (nodes below).here
headed_is above [] g e = absurd (cc)
headed_is above (Begins name ∷ below) g e = headed_is (Begins name ∷ above) below g.1 e
headed_is above (Table name values ∷ below) g e = headed_is (Table name values ∷ above) below g.1 e
headed_is above (Counts ∷ below) g e = headed_is (Counts ∷ above) below g.1 e
headed_is above (Segment name label renamed usage card ∷ below) g e =
    let p = both (is_msh name && not renamed && is_once usage card) _ e in
    let q = both (is_msh name && not renamed) (is_once usage card) p.0 in
    let r = both (is_msh name) (not renamed) q.0 in
    let o = once_is usage card g.0.passes.1 q.1 in
    let n = (bytes_eq-Decides name (codes "MSH")).0 r.0 in
    (record { name = n; label = g.0.shaped.2 (not_is renamed r.1) ∙ n; usage = o.0; card = o.1 }, (others below p.1).0)
headed_is above (Field number usage card leaf ∷ below) g e = absurd (cc)
headed_is above (Comp number usage leaf ∷ below) g e = absurd (cc)
headed_is above (Sub number usage leaf ∷ below) g e = absurd (cc)
headed_is above (Group at label usage card ∷ below) g e = absurd (cc)
headed_is above (End ∷ below) g e = absurd (cc)

-- the first line says the name
named_is : (lines : List Line) → Goes [] lines → is_headed lines ≡ true → is_name (name_of lines) ≡ true
named_is [] g e = absurd (cc)
named_is (Begins name ∷ below) g e = g.0.shaped
named_is (Table name values ∷ below) g e = absurd (no_clash (sym g.0.passes.0))
named_is (Segment name label renamed usage card ∷ below) g e = absurd (no_clash (sym g.0.passes.0))
named_is (Field number usage card leaf ∷ below) g e = absurd g.0.passes.0
named_is (Comp number usage leaf ∷ below) g e = absurd g.0.passes.0
named_is (Sub number usage leaf ∷ below) g e = absurd g.0.passes.0
named_is (Group at label usage card ∷ below) g e = absurd (no_clash (sym g.0.passes.0))
named_is (Counts ∷ below) g e = absurd (no_clash (sym g.0.passes))
named_is (End ∷ below) g e = absurd (omega (arith, g.0.passes))

-- ---- groups that are never empty

abbrev Demanding : GroupValue → Forest → Type 0
Demanding g nodes = Demands nodes

demanding : (f : Forest) → is_optional f ≡ false → Demands f
demanding f e = elim (demands_or f) [ inl d ↦ d | inr o ↦ (let t = (optional_is f).1 o in absurd (cc)) ]

filled_is : (below : List Line) → empty_group below ≡ None → OfNodes (EachGroup Demanding) tt (nodes below)
filled_is [] e = (tt, tt)
filled_is (Begins name ∷ below) e = filled_is below e
filled_is (Table name values ∷ below) e = filled_is below e
filled_is (Counts ∷ below) e = filled_is below e
filled_is (Segment name label renamed usage card ∷ below) e = let h = filled_is below e in (h.0, h.1)
filled_is (Field number usage card leaf ∷ below) e = filled_is below e
filled_is (Comp number usage leaf ∷ below) e = filled_is below e
filled_is (Sub number usage leaf ∷ below) e = filled_is below e
filled_is (Group at label usage card ∷ below) e =
    let p = unchosen (is_optional (nodes below).here) at (empty_group below) e in
    let h = filled_is below p.1 in
    ((demanding (nodes below).here p.0, h.0, of_next (EachGroup Demanding) tt (nodes below).behind h.1), of_past (EachGroup Demanding) tt (nodes below).behind h.1)
filled_is (End ∷ below) e = let h = filled_is below e in (tt, (h.0, h.1))

-- ---- tables

pub record LawfulTables (above below : List Line) : Type 0 where
  pub each : AllByRecursion LawfulTable (Value.tables below)
  pub distinct : Distinct (table_names (Value.tables below))
  pub apart : (x : List ℕ) → Among x (table_names (Value.tables below)) → Among x (Fault.tables above) → ⊥

tables_lawful : (above below : List Line) → Goes above below → LawfulTables above below
tables_lawful above [] g = record { each = tt; distinct = tt; apart = λ x h k. h }
tables_lawful above (Counts ∷ below) g = let h = tables_lawful (Counts ∷ above) below g.1 in record { each = h.each; distinct = h.distinct; apart = h.apart }
tables_lawful above (Begins name ∷ below) g = let h = tables_lawful (Begins name ∷ above) below g.1 in record { each = h.each; distinct = h.distinct; apart = h.apart }
tables_lawful above (Table name values ∷ below) g =
    let h = tables_lawful (Table name values ∷ above) below g.1 in
    record {
      each = (record { named = g.0.shaped.0; some = g.0.shaped.1; each = g.0.shaped.2; distinct = g.0.passes.2 }, h.each);
      distinct = (λ a. h.apart name a ((among_append (Fault.tables above) (name ∷ []) name).1 (inr (inl refl))), h.distinct);
      apart = λ x. elim [
        | inl e ↦ (λ k. g.0.passes.1 (subst (λ y. Among y (Fault.tables above)) e k))
        | inr a ↦ (λ k. h.apart x a ((among_append (Fault.tables above) (name ∷ []) x).1 (inl k)))
      ];
    }
tables_lawful above (Segment name label renamed usage card ∷ below) g = let h = tables_lawful (Segment name label renamed usage card ∷ above) below g.1 in record { each = h.each; distinct = h.distinct; apart = h.apart }
tables_lawful above (Field number usage card leaf ∷ below) g = let h = tables_lawful (Field number usage card leaf ∷ above) below g.1 in record { each = h.each; distinct = h.distinct; apart = h.apart }
tables_lawful above (Comp number usage leaf ∷ below) g = let h = tables_lawful (Comp number usage leaf ∷ above) below g.1 in record { each = h.each; distinct = h.distinct; apart = h.apart }
tables_lawful above (Sub number usage leaf ∷ below) g = let h = tables_lawful (Sub number usage leaf ∷ above) below g.1 in record { each = h.each; distinct = h.distinct; apart = h.apart }
tables_lawful above (Group at label usage card ∷ below) g = let h = tables_lawful (Group at label usage card ∷ above) below g.1 in record { each = h.each; distinct = h.distinct; apart = h.apart }
tables_lawful above (End ∷ below) g = let h = tables_lawful (End ∷ above) below g.1 in record { each = h.each; distinct = h.distinct; apart = h.apart }

-- ---- determined

left_out : (min : ℕ) (max : Option ℕ) → min ≡ 0 → AtMost max 1 → AtMost max min
left_out min None e h = tt
left_out min (Some m) e h = omega arith

least_allowed : (usage : usages.Usage) (card : Card) → Agrees usage card → AtMost card.max card.min
least_allowed R card h = h.1
least_allowed RE card h = left_out card.min card.max h.0 h.1
least_allowed O card h = left_out card.min card.max h.0 h.1
least_allowed X card h = subst (λ most. AtMost most card.min) (sym h.1) (omega (arith, h.0))

pub determined_is : (names : List (List ℕ)) (f : Forest) (A : Name → Type 0) → EachSegment (LawfulSegment names) f → EachGroup LawfulGroup f → EachGroup Demanding f → Deterministic f A → Determined f A
determined_is names nothing A s g d h = tt
determined_is names (segment v rest) A s g d h = (least_allowed v.usage v.card s.0.agrees, h.0, determined_is names rest A s.1 g d h.1)
determined_is names (group v inner rest) A s g d h =
    (least_allowed v.usage v.card g.0.agrees, d.0, h.0, determined_is names inner _ s.0 g.1 d.1 h.1, determined_is names rest A s.1 g.2 d.2 h.2)

-- ---- all of it

pub turned : (all below : List Line) → AllTaken grammar all → Goes all below → Goes [] (reverse_aux all below)
turned [] below t g = g
turned (line ∷ above) below t g = turned above (line ∷ below) t.1 (taken_keeps above line t.0, g)

-- lines that were taken, the last first, and that keep the rules of the whole
pub well_formed : (all : List Line) → AllTaken grammar all → empty_group (reverse all) ≡ None → is_headed (reverse all) ≡ true → ambiguous (nodes (reverse all)).here [] ≡ None → WellFormed (profile (reverse all))
well_formed all t empty head clear =
    let g : Goes [] (reverse all) = turned all [] t tt in
    let tables = tables_lawful [] (reverse all) g in
    let levels = levels_lawful (table_names (Value.tables (reverse all))) [] (reverse all) refl g (omega arith) in
    record {
      named = named_is (reverse all) g head;
      tables = tables.each;
      tables_distinct = tables.distinct;
      headed = headed_is [] (reverse all) g head;
      segments = levels.here.segments;
      groups = levels.here.groups;
      distinct = levels.here.distinct;
      nested = omega (arith, levels.here.nested);
      determined = determined_is _ (nodes (reverse all)).here NoName levels.here.segments levels.here.groups (filled_is (reverse all) empty).0 ((not_ambiguous_is (nodes (reverse all)).here).0 clear);
    }

-- ---- from the text

ruled_is : (all : List Line) (p : ProfileValue) → AllTaken grammar all → ruled (reverse all) ≡ Ok p → WellFormed p
ruled_is all p t e =
    by (empty_group (reverse all)) refl (is_headed (reverse all)) refl (ambiguous (nodes (reverse all)).here []) refl e
  where
    by : (o : Option ℕ) → empty_group (reverse all) ≡ o → (b : Bool) → is_headed (reverse all) ≡ b → (a : Option Name) → ambiguous (nodes (reverse all)).here [] ≡ a
        → filled o b (profile (reverse all)) ≡ Ok p → WellFormed p
    by (Some at) f b g a h e = absurd (cc)
    by None f false g a h e = absurd (cc)
    by None f true g a h e = last a h (subst (λ o. unambiguous o (profile (reverse all)) ≡ Ok p) h e)
      where
        last : (a : Option Name) → ambiguous (nodes (reverse all)).here [] ≡ a → unambiguous a (profile (reverse all)) ≡ Ok p → WellFormed p
        last None h e = let same : profile (reverse all) ≡ p = cc in subst WellFormed same (well_formed all t f g h)
        last (Some name) h e = absurd (cc)

pub whole_is : (all : List Line) (at : ℕ) (p : ProfileValue) → AllTaken grammar all → whole all at ≡ Ok p → WellFormed p
whole_is all at p t e = by (is_unclosed all) refl e
  where
    by : (b : Bool) → is_unclosed all ≡ b → (if b then Err (Syntax at) else ruled (reverse all)) ≡ Ok p → WellFormed p
    by true f e = absurd (cc)
    by false f e = ruled_is all p t e

pub spelled_is : (text : List ℕ) (p : ProfileValue) → spelled text ≡ Ok p → WellFormed p
spelled_is text p e =
    let a = spelled_accepts takes Syntax whole most_bytes most_lines TooLarge text p e in
    whole_is a.all (1 + length (lines text)) p (accepted_taken grammar Syntax 1 (lines text) a.all a.accepts) a.value
