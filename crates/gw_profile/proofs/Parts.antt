-- The fields, components and subcomponents that lines spell are lawful, where each line keeps what it must.
use Rattle.std.proofs.Common.{◌≡◌, ℕ, zero, suc, ◌≤◌, inl, Bool, true, false, List, [], ◌∷◌, ◌++◌, Option, Some, None, refl, sym, ◌∙◌, subst, arith, append_assoc}
use Rattle.std.specs.Prelude.{◌||◌, map, max, unwrap_or, IfSome}
use Rattle.std.specs.List.{AllByRecursion}
use Rattle.gw_profile.specs.declared.shape.Usage.{Usage}
use Rattle.gw_profile.specs.declared.shape.Usage.TheVariants.{R, RE, O, X}
use Rattle.gw_profile.specs.declared.shape.Card.{Card}
use Rattle.gw_profile.specs.Among.{Among}
use Rattle.gw_profile.specs.Shapes.{SubValue, CompValue, FieldValue}
use Rattle.gw_profile.specs.Line.{Line, Leaf, Begins, Table, Segment, Field, Comp, Sub, Group, End, Counts, agrees, is_forbidden}
use Rattle.gw_profile.specs.Fault as Fault
use Rattle.gw_profile.specs.Fault.{Parent, parents, with_part, has_leaf}
use Rattle.gw_profile.specs.Value as Value
use Rattle.gw_profile.specs.Value.{Parts, parts, no_parts, leaf_sub, leaf_comp, subs_of, comps_of, sub_of}
use Rattle.gw_profile.specs.Deterministic.{AtMost}
use Rattle.gw_profile.specs.WellFormed.{Agrees, Counted, Rising, LawfulSub, LawfulComp, LawfulField, table_names}
use Rattle.gw_profile.proofs.Facts.{both, not_true, or_left}
use Rattle.gw_profile.proofs.Among.{among_append}
use Rattle.gw_profile.proofs.Ambiguity.{allows_is, zero_is}
use Rattle.gw_profile.proofs.Shaped.{LeafIs}
use Rattle.gw_profile.proofs.Passed.{LeafKnown, PartPasses, Keeps}

-- each line keeps what it must, below the lines above it
abbrev pub Goes : List Line → List Line → Type 0
Goes above [] = Unit {0}
Goes above (line ∷ below) = Keeps above line × Goes (line ∷ above) below

-- the tables of the whole text
abbrev pub AreNames : List (List ℕ) → List Line → List Line → Type 0
AreNames names above below = names ≡ Fault.tables above ++ table_names (Value.tables below)

pub knows : (names : List (List ℕ)) (above below : List Line) → AreNames names above below → (x : List ℕ) → Among x (Fault.tables above) → Among x names
knows names above below e x h = subst (Among x) (sym e) ((among_append (Fault.tables above) (table_names (Value.tables below)) x).1 (inl h))

pub next_names : (names : List (List ℕ)) (above : List Line) (line : Line) (below : List Line) → AreNames names above (line ∷ below) → AreNames names (line ∷ above) below
next_names names above (Begins name) below e = e
next_names names above (Table name values) below e = e ∙ sym (append_assoc (Fault.tables above) (name ∷ []) (table_names (Value.tables below)))
next_names names above (Segment name label renamed usage card) below e = e
next_names names above (Field number usage card leaf) below e = e
next_names names above (Comp number usage leaf) below e = e
next_names names above (Sub number usage leaf) below e = e
next_names names above (Group at label usage card) below e = e
next_names names above End below e = e
next_names names above Counts below e = e

-- ---- usage

not_allowed : (most : Option ℕ) → (AtMost most 1 → ⊥) → most ≡ Some 0
not_allowed None h = absurd (h tt)
not_allowed (Some m) h = zero_most m (λ k. h (omega (arith, k)))
  where
    zero_most : (m : ℕ) → (1 ≤ m → ⊥) → Some m ≡ Some 0
    zero_most zero h = refl
    zero_most (suc n) h = absurd (h (omega arith))

pub agrees_is : (usage : Option Usage) (card : Card) → agrees usage card ≡ true → Agrees (unwrap_or usage O) card
agrees_is None card e = absurd (cc)
agrees_is (Some R) card e = let p = both _ _ e in ((allows_is (Some card.min) 1).0 p.0, (allows_is card.max card.min).0 p.1)
agrees_is (Some RE) card e = let p = both _ _ e in ((zero_is card.min).0 p.0, (allows_is card.max 1).0 p.1)
agrees_is (Some O) card e = let p = both _ _ e in ((zero_is card.min).0 p.0, (allows_is card.max 1).0 p.1)
agrees_is (Some X) card e = let p = both _ _ e in ((zero_is card.min).0 p.0, not_allowed card.max (λ h. not_true _ p.1 ((allows_is card.max 1).1 h)))

pub forbidden_is : (usage : Option Usage) → unwrap_or usage O ≡ X → is_forbidden usage ≡ true
forbidden_is None e = absurd (cc)
forbidden_is (Some R) e = absurd (cc)
forbidden_is (Some RE) e = absurd (cc)
forbidden_is (Some O) e = absurd (cc)
forbidden_is (Some X) e = refl

-- ---- numbers that rise below a parent

rising_from : (low from high : ℕ) (numbers : List ℕ) → low ≤ from → Rising from high numbers → Rising low high numbers
rising_from low from high [] l h = tt
rising_from low from high (n ∷ numbers) l h = (omega (arith, h.0), h.1, h.2)

module _ {A : Type 0} (number : A → ℕ) (Good : A → Type 0) (high : ℕ) where
  -- the parts that belong to a line above
  abbrev pub Under : Option Parent → List A → Type 0
  Under None xs = xs ≡ []
  Under (Some p) xs = (p.shut ≡ true → xs ≡ []) × Rising (max p.least (suc p.last)) high (map number xs) × AllByRecursion Good xs

  pub none_under : (p : Option Parent) → Under p []
  none_under None = refl
  none_under (Some p) = (λ e. refl, tt, tt)

  pub one_under : (names : List (List ℕ)) (leaf : Option Leaf) (p : Option Parent) (x : A) (xs : List A) → PartPasses (number x) leaf p names → number x ≤ high → Good x → Under (with_part (number x) p) xs → Under p (x ∷ xs)
  one_under names leaf None x xs h l g u = absurd h
  one_under names leaf (Some p) x xs h l g u =
      (λ e. absurd (cc), (omega (arith, h.1, h.2), l, rising_from (suc (number x)) (max p.least (suc (number x))) high (map number xs) (omega arith) u.1), (g, u.2))

  pub record Below (shut : Bool) (least : ℕ) (xs : List A) : Type 0 where
    pub bare : shut ≡ true → xs ≡ []
    pub rising : Rising least high (map number xs)
    pub each : AllByRecursion Good xs

  pub all_below : (shut : Bool) (least : ℕ) (xs : List A) → Under (Some (record { shut = shut; least = least; last = 0 })) xs → Below shut least xs
  all_below shut least xs u = record { bare = u.0; rising = rising_from least (max least 1) high (map number xs) (omega arith) u.1; each = u.2 }

abbrev pub sub_number : SubValue → ℕ
sub_number s = s.number

abbrev pub comp_number : CompValue → ℕ
comp_number c = c.number

abbrev pub field_number : FieldValue → ℕ
field_number f = f.number

-- ---- parts

pub record LawfulParts (names : List (List ℕ)) (p : Fault.Parents) (q : Parts) : Type 0 where
  pub fields : Under field_number (LawfulField names) 999 p.segment q.fields
  pub comps : Under comp_number (LawfulComp names) 99 p.field q.comps
  pub subs : Under sub_number (LawfulSub names) 99 p.comp q.subs

no_parts_lawful : (names : List (List ℕ)) (p : Fault.Parents) → LawfulParts names p no_parts
no_parts_lawful names p = record { fields = none_under _ _ 999 p.segment; comps = none_under _ _ 99 p.field; subs = none_under _ _ 99 p.comp }

abbrev Included : List (List ℕ) → List (List ℕ) → Type 0
Included xs ys = (x : List ℕ) → Among x xs → Among x ys

leaf_known : (near names : List (List ℕ)) → Included near names → (table : Option (List ℕ)) → IfSome table (λ name. Among name near) → IfSome table (λ name. Among name names)
leaf_known near names i None h = tt
leaf_known near names i (Some name) h = i name h

module _ (near names : List (List ℕ)) (included : Included near names) where
  leaf_sub_lawful : (usage : Option Usage) (leaf : Leaf) → LeafIs usage (Some leaf) → LeafKnown (Some leaf) near → LawfulSub names (leaf_sub leaf)
  leaf_sub_lawful usage leaf is known = record { bare = λ e. absurd (cc); measured = is.1; known = leaf_known near names included leaf.table known }

  leaf_comp_lawful : (usage : Option Usage) (leaf : Leaf) → LeafIs usage (Some leaf) → LeafKnown (Some leaf) near → LawfulComp names (leaf_comp leaf)
  leaf_comp_lawful usage leaf is known =
      record { bare = λ e. absurd (cc); rising = (omega arith, omega arith, tt); each = (leaf_sub_lawful usage leaf is known, tt) }

  sub_lawful : (number : ℕ) (usage : Option Usage) (leaf : Option Leaf) → LeafIs usage leaf → LeafKnown leaf near → LawfulSub names (sub_of number usage leaf)
  sub_lawful number usage None is known = record { bare = λ e. (refl, refl); measured = tt; known = tt }
  sub_lawful number usage (Some leaf) is known =
      record { bare = λ e. let f = forbidden_is usage e in let g : is_forbidden usage ≡ false = is.0 in absurd (cc); measured = is.1; known = leaf_known near names included leaf.table known }

  comp_lawful : (number : ℕ) (usage : Option Usage) (leaf : Option Leaf) (subs : List SubValue) → LeafIs usage leaf → LeafKnown leaf near
      → Below sub_number (LawfulSub names) 99 (is_forbidden usage || has_leaf leaf) 1 subs
      → LawfulComp names (record { number = number; usage = unwrap_or usage O; subs = subs_of leaf subs })
  comp_lawful number usage None subs is known b =
      record { bare = λ e. b.bare (or_left _ _ (forbidden_is usage e)); rising = b.rising; each = b.each }
  comp_lawful number usage (Some leaf) subs is known b =
      record {
        bare = λ e. let f = forbidden_is usage e in let g : is_forbidden usage ≡ false = is.0 in absurd (cc);
        rising = (omega arith, omega arith, tt);
        each = (leaf_sub_lawful usage leaf is known, tt);
      }

  field_lawful : (number : ℕ) (usage : Option Usage) (card : Card) (leaf : Option Leaf) (comps : List CompValue) → LeafIs usage leaf → LeafKnown leaf near → agrees usage card ≡ true → Counted card
      → Below comp_number (LawfulComp names) 99 (is_forbidden usage || has_leaf leaf) 1 comps
      → LawfulField names (record { number = number; usage = unwrap_or usage O; card = card; comps = comps_of leaf comps })
  field_lawful number usage card None comps is known a c b =
      record { agrees = agrees_is usage card a; counted = c; bare = λ e. b.bare (or_left _ _ (forbidden_is usage e)); rising = b.rising; each = b.each }
  field_lawful number usage card (Some leaf) comps is known a c b =
      record {
        agrees = agrees_is usage card a;
        counted = c;
        bare = λ e. let f = forbidden_is usage e in let g : is_forbidden usage ≡ false = is.0 in absurd (cc);
        rising = (omega arith, omega arith, tt);
        each = (leaf_comp_lawful usage leaf is known, tt);
      }

known_of : (number : ℕ) (leaf : Option Leaf) (p : Option Parent) (near : List (List ℕ)) → PartPasses number leaf p near → LeafKnown leaf near
known_of number leaf None near h = absurd h
known_of number leaf (Some p) near h = h.3

pub parts_lawful : (names : List (List ℕ)) (above below : List Line) → AreNames names above below → Goes above below → LawfulParts names (parents above) (parts below)
parts_lawful names above [] e g = no_parts_lawful names (parents above)
parts_lawful names above (Begins name ∷ below) e g = no_parts_lawful names (parents above)
parts_lawful names above (Table name values ∷ below) e g = no_parts_lawful names (parents above)
parts_lawful names above (Counts ∷ below) e g = no_parts_lawful names (parents above)
parts_lawful names above (Segment name label renamed usage card ∷ below) e g = no_parts_lawful names (parents above)
parts_lawful names above (Field number usage card leaf ∷ below) e g =
    let i = parts_lawful names (Field number usage card leaf ∷ above) below (next_names names above (Field number usage card leaf) below e) g.1 in
    record {
      fields =
          one_under field_number (LawfulField names) 999 (Fault.tables above) leaf (parents above).segment _ (parts below).fields g.0.passes.0 g.0.shaped.0.1
          (field_lawful (Fault.tables above) names (knows names above (Field number usage card leaf ∷ below) e) number usage card leaf (parts below).comps g.0.shaped.2 (known_of number leaf (parents above).segment _ g.0.passes.0) g.0.passes.1 g.0.shaped.1
          (all_below comp_number (LawfulComp names) 99 (is_forbidden usage || has_leaf leaf) 1 (parts below).comps i.comps))
          i.fields;
      comps = none_under _ _ 99 (parents above).field;
      subs = none_under _ _ 99 (parents above).comp;
    }
parts_lawful names above (Comp number usage leaf ∷ below) e g =
    let i = parts_lawful names (Comp number usage leaf ∷ above) below (next_names names above (Comp number usage leaf) below e) g.1 in
    record {
      fields = i.fields;
      comps =
          one_under comp_number (LawfulComp names) 99 (Fault.tables above) leaf (parents above).field _ (parts below).comps g.0.passes.0 g.0.shaped.0.1
          (comp_lawful (Fault.tables above) names (knows names above (Comp number usage leaf ∷ below) e) number usage leaf (parts below).subs g.0.shaped.1 (known_of number leaf (parents above).field _ g.0.passes.0)
          (all_below sub_number (LawfulSub names) 99 (is_forbidden usage || has_leaf leaf) 1 (parts below).subs i.subs))
          i.comps;
      subs = none_under _ _ 99 (parents above).comp;
    }
parts_lawful names above (Sub number usage leaf ∷ below) e g =
    let i = parts_lawful names (Sub number usage leaf ∷ above) below (next_names names above (Sub number usage leaf) below e) g.1 in
    record {
      fields = i.fields;
      comps = i.comps;
      subs =
          one_under sub_number (LawfulSub names) 99 (Fault.tables above) leaf (parents above).comp (sub_of number usage leaf) (parts below).subs (renumbered leaf g.0.passes.0) (bounded leaf g.0.shaped.0.1)
          (sub_lawful (Fault.tables above) names (knows names above (Sub number usage leaf ∷ below) e) number usage leaf g.0.shaped.1 (known_of number leaf (parents above).comp _ g.0.passes.0))
          (passed_on leaf i.subs);
    }
  where
    same : (leaf : Option Leaf) → number ≡ (sub_of number usage leaf).number
    same None = refl
    same (Some leaf) = refl

    renumbered : (l : Option Leaf) → PartPasses number leaf (parents above).comp (Fault.tables above) → PartPasses (sub_of number usage l).number leaf (parents above).comp (Fault.tables above)
    renumbered l h = subst (λ n. PartPasses n leaf (parents above).comp (Fault.tables above)) (same l) h

    bounded : (l : Option Leaf) → number ≤ 99 → (sub_of number usage l).number ≤ 99
    bounded l h = subst (λ n. n ≤ 99) (same l) h

    passed_on : (l : Option Leaf) → Under sub_number (LawfulSub names) 99 (with_part number (parents above).comp) (parts below).subs → Under sub_number (LawfulSub names) 99 (with_part (sub_of number usage l).number (parents above).comp) (parts below).subs
    passed_on l h = subst (λ n. Under sub_number (LawfulSub names) 99 (with_part n (parents above).comp) (parts below).subs) (same l) h
parts_lawful names above (Group at label usage card ∷ below) e g = no_parts_lawful names (parents above)
parts_lawful names above (End ∷ below) e g = no_parts_lawful names (parents above)
