-- The nodes that lines spell are lawful, where each line keeps what it must.
use Rattle.std.proofs.Common.{◌≡◌, ℕ, suc, ◌+◌, ◌<◌, ◌≤◌, inl, inr, Bool, false, List, [], ◌∷◌, ◌++◌, length, Option, refl, subst, arith}
use Rattle.std.specs.Prelude.{unwrap_or}
use Rattle.gw_profile.specs.declared.shape.Usage.{Usage}
use Rattle.gw_profile.specs.declared.shape.Usage.TheVariants.{O}
use Rattle.gw_profile.specs.declared.shape.Card.{Card}
use Rattle.gw_profile.specs.Among.{Among, Distinct}
use Rattle.gw_profile.specs.Shapes.{SegmentValue, GroupValue, Forest, nothing, segment, group}
use Rattle.gw_profile.specs.Line.{Line, Begins, Table, Segment, Field, Comp, Sub, Group, End, Counts, is_forbidden}
use Rattle.gw_profile.specs.Fault.{Levels, levels, outside, least_field}
use Rattle.gw_profile.specs.Value.{Nodes, nodes, parts, next, past}
use Rattle.gw_profile.specs.WellFormed.{LawfulField, LawfulSegment, LawfulGroup, EachSegment, EachGroup, labels, depth}
use Rattle.gw_profile.proofs.Among.{among_append}
use Rattle.gw_profile.proofs.Parts.{Goes, AreNames, next_names, agrees_is, forbidden_is, all_below, field_number, parts_lawful}

-- a list of nodes in so many groups, behind siblings with these labels
pub record LawfulLevel (names : List (List ℕ)) (outer : ℕ) (before : List (List ℕ)) (f : Forest) : Type 0 where
  pub segments : EachSegment (LawfulSegment names) f
  pub groups : EachGroup LawfulGroup f
  pub distinct : Distinct (labels f)
  pub apart : (x : List ℕ) → Among x (labels f) → Among x before → ⊥
  pub nested : depth f + outer ≤ 8

-- what stands behind the ends of the open groups
abbrev pub LawfulBehind : List (List ℕ) → List (List (List ℕ)) → List Forest → Type 0
LawfulBehind names [] [] = Unit {0}
LawfulBehind names [] (f ∷ behind) = ⊥
LawfulBehind names (before ∷ outer) [] = Unit {0}
LawfulBehind names (before ∷ outer) (f ∷ behind) = LawfulLevel names (length outer) before f × LawfulBehind names outer behind

pub record LawfulLevels (names : List (List ℕ)) (l : Levels) (n : Nodes) : Type 0 where
  pub here : LawfulLevel names (length l.outer) l.labels n.here
  pub behind : LawfulBehind names l.outer n.behind

none_behind : (names : List (List ℕ)) (outer : List (List (List ℕ))) → LawfulBehind names outer []
none_behind names [] = tt
none_behind names (before ∷ outer) = tt

module _ (names : List (List ℕ)) (outer : ℕ) (before : List (List ℕ)) where
  no_nodes : outer ≤ 8 → LawfulLevel names outer before nothing
  no_nodes l = record { segments = tt; groups = tt; distinct = tt; apart = λ x h k. h; nested = omega arith }

  segment_level : (s : SegmentValue) (f : Forest) → LawfulSegment names s → (Among s.label before → ⊥) → LawfulLevel names outer (before ++ s.label ∷ []) f → LawfulLevel names outer before (segment s f)
  segment_level s f lawful new h =
      record {
        segments = (lawful, h.segments);
        groups = h.groups;
        distinct = (λ a. h.apart s.label a ((among_append before (s.label ∷ []) s.label).1 (inr (inl refl))), h.distinct);
        apart = λ x. elim [
          | inl e ↦ (λ k. new (subst (λ y. Among y before) e k))
          | inr a ↦ (λ k. h.apart x a ((among_append before (s.label ∷ []) x).1 (inl k)))
        ];
        nested = h.nested;
      }

  group_level : (g : GroupValue) (inner rest : Forest) → LawfulGroup g inner → (Among g.label before → ⊥) → LawfulLevel names (suc outer) [] inner → LawfulLevel names outer (before ++ g.label ∷ []) rest → LawfulLevel names outer before (group g inner rest)
  group_level g inner rest lawful new i h =
      record {
        segments = (i.segments, h.segments);
        groups = (lawful, i.groups, h.groups);
        distinct = (λ a. h.apart g.label a ((among_append before (g.label ∷ []) g.label).1 (inr (inl refl))), h.distinct);
        apart = λ x. elim [
          | inl e ↦ (λ k. new (subst (λ y. Among y before) e k))
          | inr a ↦ (λ k. h.apart x a ((among_append before (g.label ∷ []) x).1 (inl k)))
        ];
        nested = omega (arith, h.nested, i.nested);
      }

-- a group, with what stood behind its end
group_levels : (names : List (List ℕ)) (outer : List (List (List ℕ))) (before : List (List ℕ)) (g : GroupValue) (inner : Forest) (behind : List Forest) → length outer ≤ 8 → LawfulGroup g inner → (Among g.label before → ⊥)
    → LawfulLevel names (suc (length outer)) [] inner → LawfulBehind names ((before ++ g.label ∷ []) ∷ outer) behind
    → LawfulLevels names (record { labels = before; outer = outer }) (record { here = group g inner (next behind); behind = past behind })
group_levels names outer before g inner [] l lawful new i b =
    record { here = group_level names (length outer) before g inner nothing lawful new i (no_nodes names (length outer) (before ++ g.label ∷ []) l); behind = none_behind names outer }
group_levels names outer before g inner (f ∷ behind) l lawful new i b =
    record { here = group_level names (length outer) before g inner f lawful new i b.0; behind = b.1 }

-- the end of a group
end_levels : (names : List (List ℕ)) (outer : List (List (List ℕ))) (before : List (List ℕ)) (n : Nodes) → 0 < length outer → length outer ≤ 8 → LawfulLevels names (outside outer) n → LawfulLevels names (record { labels = before; outer = outer }) (record { here = nothing; behind = n.here ∷ n.behind })
end_levels names [] before n some l h = absurd (omega arith)
end_levels names (labels ∷ outer) before n some l h = record { here = no_nodes names (length (labels ∷ outer)) before l; behind = (h.here, h.behind) }

outside_fits : (outer : List (List (List ℕ))) → length outer ≤ 8 → length (outside outer).outer ≤ 8
outside_fits [] l = omega arith
outside_fits (labels ∷ outer) l = omega arith

segment_lawful : (names : List (List ℕ)) (above below : List Line) (name label : List ℕ) (renamed : Bool) (usage : Option Usage) (card : Card) → AreNames names above (Segment name label renamed usage card ∷ below) → Goes above (Segment name label renamed usage card ∷ below)
    → LawfulSegment names (record { name = name; label = label; usage = unwrap_or usage O; card = card; fields = (parts below).fields })
segment_lawful names above below name label renamed usage card e g =
    let i = parts_lawful names (Segment name label renamed usage card ∷ above) below (next_names names above (Segment name label renamed usage card) below e) g.1 in
    let b = all_below field_number (LawfulField names) 999 (is_forbidden usage) (least_field name) (parts below).fields i.fields in
    record {
      named = g.0.shaped.0;
      labelled = g.0.shaped.1;
      agrees = agrees_is usage card g.0.passes.1;
      counted = g.0.shaped.3;
      bare = λ e. b.bare (forbidden_is usage e);
      rising = b.rising;
      each = b.each;
    }

pub levels_lawful : (names : List (List ℕ)) (above below : List Line) → AreNames names above below → Goes above below → length (levels above).outer ≤ 8 → LawfulLevels names (levels above) (nodes below)
levels_lawful names above [] e g l = record { here = no_nodes names (length (levels above).outer) (levels above).labels l; behind = none_behind names (levels above).outer }
levels_lawful names above (Begins name ∷ below) e g l =
    let i = levels_lawful names (Begins name ∷ above) below (next_names names above (Begins name) below e) g.1 l in record { here = i.here; behind = i.behind }
levels_lawful names above (Counts ∷ below) e g l =
    let i = levels_lawful names (Counts ∷ above) below (next_names names above Counts below e) g.1 l in record { here = i.here; behind = i.behind }
levels_lawful names above (Table name values ∷ below) e g l =
    let i = levels_lawful names (Table name values ∷ above) below (next_names names above (Table name values) below e) g.1 l in record { here = i.here; behind = i.behind }
levels_lawful names above (Segment name label renamed usage card ∷ below) e g l =
    let i = levels_lawful names (Segment name label renamed usage card ∷ above) below (next_names names above (Segment name label renamed usage card) below e) g.1 l in
    record {
      here = segment_level names (length (levels above).outer) (levels above).labels _ (nodes below).here (segment_lawful names above below name label renamed usage card e g) g.0.passes.2 i.here;
      behind = i.behind;
    }
levels_lawful names above (Field number usage card leaf ∷ below) e g l =
    let i = levels_lawful names (Field number usage card leaf ∷ above) below (next_names names above (Field number usage card leaf) below e) g.1 l in record { here = i.here; behind = i.behind }
levels_lawful names above (Comp number usage leaf ∷ below) e g l =
    let i = levels_lawful names (Comp number usage leaf ∷ above) below (next_names names above (Comp number usage leaf) below e) g.1 l in record { here = i.here; behind = i.behind }
levels_lawful names above (Sub number usage leaf ∷ below) e g l =
    let i = levels_lawful names (Sub number usage leaf ∷ above) below (next_names names above (Sub number usage leaf) below e) g.1 l in record { here = i.here; behind = i.behind }
levels_lawful names above (Group at label usage card ∷ below) e g l =
    let i = levels_lawful names (Group at label usage card ∷ above) below (next_names names above (Group at label usage card) below e) g.1 (omega (arith, g.0.passes.4)) in
    group_levels names (levels above).outer (levels above).labels (record { label = label; usage = unwrap_or usage O; card = card }) (nodes below).here (nodes below).behind l
    (record {
      labelled = g.0.shaped.0;
      agrees = agrees_is usage card g.0.passes.1;
      counted = g.0.shaped.1;
      allowed = λ e. let f = forbidden_is usage e in let h : is_forbidden usage ≡ false = g.0.passes.2 in cc;
      distinct = i.here.distinct;
    })
    g.0.passes.3 i.here i.behind
levels_lawful names above (End ∷ below) e g l =
    end_levels names (levels above).outer (levels above).labels (nodes below) g.0.passes l
    (levels_lawful names (End ∷ above) below (next_names names above End below e) g.1 (outside_fits (levels above).outer l))
