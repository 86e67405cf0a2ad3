-- Determinism: the name of the next segment says to which node it belongs (this project's line forms, over the segment order of a message profile, HL7 v2.5.1 chapter 2, 2.12).
use Rattle.std.specs.Prelude.{◌≡◌, ℕ, suc, ◌≤◌, ◌<◌, ◌⊎◌, true, List, Option, Some, None}
use Rattle.gw_profile.specs.declared.shape.Card.{Card}
use Rattle.gw_profile.specs.Shapes.{Forest, nothing, segment, group}
use Rattle.gw_profile.specs.LookAhead.{is_before}

-- the three bytes of a segment's name
abbrev pub Name : Type 0
Name = List ℕ

-- a greatest number, or none, allows this many
abbrev pub AtMost : Option ℕ → ℕ → Type 0
AtMost None count = Unit {0}
AtMost (Some most) count = count ≤ most

-- it allows more than this many
abbrev pub Below : ℕ → Option ℕ → Type 0
Below count most = AtMost most (suc count)

-- ---- First and After

-- The names that can begin a list of nodes: those of each node up to and with the first of min at least 1, but for nodes with max 0.
-- First of a group is that of the list of its children.
abbrev pub First : Forest → Name → Type 0
First nothing x = ⊥
First (segment s rest) x = (Below 0 s.card.max × (x ≡ s.name)) ⊎ ((s.card.min ≡ 0) × First rest x)
First (group g nodes rest) x = (Below 0 g.card.max × First nodes x) ⊎ ((g.card.min ≡ 0) × First rest x)

-- no node has a min of at least 1
abbrev pub Optional : Forest → Type 0
Optional nothing = Unit {0}
Optional (segment s rest) = (s.card.min ≡ 0) × Optional rest
Optional (group g nodes rest) = (g.card.min ≡ 0) × Optional rest

-- some node has a min of at least 1
abbrev pub Demands : Forest → Type 0
Demands nothing = ⊥
Demands (segment s rest) = (0 < s.card.min) ⊎ Demands rest
Demands (group g nodes rest) = (0 < g.card.min) ⊎ Demands rest

-- After of a node with these later siblings, where `after` can come behind them: First of them, and `after` where none of them has a min of at least 1
abbrev pub Follows : Forest → (Name → Type 0) → Name → Type 0
Follows rest after x = First rest x ⊎ (Optional rest × after x)

-- what can come behind the children of a group: what can come after the group, and First of the group where its max is above 1
abbrev pub BehindChildren : Card → Forest → (Name → Type 0) → Name → Type 0
BehindChildren card nodes after x = after x ⊎ (Below 1 card.max × First nodes x)

-- at the top nothing comes behind
abbrev pub NoName : Name → Type 0
NoName x = ⊥

-- ---- Deterministic profiles

-- First and After are disjoint, where min is below max
abbrev pub Apart : ℕ → Option ℕ → (Name → Type 0) → (Name → Type 0) → Type 0
Apart min max first after = (x : Name) → Below min max → first x → after x → ⊥

-- First and After of each node are disjoint, where `after` can come behind these nodes
abbrev pub Deterministic : Forest → (Name → Type 0) → Type 0
Deterministic nothing after = Unit {0}
Deterministic (segment s rest) after =
    Apart s.card.min s.card.max (λ x. x ≡ s.name) (Follows rest after) × Deterministic rest after
Deterministic (group g nodes rest) after =
    Apart g.card.min g.card.max (First nodes) (Follows rest after)
    × Deterministic nodes (BehindChildren g.card nodes (Follows rest after)) × Deterministic rest after

-- the least in byte order of the names that First and After of one node share
pub record LeastShared (min : ℕ) (max : Option ℕ) (first after : Name → Type 0) (x : Name) : Type 0 where
  pub open_number : Below min max
  pub begins : first x
  pub follows : after x
  pub least : (y : Name) → first y → after y → is_before x y ≡ true

-- x is the least shared name of the first node, in the order of the text, whose First and After share one
abbrev pub FirstShared : Forest → (Name → Type 0) → Name → Type 0
FirstShared nothing after x = ⊥
FirstShared (segment s rest) after x =
    LeastShared s.card.min s.card.max (λ y. y ≡ s.name) (Follows rest after) x
    ⊎ (Apart s.card.min s.card.max (λ y. y ≡ s.name) (Follows rest after) × FirstShared rest after x)
FirstShared (group g nodes rest) after x =
    LeastShared g.card.min g.card.max (First nodes) (Follows rest after) x
    ⊎ (Apart g.card.min g.card.max (First nodes) (Follows rest after)
    × (FirstShared nodes (BehindChildren g.card nodes (Follows rest after)) x
    ⊎ (Deterministic nodes (BehindChildren g.card nodes (Follows rest after)) × FirstShared rest after x)))

-- ---- what the cutting of a list of names rests on

-- Cardinalities have min at most max, each group has a child of min at least 1, and First and After of each node are disjoint.
abbrev pub Determined : Forest → (Name → Type 0) → Type 0
Determined nothing after = Unit {0}
Determined (segment s rest) after =
    AtMost s.card.max s.card.min × Apart s.card.min s.card.max (λ x. x ≡ s.name) (Follows rest after) × Determined rest after
Determined (group g nodes rest) after =
    AtMost g.card.max g.card.min × Demands nodes × Apart g.card.min g.card.max (First nodes) (Follows rest after)
    × Determined nodes (BehindChildren g.card nodes (Follows rest after)) × Determined rest after
