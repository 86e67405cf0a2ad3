-- Where a walk over a profile stands, as what is left of its forest.
use Rattle.std.specs.Prelude.{◌≡◌, ℕ, zero, suc, List, [], ◌∷◌, Option, Some, None}
use denote.Ref.{Bor}
use Rattle.gw_profile.specs.declared.shape.Card.{Card}
use Rattle.gw_profile.specs.declared.node.Node.{Node, Seg, Group'}
use Rattle.gw_profile.specs.declared.shape.FieldShape.{FieldShape}
use Rattle.gw_profile.specs.Shapes.{Forest}
use Rattle.gw_profile.specs.Seen.{row_forest, forest, segment_value}
use Rattle.gw_validate.specs.declared.walk.Frame.{Frame}
use Rattle.gw_validate.specs.declared.walk.Step.{Step}
use Rattle.gw_validate.specs.declared.walk.Step.TheVariants.{Taken, Passed, Stuck}
use Rattle.gw_validate.specs.own.Residual.{append, after_name, seg, grp}
use Rattle.gw_validate.specs.own.Taking.{Takes, shape_of}
use Rattle.gw_profile.specs.Deterministic.{Name, Optional}

-- a node of which these occurrences are left
abbrev pub due_forest : Node → Card → Forest → Forest
due_forest (Seg s) due rest = seg (segment_value s) due.min due.max rest
due_forest (Group' label usage card shape nodes) due rest =
    grp (record { label = label.items; usage = usage; card = card }) due.min due.max (row_forest nodes) rest

abbrev pub frame_forest : Frame → Forest
frame_forest f = due_forest f.node.now f.due (forest f.rest.now)

-- the frames, the innermost last, with what stands behind them
abbrev pub stack_on : List Frame → Forest → Forest
stack_on [] behind = behind
stack_on (f ∷ fs) behind = stack_on fs (append (frame_forest f) behind)

-- the new stack stands for g, with the old stack behind it
abbrev pub Pushed : List Frame → List Frame → Forest → Type 0
Pushed old new g = (behind : Forest) → stack_on new behind ≡ append g (stack_on old behind)

-- one name, tried on a forest
abbrev pub Tries : Forest → Name → List Frame → List Frame → Step → Type 0
Tries f x old new (Taken fields) = (g : Forest) × (after_name f x ≡ Some g) × Pushed old new g × Takes f x (shape_of fields) g
Tries f x old new Passed = (after_name f x ≡ None) × Optional f × (new ≡ old)
Tries f x old new Stuck = (after_name f x ≡ None) × (Optional f → ⊥) × (new ≡ old)

-- what comes of a name that a node does not take, by how often the node is still demanded
abbrev pub left_out : ℕ → Step
left_out zero = Passed
left_out (suc n) = Stuck

-- one name, tried on the first node of a forest, with the others behind it
abbrev pub NodeTried : ℕ → Forest → Forest → Name → List Frame → List Frame → Step → Type 0
NodeTried min all others x old new (Taken fields) = (g : Forest) × (after_name all x ≡ Some g) × Pushed old new g × Takes all x (shape_of fields) g
NodeTried min all others x old new Passed = (min ≡ 0) × (after_name all x ≡ after_name others x) × (new ≡ old)
NodeTried min all others x old new Stuck = (min ≡ 0 → ⊥) × (after_name all x ≡ None) × (new ≡ old)

-- one name, tried on the frame's node
abbrev pub TriesNode : Frame → Name → List Frame → List Frame → Step → Type 0
TriesNode f x old new s = NodeTried f.due.min (frame_forest f) (forest f.rest.now) x old new s

-- goes on from f to g by a name, which a segment of these fields takes, or cannot
abbrev pub Advances : Forest → Name → Forest → Option (Bor (List FieldShape)) → Type 0
Advances f x g None = after_name f x ≡ None
Advances f x g (Some fields) = (after_name f x ≡ Some g) × Takes f x (shape_of fields) g
