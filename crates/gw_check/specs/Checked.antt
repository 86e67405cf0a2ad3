-- What the checker answers.
use Rattle.std.specs.Prelude.{ℕ, Bool, ◌==◌, ◌&&◌, ◌||◌, nat_lt, if◌then◌else◌, List, [], ◌∷◌, Option, Some, None}
use Rattle.gw_profile.specs.Shapes.{ProfileValue}
use Rattle.gw_maplang.specs.Shapes.{MapValue}
use Rattle.gw_resolve.specs.Failures.{Failure, or_later}
use Rattle.gw_resolve.specs.Naming.{naming_failures, resolved}
use Rattle.gw_check.specs.Reads.{SourceField, passed_over}
use Rattle.gw_check.specs.Typed.{failures}

-- the rules from the fourth on are looked at only where 1 to 3 hold
abbrev pub all_failures : ProfileValue → ProfileValue → MapValue → List Failure
all_failures source target map = or_later (naming_failures source target map) (failures source target (resolved source target map))

abbrev none_if : List Failure → List SourceField → List SourceField
none_if [] fields = fields
none_if (f ∷ failures) fields = []

-- the source fields of which rule 9 fails; none where labels can't be looked up
abbrev pub unread : ProfileValue → ProfileValue → MapValue → List SourceField
unread source target map =
    none_if (naming_failures source target map) (passed_over (resolved source target map).items (resolved source target map).drops source.nodes)

-- by rule, then by line
abbrev pub is_before : Failure → Failure → Bool
is_before a b = nat_lt a.rule b.rule || (a.rule == b.rule && nat_lt a.mark.line b.mark.line)

abbrev pub lesser : Failure → Option Failure → Failure
lesser a None = a
lesser a (Some b) = if is_before b a then b else a

-- the least failing rule, at its least line
abbrev pub least : List Failure → Option Failure
least [] = None
least (f ∷ fs) = Some (lesser f (least fs))

-- the rule, and the line at which it fails
pub record Broken : Type 0 where
  pub rule : ℕ
  pub line : ℕ

abbrev pub broken : Failure → Broken
broken f = record { rule = f.rule; line = f.mark.line }
