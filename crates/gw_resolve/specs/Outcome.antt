-- What looking up the labels of a map gives.
use Rattle.std.specs.Prelude.{◌≡◌, ℕ, Bool, List, [], ◌++◌, length, map}
use Rattle.gw_profile.specs.Shapes.{Forest, ProfileValue}
use Rattle.gw_maplang.specs.Seen as raw
use Rattle.gw_maplang.specs.Shapes.{MapValue, TableValue, Items, nothing}
use Rattle.gw_maplang.specs.declared.item.Item.{Item as TheirItem}
use Rattle.gw_resolve.specs.declared.named.ResolvedMap.{ResolvedMap}
use Rattle.gw_resolve.specs.declared.named.Resolving as declared
use Rattle.gw_resolve.specs.declared.failure.Failure.{Failure}
use Rattle.gw_resolve.specs.declared.items.ResolvedItem.{ResolvedItem}
use Rattle.gw_resolve.specs.declared.lost.NameFailures.{NameFailures}
use Rattle.gw_resolve.specs.declared.resolved.Item.{Item}
use Rattle.gw_resolve.specs.Failures.{Failure as Told, where_so}
use Rattle.gw_resolve.specs.Places.{Element}
use Rattle.gw_resolve.specs.Naming as spec
use Rattle.gw_resolve.specs.Seen.{Notes, failures, with_item, all_items, left_out}

-- ---- parts, whatever the map's tables are

abbrev pub IsMadeOf : {A B C : Type 0} → (List TableValue → B → C) → (List TableValue → List Element → A → C) → List Element → A → B → Type 0
IsMadeOf seen spec scope from made = (tables : List TableValue) → seen tables made ≡ spec tables scope from

abbrev pub AreMadeOf : {A B C : Type 0} → (List TableValue → B → C) → (List TableValue → List Element → A → C) → List Element → List A → List B → Type 0
AreMadeOf seen spec scope from made = (tables : List TableValue) → map (seen tables) made ≡ map (spec tables scope) from

-- an item of a level with these target nodes, before any others
abbrev pub MakesItem : List Element → Forest → TheirItem → Item → Type 0
MakesItem scope nodes from made =
    (tables : List TableValue) (rest : Items)
    → with_item tables made (spec.resolved_items tables scope nodes rest) ≡ spec.resolved_items tables scope nodes (raw.with_item from rest)

abbrev pub MakesItems : List Element → Forest → List TheirItem → List Item → Type 0
MakesItems scope nodes from made = (tables : List TableValue) → all_items tables made ≡ spec.resolved_items tables scope nodes (raw.all_items from)

-- ---- failures

-- those of an item's own
abbrev pub path_failures : List Element → TheirItem → List Told
path_failures scope from = spec.path_failures scope (raw.with_item from nothing)

-- behind an item of node j
abbrev pub target_failures : Forest → ℕ → TheirItem → List Told
target_failures nodes j from = spec.target_failures nodes j (raw.with_item from nothing)

-- the number of the node of an item, j where it has none or one before that
abbrev pub reached : Forest → ℕ → TheirItem → ℕ
reached nodes j from = spec.after j nodes (spec.first_or (spec.labels (raw.with_item from nothing)))

-- an item of a level, behind one of node j: what is made of it, its node, and its failures
pub record ResolvesItem (scope : List Element) (nodes : Forest) (j : ℕ) (from : TheirItem) (old new : NameFailures) (made : ResolvedItem) : Type 0 where
  pub item : MakesItem scope nodes from made.item
  pub node : made.node ≡ reached nodes j from
  pub paths : Notes old.paths new.paths (path_failures scope from)
  pub targets : Notes old.targets new.targets (target_failures nodes j from)

-- those behind the first ones are taken back, unless they are shown
abbrev pub Hides : List Failure → List Failure → Bool → ℕ → Type 0
Hides old new shown kept = (own later : List Told) → length own ≡ kept → failures old ≡ own ++ later → failures new ≡ own ++ where_so shown later

-- ---- the whole

-- no rule on labels fails, and this is the map without them
pub record IsNamed (from to : ProfileValue) (m : MapValue) (made : ResolvedMap) : Type 0 where
  pub none : spec.naming_failures from to m ≡ []
  pub items : all_items m.tables made.items.items ≡ (spec.resolved from to m).items
  pub drops : map left_out made.drops.items ≡ (spec.resolved from to m).drops

-- some rule on labels fails, and these are the failures
pub record IsLost (from to : ProfileValue) (m : MapValue) (found : List Failure) : Type 0 where
  pub all : failures found ≡ spec.naming_failures from to m
  pub some : found ≡ [] → ⊥

-- the map without labels, or the failures of the rules on them
abbrev pub Resolves : ProfileValue → ProfileValue → MapValue → declared.Resolving → Type 0
Resolves from to m (declared.TheVariants.Refused found) = IsLost from to m found.items
Resolves from to m (declared.TheVariants.Resolved made) = IsNamed from to m made
