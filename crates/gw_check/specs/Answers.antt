-- What `check` answers.
use Rattle.std.specs.Prelude.{◌≡◌, List, [], map, Some, option_map}
use Rattle.gw_profile.specs.Shapes.{ProfileValue}
use Rattle.gw_profile.specs.WellFormed.{WellFormed}
use Rattle.gw_maplang.specs.Shapes.{MapValue}
use Rattle.gw_maplang.specs.Seen.{Contents}
use Rattle.gw_check.specs.declared.accounted.FieldAt.{FieldAt}
use Rattle.gw_check.specs.declared.rules.Examined.{Examined}
use Rattle.gw_check.specs.declared.site.Site as declared
use Rattle.gw_check.specs.Seen.{all_sites}
use Rattle.gw_check.specs.Sites.{sites}
use Rattle.gw_check.specs.declared.rules.CheckFault as faults
use Rattle.gw_check.specs.declared.rules.Refusal as refusals
use Rattle.gw_resolve.specs.declared.failure.Failure.{Failure}
use Rattle.gw_resolve.specs.declared.resolved.Item.{Item}
use Rattle.gw_resolve.specs.declared.resolved.LeftOut.{LeftOut}
use Rattle.gw_resolve.specs.Resolved.{Resolved}
use Rattle.gw_resolve.specs.Naming.{naming_failures, resolved}
use Rattle.gw_check.specs.Checked.{all_failures, unread, least, broken}
use Rattle.gw_check.specs.Collected.{fields_at}
use Rattle.gw_resolve.specs.Seen.{failure, failures, all_items, left_out}

-- a map without labels, as the program holds it
abbrev pub unlabelled : MapValue → List Item → List LeftOut → Resolved
unlabelled m is drops = record { line = m.line; items = all_items m.tables is; drops = map left_out drops }

-- the profiles are well formed, and these are the items of the map without labels
pub record IsUnlabelled (from to : ProfileValue) (m : MapValue) (is : List Item) : Type 0 where
  pub source : WellFormed from
  pub target : WellFormed to
  pub items : all_items m.tables is ≡ (resolved from to m).items

-- these are what the lines of the map make, and of what, where that is known
abbrev pub AreMade : ProfileValue → ProfileValue → MapValue → List declared.Site → Type 0
AreMade from to m made = naming_failures from to m ≡ [] → all_sites m.tables made ≡ sites (resolved from to m).items

-- where there is no failure
abbrev pub UnlabelledIfAllowed : ProfileValue → ProfileValue → MapValue → Examined → Type 0
UnlabelledIfAllowed from to m e = e.findings.found.items ≡ [] → IsUnlabelled from to m e.items.items

-- some rule fails: the least failure, all of them, the fields of which rule 9 fails, and what each line makes
pub record IsBroken (from to : ProfileValue) (m : MapValue) (f : Failure) (found : List Failure) (fields : List FieldAt) (of_lines : List declared.Site) : Type 0 where
  pub least : Some (failure f) ≡ least (all_failures from to m)
  pub all : failures found ≡ all_failures from to m
  pub unread : fields_at fields ≡ unread from to m
  pub made : AreMade from to m of_lines

-- all failures, or an allocation failure; the map is returned
abbrev pub IsTold : ProfileValue → ProfileValue → MapValue → Contents → refusals.Refusal → Type 0
IsTold from to m given (refusals.TheVariants.Memory back) = back ≡ given
IsTold from to m given (refusals.TheVariants.Rules first found used back) = IsBroken from to m first found.items used.unread.items used.sites.items × (back ≡ given)

-- the least failing rule at its least line, or an allocation failure; the map is returned
abbrev pub IsRefusal : ProfileValue → ProfileValue → MapValue → Contents → faults.CheckFault → Type 0
IsRefusal from to m given (faults.TheVariants.Memory back) = back ≡ given
IsRefusal from to m given (faults.TheVariants.Rule rule line back) =
    (Some (record { rule = rule; line = line }) ≡ option_map broken (least (all_failures from to m))) × (back ≡ given)
