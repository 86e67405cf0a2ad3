-- Worked profiles and maps.
use Rattle.std.specs.Prelude.{ℕ, ◌+◌, false, List, [], ◌∷◌, Option, Some, None, codes}
use Rattle.gw_profile.specs.declared.shape.Usage.{Usage}
use Rattle.gw_profile.specs.declared.shape.Usage.TheVariants.{R, RE, O}
use Rattle.gw_profile.specs.declared.shape.Card.{Card}
use Rattle.gw_profile.specs.declared.shape.Count.{Count}
use Rattle.gw_profile.specs.declared.shape.Count.TheVariants.{Octets}
use Rattle.gw_profile.specs.Shapes.{FieldValue, Forest, nothing, segment, group, ProfileValue}
use Rattle.gw_profile.specs.Value.{leaf_comp}
use Rattle.gw_profile.specs.Worked as profiles
use Rattle.gw_maplang.specs.Identity.{walk_all}
use Rattle.gw_maplang.specs.declared.rule.LeafPlace.{LeafPlace}
use Rattle.gw_maplang.specs.Shapes as raw
use Rattle.gw_resolve.specs.Failures.{Mark, Failure, at_line}
use Rattle.gw_check.specs.Fields.{counted}

abbrev card : ℕ → ℕ → Card
card min max = record { min = min; max = Some max }

abbrev many : ℕ → Card
many min = record { min = min; max = None }

abbrev field : ℕ → Usage → Card → FieldValue
field number usage card = record { number = number; usage = usage; card = card; comps = [] }

-- a field of one leaf of one octet, with a table
abbrev coded : ℕ → Usage → Card → List ℕ → FieldValue
coded number usage card table = record { number = number; usage = usage; card = card; comps = leaf_comp (record { len = Some 1; table = Some table }) ∷ [] }

abbrev seg : List ℕ → Usage → Card → List FieldValue → Forest → Forest
seg name usage card fields rest = segment (record { name = name; label = name; usage = usage; card = card; fields = fields }) rest

abbrev grp : List ℕ → Card → Forest → Forest → Forest
grp label card nodes rest = group (record { label = label; usage = R; card = card }) nodes rest

abbrev msh : List FieldValue → Forest → Forest
msh fields rest = seg (codes "MSH") R (card 1 1) fields rest

-- patients, whose sex may be missing (P1) or not (P2)
abbrev patients : List ℕ → FieldValue → ProfileValue
patients name sex =
    record {
      name = name;
      count = Octets;
      tables = record { name = codes "SEX"; values = codes "M" ∷ codes "F" ∷ codes "U" ∷ [] } ∷ [];
      nodes =
          msh (field 10 R (card 1 1) ∷ [])
          (seg (codes "PID") R (card 1 1) (field 3 R (card 1 2) ∷ field 5 RE (card 0 1) ∷ sex ∷ [])
          (seg (codes "NK1") O (card 0 2) [] nothing));
    }

abbrev pub p1 : ProfileValue
p1 = patients (codes "P1") (coded 8 RE (card 0 1) (codes "SEX"))

abbrev pub p2 : ProfileValue
p2 = patients (codes "P2") (coded 8 R (card 1 1) (codes "SEX"))

-- any text of one octet as the sex
abbrev pub p3 : ProfileValue
p3 = patients (codes "P3") (record { number = 8; usage = R; card = card 1 1; comps = leaf_comp (record { len = Some 1; table = None }) ∷ [] })

-- the same sex by the codes of ISO 5218
abbrev pub t1 : ProfileValue
t1 =
    record {
      name = codes "T1";
      count = Octets;
      tables = record { name = codes "ISO"; values = codes "1" ∷ codes "2" ∷ codes "9" ∷ [] } ∷ [];
      nodes = msh (field 10 R (card 1 1) ∷ []) (seg (codes "PID") R (card 1 1) (coded 8 R (card 1 1) (codes "ISO") ∷ []) nothing);
    }

abbrev leaf_place : LeafPlace
leaf_place = record { comp = 1; sub = 1 }

abbrev from : List ℕ → ℕ → raw.FieldPath
from label number = record { path = label ∷ []; field = number; takes_first = false }

abbrev copies : ℕ → List ℕ → ℕ → raw.RuleValue
copies line label number = record { line = line; field = number; making = raw.Copies (from label number) }

abbrev item : ℕ → List ℕ → List ℕ → List raw.RuleValue → raw.Items → raw.Items
item line label source rules rest = raw.segment (record { line = line; label = label; source = Some (walk_all source); rules = rules }) rest

abbrev dropped : ℕ → ℕ → raw.DropValue
dropped line number = record { line = line; path = codes "PID" ∷ []; field = Some number }

-- lines 1 to 11, or fewer where a row or the other value is left out
abbrev sex_map : ℕ → List raw.Row → Option (List ℕ) → raw.MapValue
sex_map behind rows other =
    record {
      name = codes "M";
      source = codes "P";
      target = codes "T1";
      line = 1;
      tables = record { name = codes "SEXMAP"; rows = rows; other = other } ∷ [];
      items =
          item (behind + 1) (codes "MSH") (codes "MSH") (copies (behind + 2) (codes "MSH") 10 ∷ [])
          (item (behind + 3) (codes "PID") (codes "PID")
          (record { line = behind + 4; field = 8; making = raw.Builds (record { line = behind + 4; place = leaf_place; leaf = raw.Lookup (codes "SEXMAP") (raw.Field (from (codes "PID") 8) leaf_place); others = [] } ∷ []) } ∷ [])
          raw.nothing);
      drops = dropped (behind + 5) 3 ∷ dropped (behind + 6) 5 ∷ [];
    }

abbrev row : List ℕ → List ℕ → raw.Row
row first second = record { first = first; second = second }

abbrev pub m1 : raw.MapValue
m1 = sex_map 5 (row (codes "M") (codes "1") ∷ row (codes "F") (codes "2") ∷ []) (Some (codes "9"))

-- without a row for F, and without another value
abbrev pub m4 : raw.MapValue
m4 = sex_map 3 (row (codes "M") (codes "1") ∷ []) None

-- where nothing reads or drops PID-5
abbrev pub m6 : raw.MapValue
m6 = record m1 { drops = dropped 10 3 ∷ [] }

-- a profile without tables, of MSH and these nodes
abbrev bare : List ℕ → Count → Forest → ProfileValue
bare name count nodes = record { name = name; count = count; tables = []; nodes = msh [] nodes }

-- a map without tables and drops, of an MSH and these items
abbrev plain : List ℕ → List ℕ → List ℕ → raw.Items → raw.MapValue
plain name source target items = record { name = name; source = source; target = target; line = 1; tables = []; items = item 2 (codes "MSH") (codes "MSH") [] items; drops = [] }

-- next of kin and guarantors, and a target for both
abbrev pub kin : ProfileValue
kin = bare (codes "KIN") Octets (seg (codes "NK1") O (card 0 2) [] (seg (codes "GT1") O (card 0 2) [] nothing))

abbrev pub contacts : ℕ → ProfileValue
contacts most = bare (codes "CONTACTS") Octets (seg (codes "NK1") O (card 0 most) [] nothing)

abbrev pub both_kinds : raw.MapValue
both_kinds = plain (codes "BOTH") (codes "KIN") (codes "CONTACTS") (item 3 (codes "NK1") (codes "NK1") [] (item 4 (codes "NK1") (codes "GT1") [] raw.nothing))

-- results in groups, and a target without
abbrev pub oru : ProfileValue
oru =
    bare (codes "ORU") Octets
    (grp (codes "PATIENT_RESULT") (many 1)
    (grp (codes "PATIENT") (card 1 1) (seg (codes "PID") R (card 1 1) [] nothing)
    (grp (codes "ORDER") (many 1) (seg (codes "OBR") R (card 1 1) (field 1 RE (card 0 1) ∷ []) nothing) nothing))
    nothing)

abbrev pub orders : Card → ProfileValue
orders how_many = bare (codes "FLAT") Octets (seg (codes "OBR") R how_many (field 1 RE (card 0 1) ∷ []) nothing)

abbrev pub any_orders : ProfileValue
any_orders = orders (many 1)

abbrev pub two_orders : ProfileValue
two_orders = orders (card 1 2)

abbrev flat : ℕ → List ℕ → raw.Items → raw.Items → raw.Items
flat line label items rest = raw.flat (record { line = line; walk = walk_all label }) items rest

abbrev pub m3 : raw.MapValue
m3 =
    plain (codes "M3") (codes "ORU") (codes "FLAT")
    (flat 3 (codes "PATIENT_RESULT") (flat 4 (codes "ORDER") (item 5 (codes "OBR") (codes "OBR") (copies 6 (codes "OBR") 1 ∷ []) raw.nothing) raw.nothing) raw.nothing)

-- names of at most four octets, or of at most four characters
abbrev pub s2 : ProfileValue
s2 = record profiles.counted { name = codes "S2"; count = Octets }

abbrev pub s3 : ProfileValue
s3 = profiles.counted

abbrev pub m5 : raw.MapValue
m5 = plain (codes "M5") (codes "S2") (codes "S3") (item 3 (codes "PID") (codes "PID") (copies 4 (codes "PID") 5 ∷ []) raw.nothing)

-- patients of a known sex, and a target that needs none
abbrev pub known : ProfileValue
known =
    record {
      name = codes "KNOWN";
      count = Octets;
      tables = record { name = codes "SEX"; values = codes "M" ∷ codes "F" ∷ [] } ∷ [];
      nodes = msh [] (seg (codes "PID") R (card 1 1) (coded 8 R (card 1 1) (codes "SEX") ∷ []) nothing);
    }

abbrev pub listed : ProfileValue
listed = bare (codes "LISTED") Octets (seg (codes "PID") O (card 0 1) (field 8 O (card 0 1) ∷ []) nothing)

abbrev sex : raw.Leaf
sex = raw.Copy (raw.Field (from (codes "PID") 8) leaf_place)

-- those whose sex is this; their sex, or where it is absent that other leaf
abbrev pub where_sex_is : List ℕ → raw.Leaf → raw.MapValue
where_sex_is value other =
    plain (codes "M7") (codes "KNOWN") (codes "LISTED")
    (raw.segment
    (record {
      line = 3;
      label = codes "PID";
      source = Some (record { path = codes "PID" ∷ []; condition = Some (record { from = from (codes "PID") 8; condition = record { place = leaf_place; values = value ∷ [] } }) });
      rules =
          record { line = 4; field = 8; making = raw.Builds (record { line = 4; place = leaf_place; leaf = sex; others = record { line = 5; leaf = other } ∷ [] } ∷ []) } ∷ [];
    })
    raw.nothing)

abbrev pub unknown_sex : raw.Leaf
unknown_sex = raw.Const (codes "U")

abbrev pub same_sex : raw.Leaf
same_sex = sex

-- the leaf of the name
abbrev pub name_at : ℕ → Mark
name_at line = record (at_line line) { field = 5; comp = 1; sub = 1 }

abbrev pub failure : ℕ → Mark → Option Failure
failure rule mark = Some (record { rule = rule; mark = mark })

-- what comes so often
abbrev pub often : ℕ → Option ℕ → Mark → Mark
often least greatest = counted false (record { least = least; greatest = greatest })

-- the leaf of the sex
abbrev pub sex_at : ℕ → Mark
sex_at line = record (at_line line) { field = 8; comp = 1; sub = 1 }
