-- Worked profiles and their texts.
use Rattle.std.specs.Prelude.{ℕ, List, [], ◌∷◌, ◌++◌, Some, None, codes}
use Rattle.gw_profile.specs.declared.shape.Usage.TheVariants.{R, RE, O}
use Rattle.gw_profile.specs.declared.shape.Card.{Card}
use Rattle.gw_profile.specs.declared.shape.Count.TheVariants.{Octets, Characters}
use Rattle.gw_profile.specs.Shapes.{nothing, segment, group, ProfileValue}

abbrev times : ℕ → ℕ → Card
times min max = record { min = min; max = Some max }

abbrev several : Card
several = record { min = 1; max = None }

-- MSH, and groups of PID, with field 8 a code of table SEX, and NK1, here with the label KIN
abbrev pub worked : ProfileValue
worked =
    record {
      name = codes "P1";
      count = Octets;
      tables = record { name = codes "SEX"; values = codes "M" ∷ codes "F" ∷ [] } ∷ [];
      nodes =
          segment (record { name = codes "MSH"; label = codes "MSH"; usage = R; card = times 1 1; fields = record { number = 10; usage = R; card = times 1 1; comps = [] } ∷ [] })
          (group (record { label = codes "PATIENT"; usage = R; card = several })
          (segment (record {
            name = codes "PID";
            label = codes "PID";
            usage = R;
            card = times 1 1;
            fields =
                record {
                  number = 8;
                  usage = RE;
                  card = times 0 1;
                  comps = record { number = 1; usage = R; subs = record { number = 1; usage = R; len = Some 1; table = Some (codes "SEX") } ∷ [] } ∷ [];
                } ∷ [];
          })
          (segment (record { name = codes "NK1"; label = codes "KIN"; usage = O; card = times 0 12; fields = [] }) nothing))
          nothing);
    }

abbrev line : List ℕ → List ℕ
line bytes = bytes ++ 10 ∷ []

-- with one line for each part, and values in quotes
abbrev pub worked_out : List ℕ
worked_out =
    line (codes "profile P1") ++ line (codes "table SEX \"M\" \"F\"") ++ line (codes "segment MSH R 1..1") ++ line (codes "field 10 R 1..1")
    ++ line (codes "group PATIENT R 1..*") ++ line (codes "segment PID R 1..1") ++ line (codes "field 8 RE 0..1") ++ line (codes "comp 1 R") ++ line (codes "sub 1 R len 1 table SEX")
    ++ line (codes "segment NK1 as KIN O 0..12") ++ line (codes "end")

-- as a person writes it
abbrev pub worked_text : List ℕ
worked_text =
    line (codes "# patients") ++ line (codes "profile P1") ++ line (codes "segment MSH R 1..1") ++ line (codes "  field 10 R 1..1") ++ line (codes "table SEX M F") ++ line [] ++ line (codes "group PATIENT R 1..*")
    ++ line (codes "  segment PID as PID R 1..1") ++ line (codes "    field 8 RE 0..1 len 1 table SEX") ++ line (codes "  segment NK1 as KIN O 0..12") ++ codes "end"

-- a profile whose lengths count characters, and its text
abbrev pub counted : ProfileValue
counted =
    record {
      name = codes "S3";
      count = Characters;
      tables = [];
      nodes =
          segment (record { name = codes "MSH"; label = codes "MSH"; usage = R; card = times 1 1; fields = [] })
          (segment (record {
            name = codes "PID";
            label = codes "PID";
            usage = R;
            card = times 1 1;
            fields =
                record {
                  number = 5;
                  usage = RE;
                  card = times 0 1;
                  comps = record { number = 1; usage = R; subs = record { number = 1; usage = R; len = Some 4; table = None } ∷ [] } ∷ [];
                } ∷ [];
          }) nothing);
    }

abbrev pub counted_text : List ℕ
counted_text =
    line (codes "profile S3") ++ line (codes "count characters") ++ line (codes "segment MSH R 1..1") ++ line (codes "segment PID R 1..1") ++ line (codes "  field 5 RE 0..1 len 4")

-- below a table the line is at fault
abbrev pub late_count : List ℕ
late_count = line (codes "profile S3") ++ line (codes "table SEX M") ++ line (codes "count characters") ++ line (codes "segment MSH R 1..1")
