-- From where on records are kept by their time, and with the plan that they are under.
use Rattle.std.specs.Prelude.{ℕ, nat_le, min, if◌then◌else◌, List, [], ◌∷◌}
use Rattle.gw_ledger.specs.declared.needs.Mark.{Mark}

-- the least of this place, and of where one of these files begins whose latest time is this one or a later one
abbrev pub young_from : ℕ → ℕ → List Mark → ℕ
young_from place since [] = place
young_from place since (m ∷ ms) = young_from (if nat_le since m.latest then min place m.first else place) since ms

-- where the last of these files begins that begins at this place or before it; another place where none does
abbrev pub begun_by : ℕ → ℕ → List Mark → ℕ
begun_by place from [] = from
begun_by place from (m ∷ ms) = begun_by place (if nat_le m.first place then m.first else from) ms
