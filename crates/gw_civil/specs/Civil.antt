-- The digits of a civil date and time: YYYYMMDDHHMMSS (HL7 v2.5.1 chapter 2A, 2.A.22 "DTM").
use Rattle.std.specs.Prelude.{ℕ, ◌+◌, ◌/◌, ◌%◌, List, [], ◌∷◌, ◌++◌, slice_index}

-- a number below 100 in two digits
abbrev pub two : ℕ → List ℕ
two n = (48 + n / 10) ∷ (48 + n % 10) ∷ []

-- year, month, day, hour, minute, second
abbrev pub stamped : ℕ → ℕ → ℕ → ℕ → ℕ → ℕ → List ℕ
stamped year month day hour minute second = two (year / 100) ++ two (year % 100) ++ two month ++ two day ++ two hour ++ two minute ++ two second

-- a number below 1,000,000 in six digits
abbrev pub six : ℕ → List ℕ
six n = two (n / 10000) ++ two (n / 100 % 100) ++ two (n % 100)

-- two digits of a stamp, from one place on
abbrev pub pair : List ℕ → ℕ → List ℕ
pair stamp k = slice_index stamp k ∷ slice_index stamp (k + 1) ∷ []

-- a stamp, and a number of microseconds, as a date and time of ISO 8601: YYYY-MM-DDTHH:MM:SS.ffffffZ
abbrev pub dated : List ℕ → ℕ → List ℕ
dated stamp microseconds =
    pair stamp 0 ++ pair stamp 2 ++ 45 ∷ pair stamp 4 ++ 45 ∷ pair stamp 6 ++ 84 ∷ pair stamp 8 ++ 58 ∷ pair stamp 10 ++ 58 ∷ pair stamp 12 ++ 46 ∷ six microseconds ++ 90 ∷ []
