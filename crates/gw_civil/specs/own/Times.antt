-- The time of a stamp.
use Rattle.std.specs.Prelude.{◌≡◌, ℕ, ◌*◌, pos, List}
use Rattle.jiff_core.specs.declared.civil.datetime.DateTime.{DateTime}
use Rattle.jiff_core.specs.DateTime.{civil_nanos}
use Rattle.gw_civil.specs.Civil.{stamped}

-- the stamp of the date and time at which this number of microseconds has passed since 1970
pub record IsStampOf (microseconds : ℕ) (stamp : List ℕ) : Type 0 where
  pub at : DateTime
  pub year : ℕ
  pub passed : civil_nanos at ≡ pos (microseconds * 1000)
  pub its_year : at.date.year ≡ pos year
  pub digits : stamp ≡ stamped year at.date.month at.date.day at.time.hour at.time.minute at.time.second
