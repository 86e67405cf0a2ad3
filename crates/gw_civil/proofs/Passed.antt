-- The stamp of a time.
use Rattle.std.proofs.Common.{◌≡◌, ℕ, ◌*◌, pos, List}
use Rattle.jiff_core.specs.declared.civil.datetime.DateTime.{DateTime}
use Rattle.jiff_core.specs.DateTime.{civil_nanos}
use Rattle.gw_civil.specs.Civil.{stamped}
use Rattle.gw_civil.specs.own.Times.{IsStampOf}

abbrev IsItsStamp : DateTime → List ℕ → Type 0
IsItsStamp at stamp = (year : ℕ) → at.date.year ≡ pos year → stamp ≡ stamped year at.date.month at.date.day at.time.hour at.time.minute at.time.second

pub stamp_of : (microseconds : ℕ) (at : DateTime) (stamp : List ℕ) → (year : ℕ) × (at.date.year ≡ pos year) → IsItsStamp at stamp → civil_nanos at ≡ pos (microseconds * 1000)
    → IsStampOf microseconds stamp
stamp_of microseconds at stamp year its passed =
    record { at = at; year = year.0; passed = passed; its_year = year.1; digits = its year.0 year.1 }
