-- What is reported of a journal.
use Rattle.std.specs.Prelude.{Bool, true, false, List, count_by, length}
use Rattle.gw_gate.specs.Journal.{EntrySeen, WasAccepted, WasRefused, WasKept, WasOut}
use Rattle.gw_audit.specs.declared.report.Report.{Report}
use Rattle.gw_audit.specs.declared.report.Kind.{Kind}
use Rattle.gw_audit.specs.declared.report.Kind.TheVariants.{Accepted, Refused, Arrived, Kept, Released, Any}

-- whether an entry is of a kind
abbrev pub is_of : Kind → EntrySeen → Bool
is_of Accepted (WasAccepted n arrival c) = true
is_of Refused (WasRefused arrival code) = true
is_of Kept (WasKept n t) = true
is_of Released (WasOut n r t) = true
is_of Arrived (WasAccepted n arrival c) = true
is_of Arrived (WasRefused arrival code) = true
is_of Any e = true
is_of kind e = false

-- how many entries of each kind there are, and how many in all
abbrev pub report_of : List EntrySeen → Report
report_of h = record {
  accepted = count_by (is_of Accepted) h;
  refused = count_by (is_of Refused) h;
  kept = count_by (is_of Kept) h;
  released = count_by (is_of Released) h;
  entries = length h;
}
