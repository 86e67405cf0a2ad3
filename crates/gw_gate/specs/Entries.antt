-- Entries and starts, without where their parts lie in memory.
use Rattle.std.specs.Prelude.{List, map}
use Rattle.std.specs.Arc.{arc_value}
use Rattle.gw_gate.specs.declared.event.Entry as entry
use Rattle.gw_gate.specs.declared.chapter.Start as chapter
use Rattle.gw_gate.specs.Seen.{plan_seen, conforming_seen, translated_seen}
use Rattle.gw_gate.specs.Journal.{Start, EntrySeen, WasAccepted, WasRefused, WasSwapped, WasTaken, WasKept, WasIssued, WasOut}

abbrev pub start_seen : chapter.Start → Start
start_seen s = record { version = s.version; plan = plan_seen (arc_value s.plan); acceptances = s.acceptances; arrivals = s.arrivals; entries = s.entries }

abbrev pub entry_seen : entry.Entry → EntrySeen
entry_seen (entry.TheVariants.Accepted n arrival c) = WasAccepted n arrival (conforming_seen (arc_value c))
entry_seen (entry.TheVariants.Refused arrival code) = WasRefused arrival code
entry_seen (entry.TheVariants.Swapped v p) = WasSwapped v (plan_seen (arc_value p))
entry_seen (entry.TheVariants.Job n r) = WasTaken n r
entry_seen (entry.TheVariants.Kept n t) = WasKept n (translated_seen (arc_value t))
entry_seen (entry.TheVariants.Issued n r) = WasIssued n r
entry_seen (entry.TheVariants.Out n r t) = WasOut n r (translated_seen (arc_value t))

abbrev pub entries_seen : List entry.Entry → List EntrySeen
entries_seen entries = map entry_seen entries
