-- The events of the code as those of the definitions.
use Rattle.gw_due.specs.Events as events
use Rattle.gw_due.specs.Spelling as spelling
use Rattle.gw_due.specs.declared.event.How.{How}
use Rattle.gw_due.specs.declared.event.How.TheVariants.{Taken, Refused, Skipped}
use Rattle.gw_due.specs.declared.event.Event.{Event}
use Rattle.gw_due.specs.declared.event.Event.TheVariants.{Planned, Accepted, Again, Passed, Named, Margin, Retired}
use Rattle.gw_due.specs.declared.event.Entry.{Entry}

abbrev pub how : How → events.How
how Taken = events.Taken
how (Refused code reason) = events.Refused code reason.now
how Skipped = events.Skipped

abbrev pub event : Event → events.Event
event (Planned text) = events.Planned text.now
event (Accepted number to bytes) = events.Accepted number to.items bytes.now
event (Again receiver place) = events.Again receiver place
event (Passed receiver place passed) = events.Passed receiver place (how passed)
event (Named receiver name address) = events.Named receiver name.now address.now
event (Margin number) = events.Margin number
event (Retired segment) = events.Retired segment

abbrev pub entry : Entry → spelling.Entry
entry e = record { time = e.time; event = event e.event }
