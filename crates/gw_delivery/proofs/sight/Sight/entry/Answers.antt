use Rattle.gw_due.specs.Views as view
use Rattle.gw_delivery.specs.Seen.{SightState}
use Rattle.gw_delivery.proofs.Seeing.{entry_says}
use Rattle.gw_delivery.proofs.sight.Sight.entry.Goals as goal

pub returns : goal.returns
returns g c =
    let s : SightState = record { place = c.self.inside.place; bytes = c.self.inside.bytes.items; history = c.self.inside.front } in
    let found = rw c.deref.ensures.value at c.read.ensures.found in
    rw (← c.self.view_is) (entry_says view.entry g.J.Naming.before s _ c.self.invariant found)
