use Rattle.std.proofs.Common.{arith}
use Rattle.gw_gate.specs.own.Books.{journal_of}
use Rattle.gw_gate.specs.Entries.{entries_seen, start_seen}
use Rattle.gw_gate.proofs.Entering.{as_long}
use Rattle.gw_audit.proofs.Fitting.{then_full}
use Rattle.gw_audit.proofs.parts.Part.first_full.Goals as goal

pub returns-then-low-le-MAX_ENTRIES : goal.returns-then-low-le-MAX_ENTRIES
returns-then-low-le-MAX_ENTRIES c =
    let more = c.if-self-lt-MAX_ENTRIES.false in
    let long = as_long c.self.inside.entries.now in
    rw (← c.self.view_is)
    (then_full (journal_of (start_seen c.self.inside.start.now) (entries_seen c.self.inside.entries.now)) c.args.low
    (omega (arith, more, long)) c.if-low-le-MAX_ENTRIES.true)
