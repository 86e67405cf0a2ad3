use Rattle.std.proofs.Common.{◌∙◌, sym, refl}
use Rattle.gw_gate.specs.own.Books.{journal_of}
use Rattle.gw_gate.specs.Entries.{entries_seen, start_seen}
use Rattle.gw_crew.specs.Seen.{note_seen}
use Rattle.gw_audit.specs.own.Joins.{in_force, suits}
use Rattle.gw_audit.proofs.Fitting.{place_is, suits_before, suits_from, suits_never}
use Rattle.gw_audit.proofs.parts.Part.first_in_force.Goals as goal

pub returns-then-version-self : goal.returns-then-version-self
returns-then-version-self c =
    rw (← c.self.view_is)
    (suits_before (journal_of (start_seen c.self.inside.start.now) (entries_seen c.self.inside.entries.now)) _ _ c.self.invariant.plans
    c.args.version (suits (note_seen c.args.note.now)) c.if-version-self.true c.args.low)

pub returns-then-not-is_suited : goal.returns-then-not-is_suited
returns-then-not-is_suited c =
    let none = rw c.deref.ensures.value at (sym c.is_suited.ensures ∙ c.if-not-is_suited.true) in
    rw (← c.self.view_is)
    (suits_never (journal_of (start_seen c.self.inside.start.now) (entries_seen c.self.inside.entries.now)) _ _ c.self.invariant.plans
    c.args.version (suits (note_seen c.args.note.now)) _ (place_is c.args.version _ _ refl c.if-version-self.false) none c.args.low)

pub returns : goal.returns
returns c =
    let j = journal_of (start_seen c.self.inside.start.now) (entries_seen c.self.inside.entries.now) in
    let suited = rw c.deref.ensures.value at (sym c.is_suited.ensures ∙ c.if-not-is_suited.false) in
    rw (← c.self.view_is)
    (c.first_with.ensures (in_force j c.args.version (suits (note_seen c.args.note.now))) (rw c.deref-2.ensures.value
    (suits_from j _ _ c.self.invariant.plans c.args.version (suits (note_seen c.args.note.now)) _ (place_is c.args.version _ _ refl c.if-version-self.false)
    suited)))
