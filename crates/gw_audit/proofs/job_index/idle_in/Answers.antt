use Rattle.std.proofs.Common.{◌≡◌, ◌+◌, ◌∙◌, refl, arith, subst, length}
use Rattle.gw_gate.specs.Entries.{entry_seen, entries_seen}
use Rattle.gw_gate.proofs.Entering.{as_long}
use Rattle.gw_audit.specs.Owing.{waits_none}
use Rattle.gw_audit.specs.Turns.{TurnsTo}
use Rattle.gw_audit.proofs.Prefixes.{entry_next, idle_all, idle_is, issued_next, one_job, taken_next}
use Rattle.gw_audit.proofs.job_index.idle_in.Goals as goal

pub returns : goal.returns
returns c =
    let h = entries_seen c.args.entries.now in
    let all : c.loop-place.place ≡ length h = (let a = c.loop-place-test.false in let b = c.loop-place.auto.place-end in
    omega (arith, a, b, as_long c.args.entries.now)) in
    idle_all h c.loop-place.ats.items (subst (λ n. TurnsTo (waits_none h) n c.loop-place.ats.items) all c.loop-place.invariant.turns)

pub loop-place-preserved : goal.loop-place-preserved
loop-place-preserved c =
    let entries = c.args.entries.now in
    let h = entries_seen entries in
    let k = c.loop-place.place in
    let e = c.index-entries-place.result in
    let was = c.loop-place.invariant in
    let next = entry_next entries k e c.loop-place-test.true c.index-entries-place.is in
    let added : c.in-Some.more ≡ c.loop-place.issued + c.issued_by.result = c.in-Some.ensures.1 in
    let issued = added ∙ issued_next h k (entry_seen e) next c.loop-place.issued c.issued_by.result was.issued c.issued_by.ensures in
    let taken = taken_next h k (entry_seen e) next c.loop-place.taken c.taken_by-taken.result was.taken c.taken_by-taken.ensures in
    record {
      turns = c.in_ok-turn_to.ensures (waits_none h) k refl
          (idle_is h c.requires (k + 1) c.in-Some.more (c.loop-place.taken + c.taken_by-taken.result) issued taken) was.turns;
      issued = issued;
      taken = taken;
      few = (let few = was.few in let is = c.taken_by-taken.ensures in omega (arith, few, is, one_job (entry_seen e)));
    }
