use Rattle.std.proofs.Common.{◌∙◌, ap}
use Rattle.gw_crew.specs.Seen.{notes_seen}
use Rattle.gw_crew.specs.Solos.{SoloSeen}
use Rattle.gw_crew.proofs.Soloing.{kept, not_cut}
use Rattle.gw_crew.proofs.solo.SoloDoor.call.Goals as goal

pub keep-requires : goal.keep-requires
keep-requires c = λ some. c.room_for.ensures.room c.if-not-room_for.false (not_cut _ _ _ _ c.step-answer.ensures some)

pub returns : goal.returns
returns c =
    let gate = ap (λ (s : SoloSeen). s.gate) c.self.view_is in
    let same = ap notes_seen c.room_for.ensures.same ∙ ap (λ (s : SoloSeen). s.notes) c.self.view_is in
    let done = kept _ _ _ _ _ _ _ _ _ gate c.step-answer.ensures c.keep.ensures.reply same c.keep.ensures.notes in
    record { calls = done.calls; step = done.step; noted = done.noted; err = done.stays }
