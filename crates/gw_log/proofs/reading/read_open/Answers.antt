use Rattle.std.proofs.Common.{◌∷◌, [], ◌++◌, ◌∙◌, ap, refl, arith, append_assoc, List, ℕ}
use Rattle.gw_log.proofs.Entries.{read_more, read_on, shorter}
use Rattle.gw_log.proofs.reading.read_open.Goals as goal

pub loop-record-preserved : goal.loop-record-preserved
loop-record-preserved c =
    let is = c.loop-record.invariant in
    let begins = c.in-Some.ensures.some in (
      is.0 ++ c.in-Some.record.now ∷ [],
      c.in_ok-take_in.ensures ∙ ap (λ (l : List (List ℕ)). l ++ c.in-Some.record.now ∷ []) is.1 ∙ append_assoc _ is.0 (c.in-Some.record.now ∷ []),
      read_more _ _ _ is.0 _ _ is.2 begins refl,
      omega (arith, shorter _ _ _ begins, is.3),
    )

pub returns : goal.returns
returns c =
    let is = c.loop-record.invariant in
    read_on _ _ _ is.0 _ _ is.2 is.1 refl c.in_default.ensures.none
