use Rattle.std.proofs.Common.{◌≡◌, ◌≤◌, List, ◌∷◌, Vec, ℕ, Global, length, sym, ◌∙◌, ap, arith}
use Rattle.std.proofs.lemmas.List.{drop_all}
use Rattle.gw_journal.specs.Logs.{records_of}
use Rattle.gw_journal.specs.Stored.{LastState, last_of}
use Rattle.gw_journal.proofs.stored.LastFile.checkpoint.Goals as goal

pub returns-in-None : goal.returns-in-None
returns-in-None c =
    let rows : c.self.inside.rows.items ≡ c.in-Some.head.now ∷ c.in-Some.field-0-1.now = sym c.deref.ensures.value ∙ c.in-Some.ensures.cases.0 in
    let short : length c.in-Some.head.now.items ≤ 40 = omega (arith, c.in-None.ensures.none, ap length c.deref-2.ensures.value) in
    sym (ap (λ (s : LastState). s.checkpoint) (sym c.self.view_is) ∙ ap (λ (r : List (Vec ℕ Global)). (last_of (records_of r)).checkpoint) rows
    ∙ drop_all 40 c.in-Some.head.now.items short)
