use Rattle.std.proofs.Common.{◌∙◌, ◌-◌, ap, sym, take, false, Bor, List, ℕ}
use Rattle.std.proofs.lemmas.List.{take-map}
use Rattle.gw_maplang.specs.Patterns.{second_at}
use Rattle.gw_maplang.specs.Seen.{now_all}
use Rattle.gw_maplang.proofs.patterns.is_second_at.Goals as goal

pub returns : goal.returns
returns c =
    c.is_second.ensures
    ∙ ap (λ ls. second_at false (now_all ls)) (c.deref.ensures.value ∙ c.truncate.ensures.items ∙ ap (λ n. take n c.in_ok-above.above.items) c.saturating_sub.ensures)
    ∙ ap (second_at false) (sym (take-map (λ (line : Bor (List ℕ)). line.now) (c.args.at - 1) c.in_ok-above.above.items) ∙ ap (take (c.args.at - 1)) c.in_ok-above.ensures)
