use Rattle.std.proofs.Common.{rules, ◌≡◌, ap, refl, Err}
use Rattle.gw_mllp.specs.declared.fault.FrameFault.{FrameFault}
use Rattle.gw_mllp.specs.declared.fault.FrameFault.TheVariants.{Memory, TooLong, Truncated}
use Rattle.gw_crew.proofs.blocks.take_piece.Goals as goal

only_too_long : (fault : FrameFault) → ¬ (fault ≡ Memory) → ¬ (fault ≡ Truncated) → fault ≡ TooLong
only_too_long Memory a b = absurd (a refl)
only_too_long TooLong a b = refl
only_too_long Truncated a b = absurd (b refl)

pub returns-in-Err : goal.returns-in-Err
returns-in-Err c =
    let memory : ¬ (c.in-Err.field-0 ≡ Memory) = λ e. search rules in
    let truncated : ¬ (c.in-Err.field-0 ≡ Truncated) = λ e. c.in-Err.ensures.not_truncated (ap Err e) in
    let over = c.in-Err.ensures.too_long (ap Err (only_too_long _ memory truncated)) in
    record {
      stands = c.in-Err.ensures.fed (λ h. search rules);
      over = λ h. over;
      err = tt;
    }

pub returns-in-Ok-clause-stands : goal.returns-in-Ok-clause-stands
returns-in-Ok-clause-stands c = c.in-Ok.ensures.fed (λ h. search rules)
