use Rattle.std.proofs.Common.{rules, ◌≡◌}
use Rattle.gw_mllp.specs.declared.fault.FrameFault.TheVariants.{Memory}
use Rattle.gw_stream.proofs.block_reader.take_piece.Goals as goal

pub returns-in-Err : goal.returns-in-Err
returns-in-Err c =
    let memory : ¬ (c.in-Err.field-0 ≡ Memory) = λ e. search rules in
    record {
      fed = c.in-Err.ensures.fed (λ h. search rules);
      err = tt;
    }

pub returns-in-Ok-clause-fed : goal.returns-in-Ok-clause-fed
returns-in-Ok-clause-fed c = c.in-Ok.ensures.fed (λ h. search rules)
