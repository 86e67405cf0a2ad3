use Rattle.gw_profile.proofs.Kept.{among_map}
use Rattle.gw_profile.specs.Fault.{is_among}
use Rattle.std.proofs.Common.{◌∙◌, ap, List, ℕ, map}
use Rattle.std.specs.Global.{Vec}
use Rattle.std.specs.Prelude.{not}
use Rattle.gw_profile.proofs.table.put.Goals as goal

-- the test at a copy
pub returns-clause-new : goal.returns-clause-new
returns-clause-new c =
    c.in_ok-new.ensures.added ∙ ap not (among_map (λ (v : Vec ℕ). v.items) c.in_ok-copy.copy.items c.args.values.now.keys
    ∙ ap (λ (bytes : List ℕ). is_among bytes (map (λ (v : Vec ℕ). v.items) c.args.values.now.keys)) c.in_ok-copy.ensures.items)
