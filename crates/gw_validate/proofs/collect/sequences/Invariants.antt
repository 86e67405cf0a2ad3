use Rattle.std.proofs.Common.{◌≡◌, ℕ, ◌<◌, length, take, get_or}
use Rattle.std.specs.List.{count_by}
use Rattle.std.specs.Str.{bytes_eq}
use Rattle.gw_profile.specs.Deterministic.{Name}
use Rattle.gw_validate.specs.Broken.{sequence}
use Rattle.gw_validate.specs.Conforming.{named}
use Rattle.gw_validate.specs.own.Finding.{count_of}
use Rattle.gw_validate.proofs.collect.sequences.Given as goal

abbrev pub invariant-loop-number : goal.invariant-loop-number
invariant-loop-number l = record {
  count : length l.all.items ≡ l.number;
  counted : (name : Name) → count_of l.counts name ≡ count_by (λ s. bytes_eq s.name name) (take l.number l.message);
  each : (j : ℕ) → j < l.number → get_or l.all.items j 0 ≡ sequence l.message j (named l.message j);
}
