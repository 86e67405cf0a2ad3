use Rattle.std.proofs.Common.{◌∷◌, []}
use Rattle.gw_profile.specs.Seen.{segment_value}
use Rattle.gw_sample.specs.own.Least.{one_of, several_of, Adds}
use Rattle.gw_sample.proofs.least.add_segments.Given as goal

abbrev pub invariant-loop-time : goal.invariant-loop-time
invariant-loop-time l = Adds (several_of l._time (one_of (segment_value l.segment) ∷ [])) l.initial.builder l.builder
