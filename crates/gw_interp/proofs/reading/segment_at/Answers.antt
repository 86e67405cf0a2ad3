use Rattle.std.proofs.Common.{ap, subst, ◌∙◌, Option}
use Rattle.std.specs.Prelude.{IfSome, ◌≡◌}
use Rattle.gw_validate.specs.Fitting.{OccValue}
use Rattle.gw_resolve.specs.Seen.{place as seen_place}
use Rattle.gw_interp.specs.Occurrences.{at_place}
use Rattle.gw_interp.specs.own.Borrowed.{scope}
use Rattle.gw_interp.specs.own.Sourced.{texts_of}
use Rattle.gw_interp.proofs.ReadTexts.{some_first}
use Rattle.gw_interp.proofs.reading.segment_at.Goals as goal

pub returns-in-Some : goal.returns-in-Some
returns-in-Some c = λ m a.
    ap texts_of c.segment.ensures.segment
    ∙ some_first m c.in-Some.first (at_place (scope c.args.scope.now) (seen_place c.args.place.now)) c.in-Some.ensures.first
    (subst (λ (o : Option OccValue). IfSome o (λ f. f.message ≡ m)) c.in-Some.is (c.first_at_place.ensures.message m a))
