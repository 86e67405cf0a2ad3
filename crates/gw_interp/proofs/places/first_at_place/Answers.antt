use Rattle.std.proofs.Common.{◌∙◌, sym, ap, subst, List, ℕ}
use Rattle.std.specs.Prelude.{◌≡◌, IfSome}
use Rattle.gw_er7.specs.Message.{SegmentValue}
use Rattle.gw_resolve.specs.Seen.{place as seen_place}
use Rattle.gw_interp.specs.Occurrences.{Occurrence, below}
use Rattle.gw_interp.specs.own.Borrowed.{occurrence, IsFirstOf}
use Rattle.gw_interp.proofs.Borrowing.{at_none, at_one}
use Rattle.gw_interp.proofs.places.first_at_place.Goals as goal

pub returns-in-None-clause-first : goal.returns-in-None-clause-first
returns-in-None-clause-first c = at_none c.args.scope.now (seen_place c.args.place.now) c.in-None.ensures.walked

pub returns-in-Some-clause-first : goal.returns-in-Some-clause-first
returns-in-Some-clause-first c =
    subst (λ (l : List Occurrence). IsFirstOf l c.first_below.result)
    (ap (λ (l : List ℕ). below l (occurrence c.in-Some.from)) c.deref.ensures.value ∙ sym (at_one c.args.scope.now (seen_place c.args.place.now) c.in-Some.from c.in-Some.ensures.walked))
    c.first_below.ensures.first

pub returns-in-Some-clause-message : goal.returns-in-Some-clause-message
returns-in-Some-clause-message c = λ m a.
    subst (λ (x : List SegmentValue). IfSome c.first_below.result (λ o. o.message ≡ x)) (c.in-Some.ensures.message m a) c.first_below.ensures.message
