use Rattle.std.proofs.Common.{◌∷◌, ◌++◌, ◌-◌, [], length, get_or, subst}
use Rattle.gw_er7.specs.Message.{numbers, SegmentValue}
use Rattle.gw_er7.specs.Presence.{IsLast}
use Rattle.gw_er7.specs.own.Standing.{StandsUnder}
use Rattle.gw_er7.proofs.Lent.{values_of}
use Rattle.gw_er7.proofs.Under.{last_some, last_none}
use Rattle.gw_er7.proofs.view.Segment.last.Goals as goal

pub last_under-requires : goal.last_under-requires
last_under-requires c = values_of c.self.inside.name c.self.inside.values c.self.invariant

pub returns-in-Some : goal.returns-in-Some
returns-in-Some c =
    let ps = c.args.prefix.now in
    let values = values_of c.self.inside.name c.self.inside.values c.self.invariant in
    subst (λ (s : SegmentValue). IsLast (λ n. StandsUnder s.at (3 - length ps) (ps ++ n ∷ [])) (get_or (numbers c.in-Some.place) (length ps) 0)) c.self.view_is
    (last_some c.self.inside.values values ps c.requires c.in-Some.place c.in-Some.ensures)

pub returns-in-None : goal.returns-in-None
returns-in-None c =
    let ps = c.args.prefix.now in
    let values = values_of c.self.inside.name c.self.inside.values c.self.invariant in
    subst (λ (s : SegmentValue). IsLast (λ n. StandsUnder s.at (3 - length ps) (ps ++ n ∷ [])) 0) c.self.view_is
    (last_none c.self.inside.values values ps c.requires c.in-None.ensures)
