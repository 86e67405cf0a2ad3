use Rattle.std.proofs.Common.{refl, ap, subst, ◌∙◌, ◌<◌, ◌+◌, ◌∷◌}
use Rattle.gw_reorder.proofs.Giving.{below, places_after, room_after, gives, dropped}
use Rattle.gw_reorder.proofs.desk.Desk.release.Goals as goal

pub index-number-requires : goal.index-number-requires
index-number-requires g c = below _ _ _ c.self.invariant.places (c.in-Some-Some.ensures.variant.0 refl)

pub invariant_of-self : goal.invariant_of-self
invariant_of-self g c = record { rising = c.self.invariant.rising; places = places_after _ _ _ _ c.self.invariant.places c.in-Some-Some-pop_front.ensures.len }

pub returns-in-Some-Some-pop_front-clause-given : goal.returns-in-Some-Some-pop_front-clause-given
returns-in-Some-Some-pop_front-clause-given g c =
    let d = c.self.inside in
    let inside = below _ _ _ c.self.invariant.places (c.in-Some-Some.ensures.variant.0 refl) in
    gives c.self.view_is c.index-number.result.now c.in-Some-Some-pop_front.value c.pop_front.new.self.items (subst (λ long. d.released < long) d.due.ok.0 inside) c.index-number.ensures
    (c.in-Some-Some-pop_front.ensures.items ∙ ap (λ x. x ∷ c.pop_front.new.self.items) c.in-Some-Some-pop_front.field-0-is)

pub returns-in-Some-Some-pop_front-clause-left : goal.returns-in-Some-Some-pop_front-clause-left
returns-in-Some-Some-pop_front-clause-left g c = record {
  due = ap (λ s. s.due) c.self.view_is;
  released = ap (λ s. s.released + 1) c.self.view_is;
  kept = dropped c.self.view_is c.in-Some-Some-pop_front.field-0 c.pop_front.new.self.items c.in-Some-Some-pop_front.ensures.items;
}

pub returns-in-Some-Some-pop_front-clause-room : goal.returns-in-Some-Some-pop_front-clause-room
returns-in-Some-Some-pop_front-clause-room g c = room_after _ _ _ _ _ _ (ap (λ s. s.room) c.self.view_is) c.in-Some-Some-pop_front.ensures.capacity c.in-Some-Some-pop_front.ensures.len
