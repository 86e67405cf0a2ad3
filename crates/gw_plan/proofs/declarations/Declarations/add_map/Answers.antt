use Rattle.std.proofs.Common.{◌≡◌, ◌∙◌, ap, map, List, sym, subst}
use Rattle.std.specs.Arc.{arc_value}
use Rattle.gw_maplang.specs.Seen as maps
use Rattle.gw_check.specs.Kept.{CheckedValue}
use Rattle.gw_plan.specs.Declarations.{DeclarationsHeld, BeginsAt, profiles_of, maps_of, with_map, named_map}
use Rattle.gw_plan.proofs.Standing.{map_put, map_kept, one_more}
use Rattle.gw_plan.proofs.declarations.Declarations.add_map.Goals as goal

pub invariant_of-self-2 : goal.invariant_of-self-2
invariant_of-self-2 c =
    let name : c.in_ok-name.name.items ≡ (arc_value c.args.map).map.name =
    c.in_ok-name.ensures.items ∙ c.name.ensures ∙ ap (λ (m : maps.Contents). m.name) (c.map.ensures ∙ ap (λ (m : CheckedValue). m.map) c.deref.ensures)
    in
    let new = ap (λ (a : DeclarationsHeld). named_map (arc_value c.args.map).map.name (maps_of a)) c.self.view_is ∙ c.requires.new in
    map_kept arc_value arc_value c.self.inside.profiles.entries c.self.inside.maps.entries c.insert.new.self.entries _ c.in_ok-name.name c.args.map name
    (map_put arc_value c.self.inside.maps.entries c.insert.new.self.entries _ _ c.in_ok-name.name c.args.map name c.self.invariant new c.in_ok-insert.ensures.entries)
    (subst (λ (a : DeclarationsHeld). BeginsAt (profiles_of a) (arc_value c.args.map)) (sym c.self.view_is) c.requires.source) c.self.invariant

pub returns-clause-added : goal.returns-clause-added
returns-clause-added c =
    let name : c.in_ok-name.name.items ≡ (arc_value c.args.map).map.name =
    c.in_ok-name.ensures.items ∙ c.name.ensures ∙ ap (λ (m : maps.Contents). m.name) (c.map.ensures ∙ ap (λ (m : CheckedValue). m.map) c.deref.ensures)
    in
    let new = ap (λ (a : DeclarationsHeld). named_map (arc_value c.args.map).map.name (maps_of a)) c.self.view_is ∙ c.requires.new in
    let put = map_put arc_value c.self.inside.maps.entries c.insert.new.self.entries _ _ c.in_ok-name.name c.args.map name c.self.invariant new c.in_ok-insert.ensures.entries in
    ap (λ (ms : List CheckedValue). record { profiles = map (λ e. arc_value e.1) c.self.inside.profiles.entries; maps = ms })
    (one_more arc_value c.self.inside.maps.entries c.insert.new.self.entries c.in_ok-name.name c.args.map put)
    ∙ ap (λ (a : DeclarationsHeld). with_map a (arc_value c.args.map)) c.self.view_is
