use Rattle.std.proofs.Common.{ap, ◌∙◌, ◌++◌, ◌∷◌, [], List, length, refl, arith}
use Rattle.gw_er7.specs.declared.spans.TextSpan.{TextSpan}
use Rattle.gw_er7.specs.View.{Held}
use Rattle.gw_er7.proofs.Slices.{held_put}
use Rattle.gw_er7.proofs.texts.Texts.put.Goals as goal

pub returns-in-Ok-clause-ok : goal.returns-in-Ok-clause-ok
returns-in-Ok-clause-ok c =
    let l : TextSpan = record { place = c.args.place; from = c.len-from.result; len = length c.args.text.now } in
    let h : Held = record { place = c.args.place; text = c.args.text.now } in
    held_put c.self.inside.bytes.items c.args.text.now c.extend_from_slice.new.self.items c.self.inside.spans c.push.new.self l c.self.invariant c.in_ok-extend_from_slice.ensures.items c.in-Ok.ensures.ok (omega (arith, c.len-from.ensures)) refl
    ∙ ap (λ (hs : List Held). hs ++ h ∷ []) c.self.view_is
