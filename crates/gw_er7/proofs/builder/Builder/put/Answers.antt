use Rattle.gw_er7.specs.View.{Held}
use Rattle.gw_er7.proofs.Lying.{puts, puts_last}
use Rattle.gw_er7.proofs.builder.Builder.put.Goals as goal

pub invariant_of-self : goal.invariant_of-self
invariant_of-self c =
    let h : Held = record { place = c.args.place; text = c.args.text.now } in
    puts c.put.result c.self.inside.starts.items h c.self.inside.texts c.put.new.self c.args.self.now c.self.view_is c.requires c.put.ensures.ok c.put.ensures.err c.self.invariant

pub returns-clause-ok : goal.returns-clause-ok
returns-clause-ok c =
    let h : Held = record { place = c.args.place; text = c.args.text.now } in
    puts_last c.put.result c.self.inside.starts.items h c.self.inside.texts c.put.new.self c.args.self.now c.self.view_is c.requires c.put.ensures.ok c.self.invariant
