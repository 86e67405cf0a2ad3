use Rattle.std.proofs.Common.{◌≡◌, ◌∙◌, sym}
use Rattle.gw_validate.specs.declared.occurrences.Occurrences.TheViews.{roll-Found, out-roll-Found}
use Rattle.gw_validate.specs.own.Occurring.{children_of}
use Rattle.gw_validate.proofs.Rows.{stays_up_to, none_here, put_up_to, put_here, put_before}
use Rattle.gw_validate.proofs.occurrences.Found.put.Goals as goal

pub returns-in_default-clause-up_to : goal.returns-in_default-clause-up_to
returns-in_default-clause-up_to c = stays_up_to c.args.self.now c.args.node c.requires

pub returns-in_default-clause-here : goal.returns-in_default-clause-here
returns-in_default-clause-here c = none_here c.args.self.now c.args.node c.requires ∙ sym c.in_default.is

pub returns-clause-up_to : goal.returns-clause-up_to
returns-clause-up_to c =
    let new = roll-Found (record { children = c.push.new.self }) in
    let whole : children_of new ≡ c.push.new.self.items = λ i. (out-roll-Found (record { children = c.push.new.self }) i).children.items in
    put_up_to c.args.self.now new c.args.node c.requires c.in-Some.occurrences (whole ∙ c.in_ok-push.ensures.items)

pub returns-clause-here : goal.returns-clause-here
returns-clause-here c =
    let new = roll-Found (record { children = c.push.new.self }) in
    let whole : children_of new ≡ c.push.new.self.items = λ i. (out-roll-Found (record { children = c.push.new.self }) i).children.items in
    put_here c.args.self.now new c.args.node c.requires c.in-Some.occurrences (whole ∙ c.in_ok-push.ensures.items) ∙ sym c.in-Some.is

pub returns-clause-before : goal.returns-clause-before
returns-clause-before c =
    let new = roll-Found (record { children = c.push.new.self }) in
    let whole : children_of new ≡ c.push.new.self.items = λ i. (out-roll-Found (record { children = c.push.new.self }) i).children.items in
    put_before c.args.self.now new c.args.node c.requires c.in-Some.occurrences (whole ∙ c.in_ok-push.ensures.items)
