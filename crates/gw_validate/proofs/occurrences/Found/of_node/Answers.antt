use Rattle.std.proofs.Common.{◌<◌, sym, subst, rules, List, length, Ok, Err}
use Rattle.std.specs.List.Sorted.{IsBinarySearchResult}
use Rattle.std.specs.Ordering.{nat_cmp}
use Rattle.std.proofs.lemmas.List.Sorted.{answers_always}
use Rattle.gw_validate.specs.declared.occurrences.Child.{Child}
use Rattle.gw_validate.specs.own.Occurring.{children_of}
use Rattle.gw_validate.proofs.Rows.{numbered_place, numbered_missed, searched_number}
use Rattle.gw_validate.proofs.occurrences.Found.of_node.Goals as goal

pub returns-in-Ok : goal.returns-in-Ok
returns-in-Ok c =
    let all = children_of c.args.self.now in
    let by_number = c.in-Ok.ensures.position (λ (one : Child). one.node) (answers_always _ _ _ (λ f a r g called. search rules)) in
    let there = subst (λ (l : List Child). IsBinarySearchResult (λ (one : Child). nat_cmp one.node c.args.node) l (Ok c.in-Ok.place)) c.deref.ensures.value by_number in
    let lt = subst (λ (l : List Child). c.in-Ok.place < length l) c.deref.ensures.value c.in-Ok.ensures.bound in
    numbered_place c.args.node all c.in-Ok.place c.index.result.now c.requires lt c.index.ensures (searched_number c.args.node all c.in-Ok.place c.index.result.now there c.index.ensures)

pub returns-in-Err : goal.returns-in-Err
returns-in-Err c =
    let by_number = c.in-Err.ensures.position (λ (one : Child). one.node) (answers_always _ _ _ (λ f a r g called. search rules)) in
    sym (numbered_missed c.args.node (children_of c.args.self.now) c.in-Err.field-0 c.requires
    (subst (λ (l : List Child). IsBinarySearchResult (λ (one : Child). nat_cmp one.node c.args.node) l (Err c.in-Err.field-0)) c.deref.ensures.value by_number))
