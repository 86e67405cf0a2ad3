use Rattle.std.proofs.Common.{◌≡◌, ◌++◌, ◌∷◌, [], refl, sym, ap, ◌∙◌, subst, IfOk, List, ℕ, Option, arith, drop, length, HashSet, BuildHasherDefault, FoldHasher}
use Rattle.std.specs.Prelude.{if◌then◌else◌, ◌==◌, ◌||◌}
use Rattle.std.proofs.lemmas.List.{take_rest}
use Rattle.std.proofs.lemmas.Result.{IfOk-from_err}
use Rattle.gw_profile.specs.Fault.{is_among}
use Rattle.gw_profile.specs.declared.shape.Card.{Card}
use Rattle.gw_profile.specs.Seen.{forest}
use Rattle.gw_profile.specs.LookAhead.{first_names, clash, ambiguous, group_ambiguous}
use Rattle.gw_profile.specs.Nodes.{node_ambiguous, first_of_node, card_of, joined, Joins}
use Rattle.gw_profile.proofs.Rows.{ambiguous_group}
use Rattle.gw_profile.proofs.Follows.{walk_more, group_more, joins_far, behind_more, passed_within}
use Rattle.gw_profile.proofs.rules.+ambiguous.Goals as goal

abbrev Set : Type 0
Set = HashSet (List ℕ) (BuildHasherDefault FoldHasher)

pub node_ambiguous-returns-in-Group-clause-found : goal.node_ambiguous-returns-in-Group-clause-found
node_ambiguous-returns-in-Group-clause-found t c =
    let after = c.args.near.now.keys ++ joined (drop c.args.start c.args.far.now.items) in
    subst (λ (o : Option (List ℕ)). IfOk c.group_ambiguous.result (λ found. found ≡ o))
    (ap (λ l. group_ambiguous c.in-Group.group.card (forest l) after) c.deref-in-Group.ensures.value
    ∙ ambiguous_group c.in-Group.group after ∙ ap (λ n. node_ambiguous n after) (sym c.in-Group.is))
    c.group_ambiguous.ensures.found

pub ambiguous-loop-left-preserved : goal.ambiguous-loop-left-preserved
ambiguous-loop-left-preserved t c =
    let sets = c.args.far.now.items in
    let node = c.index-nodes-left.result in
    let min = (card_of node).min in
    let from : c.passed-from.result ≡ (if min == 0 then c.loop-left.from else length sets) =
    c.passed-from.ensures ∙ ap (λ (k : Card). if k.min == 0 then c.loop-left.from else length c.deref.result.now) c.card.ensures
    ∙ ap (λ n. if min == 0 then c.loop-left.from else n) (ap length (c.deref.ensures.value ∙ c.in_ok-name.ensures.kept ∙ c.loop-left.invariant.kept)) in
    let follow : Joins (first_of_node node) (if min == 0 then c.loop-left.follow.keys else []) c.put_before.new.follow.keys =
    subst (λ (s : Set). Joins (first_of_node node) (if min == 0 then s.keys else []) c.put_before.new.follow.keys) c.in_ok-name.ensures.near c.in_ok-put_before.ensures in
    let more =
    walk_more c.args.nodes.now c.loop-left.left node (c.args.follow.now.keys ++ joined (drop c.args.start sets)) (c.loop-left.follow.keys ++ joined (drop c.loop-left.from sets)) (first_of_node node)
    (c.put_before.new.follow.keys ++ joined (drop c.passed-from.result sets)) min
    c.loop-left.found c.in_ok-name.name c.or_else-found.result c.loop-left-test.true c.loop-left.invariant.within c.index-nodes-left.is c.loop-left.invariant.names c.loop-left.invariant.found
    (c.in_ok-name.ensures.found ∙ ap (λ (fs : List Set). node_ambiguous node (c.loop-left.follow.keys ++ joined (drop c.loop-left.from fs))) c.loop-left.invariant.kept)
    c.or_else-found.ensures refl refl
    (joins_far min c.loop-left.from c.passed-from.result (first_of_node node) c.loop-left.follow.keys c.put_before.new.follow.keys sets follow from) in
    let w = c.loop-left.invariant.within in
    record {
      within = omega (arith, w);
      bound = passed_within min c.loop-left.from c.passed-from.result (length sets) c.loop-left.invariant.bound from;
      kept = c.in_ok-name.ensures.kept ∙ c.loop-left.invariant.kept;
      names = more.0;
      found = more.1;
    }

pub inner_ambiguous-returns-clause-found : goal.inner_ambiguous-returns-clause-found
inner_ambiguous-returns-clause-found t c =
    c.in_ok-found.ensures.found
    ∙ ap (λ (s : List Set). ambiguous (forest c.args.nodes.now) (c.args.again.now.keys ++ joined (drop c.args.start s))) (c.in_ok-push.ensures.items ∙ ap (λ (s : Set). c.args.far.now.items ++ s ∷ []) c.replace-held.ensures.value)

pub group_ambiguous-returns-clause-found : goal.group_ambiguous-returns-clause-found
group_ambiguous-returns-clause-found t c =
    let after = c.args.near.now.keys ++ joined (drop c.args.start c.args.far.now.items) in
    subst (λ (o : Option (List ℕ)). IfOk c.inner_ambiguous.result (λ found. found ≡ o))
    (group_more c.args.card (forest c.args.nodes.now) after (c.in_ok-again.again.keys ++ joined (drop c.args.start (c.args.far.now.items ++ c.args.near.now ∷ []))) c.deref-3.result.now
    (c.deref-3.ensures.value ∙ c.in_ok-add_first_names.ensures ∙ ap (λ (l : List (List ℕ)). l ++ first_names (forest c.args.nodes.now)) c.new-first.ensures.items)
    (ap (λ (f : List (List ℕ)). clash c.args.card f after) (c.deref-3.ensures.value ∙ sym c.deref.ensures.value)
    ∙ ap (λ (s : List Set). clash c.args.card c.deref.result.now (c.args.near.now.keys ++ joined (drop c.args.start s))) (sym c.deref-2.ensures.value)
    ∙ ap (λ (s : List Set). clash c.args.card c.deref.result.now (c.args.near.now.keys ++ joined s)) (sym (take_rest c.deref-2.result.now c.args.start)) ∙ sym c.clash.ensures ∙ c.in_default.is)
    (λ x. behind_more x c.args.start c.args.far.now.items c.args.near.now c.in_ok-again.again.keys c.requires ∙ ap (λ b. is_among x after || b) (c.in_ok-again.ensures x)))
    c.inner_ambiguous.ensures.found

pub ambiguous-returns-in_err-name : goal.ambiguous-returns-in_err-name
ambiguous-returns-in_err-name t c = record { found = IfOk-from_err _ _ c.from_residual.ensures.0; kept = IfOk-from_err _ _ c.from_residual.ensures.0 }

pub ambiguous-returns-in_err-put_before : goal.ambiguous-returns-in_err-put_before
ambiguous-returns-in_err-put_before t c = record { found = IfOk-from_err _ _ c.from_residual-in_err-put_before.ensures.0; kept = IfOk-from_err _ _ c.from_residual-in_err-put_before.ensures.0 }

pub group_ambiguous-returns-in_err-add_first_names : goal.group_ambiguous-returns-in_err-add_first_names
group_ambiguous-returns-in_err-add_first_names t c = record { found = IfOk-from_err _ _ c.from_residual.ensures.0; kept = IfOk-from_err _ _ c.from_residual.ensures.0; near = IfOk-from_err _ _ c.from_residual.ensures.0 }

pub group_ambiguous-returns-in_err-again : goal.group_ambiguous-returns-in_err-again
group_ambiguous-returns-in_err-again t c = record { found = IfOk-from_err _ _ c.from_residual-in_err-again.ensures.0; kept = IfOk-from_err _ _ c.from_residual-in_err-again.ensures.0; near = IfOk-from_err _ _ c.from_residual-in_err-again.ensures.0 }

pub inner_ambiguous-returns-in_err-found : goal.inner_ambiguous-returns-in_err-found
inner_ambiguous-returns-in_err-found t c = record { found = IfOk-from_err _ _ c.from_residual-in_err-found.ensures.0; kept = IfOk-from_err _ _ c.from_residual-in_err-found.ensures.0; near = IfOk-from_err _ _ c.from_residual-in_err-found.ensures.0 }

pub inner_ambiguous-returns-in_err-push : goal.inner_ambiguous-returns-in_err-push
inner_ambiguous-returns-in_err-push t c = record { found = IfOk-from_err _ _ c.from_residual.ensures.0; kept = IfOk-from_err _ _ c.from_residual.ensures.0; near = IfOk-from_err _ _ c.from_residual.ensures.0 }
