use Rattle.std.proofs.Common.{◌++◌, ◌∷◌, [], sym, ap, ◌∙◌, subst}
use Rattle.gw_profile.specs.Seen.{profile_value, forest}
use Rattle.gw_resolve.specs.Seen.{all_items}
use Rattle.gw_validate.specs.Conforming.{Conforms}
use Rattle.gw_interp.proofs.Translated.{may_begin, may_give, some_made, conforms_made}
use Rattle.gw_interp.proofs.translating.translate.Goals as goal

pub put_items-requires-clause-begin : goal.put_items-requires-clause-begin
put_items-requires-clause-begin c =
    may_begin c.args.map.now c.items.ensures.checked c.rows_of-rows.ensures.lawful c.args.tree.now.profile c.requires.takes c.args.tree.now.message c.args.tree.now.tree c.root_of.ensures.message c.root_of.ensures.conforms c.root_of.ensures.tree
    _
    (c.in_ok-push.ensures.items ∙ ap (λ l. l ++ c.root_of.result ∷ []) c.new-scope.ensures.items ∙ ap (λ r. r ∷ []) c.root_of.ensures.root)
    (forest c.nodes-nodes.result.now)
    (ap forest c.nodes-nodes.ensures.value ∙ ap (λ p. (profile_value p).nodes) (c.deref.ensures ∙ c.target.ensures))
    (all_items c.rows_of-rows.result.now.tables c.items.result.now)
    (ap (λ r. all_items r.tables c.items.result.now) c.rows_of-rows.ensures.map ∙ ap (all_items c.args.map.now.map.tables) c.items.ensures.value ∙ c.items.ensures.checked.items)
    c.new-builder.result c.new-builder.ensures

pub put_items-requires-clause-may : goal.put_items-requires-clause-may
put_items-requires-clause-may c =
    may_give c.args.map.now c.items.ensures.checked c.rows_of-rows.ensures.lawful c.args.tree.now.profile c.requires.takes c.args.tree.now.message c.args.tree.now.tree c.root_of.ensures.message c.root_of.ensures.conforms c.root_of.ensures.tree
    _
    (c.in_ok-push.ensures.items ∙ ap (λ l. l ++ c.root_of.result ∷ []) c.new-scope.ensures.items ∙ ap (λ r. r ∷ []) c.root_of.ensures.root)
    (forest c.nodes-nodes.result.now)
    (ap forest c.nodes-nodes.ensures.value ∙ ap (λ p. (profile_value p).nodes) (c.deref.ensures ∙ c.target.ensures))
    (all_items c.rows_of-rows.result.now.tables c.items.result.now)
    (ap (λ r. all_items r.tables c.items.result.now) c.rows_of-rows.ensures.map ∙ ap (all_items c.args.map.now.map.tables) c.items.ensures.value ∙ c.items.ensures.checked.items)

pub finish-requires : goal.finish-requires
finish-requires c =
    some_made c.args.map.now c.items.ensures.checked c.rows_of-rows.ensures.lawful c.args.tree.now.profile c.requires.takes c.args.tree.now.message c.args.tree.now.tree c.root_of.ensures.message c.root_of.ensures.conforms c.root_of.ensures.tree
    _
    (c.in_ok-push.ensures.items ∙ ap (λ l. l ++ c.root_of.result ∷ []) c.new-scope.ensures.items ∙ ap (λ r. r ∷ []) c.root_of.ensures.root)
    (forest c.nodes-nodes.result.now)
    (ap forest c.nodes-nodes.ensures.value ∙ ap (λ p. (profile_value p).nodes) (c.deref.ensures ∙ c.target.ensures))
    (all_items c.rows_of-rows.result.now.tables c.items.result.now)
    (ap (λ r. all_items r.tables c.items.result.now) c.rows_of-rows.ensures.map ∙ ap (all_items c.args.map.now.map.tables) c.items.ensures.value ∙ c.items.ensures.checked.items)
    c.new-builder.result c.put_items.new.builder c.new-builder.ensures c.in_ok-put_items.ensures.adds

pub returns-clause-conforms : goal.returns-clause-conforms
returns-clause-conforms c =
    subst (Conforms (profile_value c.args.map.now.target)) (sym c.finish.ensures)
    (conforms_made c.args.map.now c.items.ensures.checked c.rows_of-rows.ensures.lawful c.args.tree.now.profile c.requires.takes c.args.tree.now.message c.args.tree.now.tree c.root_of.ensures.message c.root_of.ensures.conforms c.root_of.ensures.tree
    _
    (c.in_ok-push.ensures.items ∙ ap (λ l. l ++ c.root_of.result ∷ []) c.new-scope.ensures.items ∙ ap (λ r. r ∷ []) c.root_of.ensures.root)
    (forest c.nodes-nodes.result.now)
    (ap forest c.nodes-nodes.ensures.value ∙ ap (λ p. (profile_value p).nodes) (c.deref.ensures ∙ c.target.ensures))
    (all_items c.rows_of-rows.result.now.tables c.items.result.now)
    (ap (λ r. all_items r.tables c.items.result.now) c.rows_of-rows.ensures.map ∙ ap (all_items c.args.map.now.map.tables) c.items.ensures.value ∙ c.items.ensures.checked.items)
    c.new-builder.result c.put_items.new.builder c.new-builder.ensures c.in_ok-put_items.ensures.adds)
