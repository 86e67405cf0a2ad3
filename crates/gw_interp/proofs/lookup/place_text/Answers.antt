use Rattle.std.proofs.Common.{◌∙◌, sym, subst, map}
use Rattle.gw_resolve.specs.Seen.{leaf, alternative}
use Rattle.gw_maplang.specs.Seen.{now}
use Rattle.gw_interp.specs.own.Sourced.{walks, FirstGives}
use Rattle.gw_interp.proofs.InTurn.{settled, unsettled}
use Rattle.gw_interp.proofs.lookup.place_text.Goals as goal

pub returns-then-settles : goal.returns-then-settles
returns-then-settles c = λ m of.
    settled (walks m c.args.reading.now) (record { line = c.args.at.now.line; leaf = leaf c.args.rows.now.tables c.args.at.now.leaf }) (map (alternative c.args.rows.now.tables) c.args.at.now.others.items)
    (now c.leaf_text-own.result) (sym c.settles.ensures ∙ c.if-settles.true) (c.leaf_text-own.ensures m of)

pub returns : goal.returns
returns c = λ m of.
    let w = walks m c.args.reading.now in
    let found = now c.first_text.result in
    unsettled w (record { line = c.args.at.now.line; leaf = leaf c.args.rows.now.tables c.args.at.now.leaf }) (map (alternative c.args.rows.now.tables) c.args.at.now.others.items)
    (now c.leaf_text-own.result) found (sym c.settles.ensures ∙ c.if-settles.false) (c.leaf_text-own.ensures m of)
    (subst (λ l. FirstGives w (map (alternative c.args.rows.now.tables) l) found) c.deref.ensures.value (c.first_text.ensures m of))
