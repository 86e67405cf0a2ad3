use Rattle.std.proofs.Common.{sym, ap, ◌∙◌, arith}
use Rattle.gw_profile.specs.Numbered.{some_sub}
use Rattle.gw_profile.specs.Seen.{profile_value}
use Rattle.gw_maplang.specs.Seen.{now}
use Rattle.gw_leaves.specs.own.Comparisons.{rows_named}
use Rattle.gw_leaves.proofs.Comparing.{any_unrowed, listed_unrowed}
use Rattle.gw_leaves.proofs.given.is_unrowed.Goals as goal

pub returns-then-has_other : goal.returns-then-has_other
returns-then-has_other c = let found = c.table-rows.ensures in let map = c.map.ensures in let there = c.has_other.ensures in let is = c.if-has_other.true in grind arith

pub returns-in_default : goal.returns-in_default
returns-in_default c =
    let s = c.args.context.now in
    any_unrowed (profile_value s.source) (rows_named s.map.tables c.args.name.now) (some_sub c.args.sub)
    (let found = c.table-rows.ensures in let map = c.map.ensures in let there = c.has_other.ensures in let is = c.if-has_other.false in cc)
    (sym c.table_of.ensures ∙ ap now c.in_default.is)

pub returns : goal.returns
returns c =
    let s = c.args.context.now in
    let found = c.table-rows.ensures in
    let map = c.map.ensures in
    let there = c.has_other.ensures in
    let none = c.if-has_other.false in
    c.some_unrowed.ensures
    ∙ listed_unrowed (profile_value s.source) (rows_named s.map.tables c.args.name.now) (some_sub c.args.sub) (cc) c.in-Some.listed.now c.len_of.result (sym c.table_of.ensures ∙ ap now c.in-Some.is) c.len_of.ensures
