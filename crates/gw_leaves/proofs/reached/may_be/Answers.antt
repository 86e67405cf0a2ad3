use Rattle.std.proofs.Common.{true, false, sym, ap, ◌∙◌}
use Rattle.std.specs.Prelude.{◌&&◌}
use Rattle.gw_profile.specs.Lengths.{measure}
use Rattle.gw_profile.specs.Numbered.{some_sub}
use Rattle.gw_profile.specs.Seen.{profile_value, sub as sub_value}
use Rattle.gw_leaves.specs.Leaves.{sub_values}
use Rattle.gw_leaves.specs.Reached.{may_be}
use Rattle.gw_leaves.specs.own.Comparisons.{fits}
use Rattle.gw_leaves.specs.own.Held.{is_listed}
use Rattle.gw_leaves.proofs.Filtered.{may_be_there}
use Rattle.gw_leaves.proofs.reached.may_be.Goals as goal

pub returns-then-fits : goal.returns-then-fits
returns-then-fits c =
    let s = sub_value c.in-Some.sub.now in
    let text = c.args.text.now in
    let size = c.measure.ensures ∙ ap (λ k. measure k text) c.count.ensures in
    let short = sym (c.fits.ensures ∙ ap (fits s.len) size) ∙ c.if-fits.true in
    c.is_listed.ensures ∙ ap (λ n. is_listed c.args.source.now.tables n text) c.table_of.ensures
    ∙ ap (λ b. b && is_listed c.args.source.now.tables s.table text) (sym short)
    ∙ may_be_there (profile_value c.args.source.now) s text
    ∙ ap (λ o. may_be (sub_values (profile_value c.args.source.now) (some_sub o)) text) (sym c.in-Some.is)

pub returns-else-fits : goal.returns-else-fits
returns-else-fits c =
    let s = sub_value c.in-Some.sub.now in
    let text = c.args.text.now in
    let size = c.measure.ensures ∙ ap (λ k. measure k text) c.count.ensures in
    let long = sym (c.fits.ensures ∙ ap (fits s.len) size) ∙ c.if-fits.false in
    c.if-fits.false
    ∙ ap (λ b. b && is_listed c.args.source.now.tables s.table text) (sym long)
    ∙ may_be_there (profile_value c.args.source.now) s text
    ∙ ap (λ o. may_be (sub_values (profile_value c.args.source.now) (some_sub o)) text) (sym c.in-Some.is)
