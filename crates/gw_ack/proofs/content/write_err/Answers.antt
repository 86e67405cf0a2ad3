use Rattle.std.proofs.Common.{◌++◌, ℕ, List, codes, map, refl, sym, ap, subst, ◌∙◌, arith}
use Rattle.std.specs.Prelude.{T}
use Rattle.std.specs.List.{AllByRecursion}
use Rattle.std.specs.Ordering.{nat_cmp}
use Rattle.std.specs.Cmp.Lexicographic.{slice_cmp}
use Rattle.std.specs.FinMap.{is_sorted}
use Rattle.gw_er7.specs.Entries.{Entry}
use Rattle.gw_er7.specs.Message.{IsEntry}
use Rattle.gw_er7.specs.Written.{closed_line}
use Rattle.gw_ack.specs.Answers.{err}
use Rattle.gw_ack.specs.Seen.{rows}
use Rattle.gw_ack.proofs.AnswerRows.{err_rows}
use Rattle.gw_ack.proofs.Lines.{in_ok, line_is, on_ok, other_is}
use Rattle.gw_ack.proofs.content.write_err.Goals as goal

pub write_segment-requires-clause-sorted : goal.write_segment-requires-clause-sorted
write_segment-requires-clause-sorted c =
    let is = ap rows c.deref.ensures.value ∙ c.in_ok-err.ensures c.requires.number in
    let lawful = err_rows (map (λ part. part.now) c.args.location.now) c.args.code c.requires.location (omega (arith, c.ranges.code.fits)) in
    subst (λ (es : List Entry). T (is_sorted (slice_cmp nat_cmp) es)) (sym is) lawful.sorted

pub write_segment-requires-clause-each : goal.write_segment-requires-clause-each
write_segment-requires-clause-each c =
    let is = ap rows c.deref.ensures.value ∙ c.in_ok-err.ensures c.requires.number in
    let lawful = err_rows (map (λ part. part.now) c.args.location.now) c.args.code c.requires.location (omega (arith, c.ranges.code.fits)) in
    subst (λ (es : List Entry). AllByRecursion (IsEntry 1) es) (sym is) lawful.each

pub returns-clause-lawful : goal.returns-clause-lawful
returns-clause-lawful c =
    let lawful = err_rows (map (λ part. part.now) c.args.location.now) c.args.code c.requires.location (omega (arith, c.ranges.code.fits)) in
    in_ok c.write_segment.result _ (other_is (codes "ERR") (err (map (λ part. part.now) c.args.location.now) c.args.code) refl refl lawful, tt)

pub returns-clause-line : goal.returns-clause-line
returns-clause-line c =
    let is = ap rows c.deref.ensures.value ∙ c.in_ok-err.ensures c.requires.number in
    let lawful = err_rows (map (λ part. part.now) c.args.location.now) c.args.code c.requires.location (omega (arith, c.ranges.code.fits)) in
    let line = ap (closed_line (codes "ERR")) is ∙ line_is (codes "ERR") (err (map (λ part. part.now) c.args.location.now) c.args.code) lawful in
    on_ok c.write_segment.result _ _ (λ e. e ∙ ap (λ (l : List ℕ). c.args.content.now.items ++ l) line) c.write_segment.ensures
