use Rattle.std.proofs.Common.{◌≡◌, ◌+◌, ◌-◌, false, take, drop, subst, sym, arith}
use Rattle.std.specs.List.{list_any}
use Rattle.gw_er7.specs.declared.delimiters.Delimiters.{Delimiters}
use Rattle.gw_er7.specs.own.Separators.{is_mark}
use Rattle.gw_er7.proofs.Scans.{fails_on}
use Rattle.gw_er7.proofs.fields.plain_behind.Goals as goal

pub loop-at-preserved : goal.loop-at-preserved
loop-at-preserved c =
    let d = c.args.classes.now in
    let bytes = c.args.bytes.now in
    let at = c.loop-at.at in
    let none = subst (λ (d : Delimiters). list_any (is_mark d) (take (at + 32 - at) (drop at bytes)) ≡ false) c.delimiters-delimiters.ensures (sym c.if-has_mark.ensures) in
    record { within = omega arith; plain = fails_on (is_mark d) bytes at (at + 32) c.loop-at.invariant.plain none (omega arith) }
