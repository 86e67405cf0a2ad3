use Rattle.std.proofs.Common.{map, take, ◌++◌, sym, ap, ◌∙◌}
use Rattle.std.proofs.Math.Seq.{take-append_seam}
use Rattle.std.proofs.lemmas.List.{append-nil, take-map}
use Rattle.gw_resolve.specs.Failures.{where_so}
use Rattle.gw_resolve.specs.Seen.{failure}
use Rattle.gw_resolve.proofs.lost.hide.Goals as goal

pub returns-then-shown : goal.returns-then-shown
returns-then-shown c = λ own later many is. is ∙ ap (λ so. own ++ where_so so later) (sym c.if-shown.true)

pub returns : goal.returns
returns c = λ own later many is.
    ap (map failure) c.truncate.ensures.items ∙ sym (take-map failure c.args.kept c.args.found.now.items) ∙ ap (take c.args.kept) is
    ∙ ap (λ n. take n (own ++ later)) (sym many) ∙ take-append_seam own later ∙ sym (append-nil own) ∙ ap (λ so. own ++ where_so so later) (sym c.if-shown.false)
