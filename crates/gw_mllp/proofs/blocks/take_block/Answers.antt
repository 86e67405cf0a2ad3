use Rattle.std.proofs.Common.{◌∙◌, ap, List, ℕ, ◌++◌}
use Rattle.std.proofs.lemmas.List.{map_push}
use Rattle.gw_mllp.specs.Taken.{contents}
use Rattle.gw_mllp.proofs.Steps.{begun_open, begun_over, begun_end}
use Rattle.gw_mllp.proofs.blocks.take_block.Goals as goal

pub returns-in_ok-open_content-in-Open-clause-ok : goal.returns-in_ok-open_content-in-Open-clause-ok
returns-in_ok-open_content-in-Open-clause-ok c =
    begun_open (contents c.args.made.now.items) c.args.bytes.now c.in-Some.inner.now c.in_ok-open_content-in-Open.field-0.items c.in-Some.ensures.some c.in-Open.ensures c.in_ok-open_content-in-Open.ensures

pub returns-in-TooLong-clause-ok : goal.returns-in-TooLong-clause-ok
returns-in-TooLong-clause-ok c = begun_over (contents c.args.made.now.items) c.args.bytes.now c.in-Some.inner.now c.in-Some.ensures.some c.in-TooLong.ensures

pub returns-in_ok-push_back-in-Ends-clause-ok : goal.returns-in_ok-push_back-in-Ends-clause-ok
returns-in_ok-push_back-in-Ends-clause-ok c =
    begun_end (contents c.args.made.now.items) (contents c.push_back.new.self.items) c.args.bytes.now c.in-Some.inner.now c.in-Ends.run'.now c.in-Ends.after.now c.end_content.new.content.items
    c.in-Some.ensures.some c.in-Ends.ensures (c.in_ok-end_content-in-Ends.ensures.ok ∙ ap (λ (x : List ℕ). x ++ c.in-Ends.run'.now) c.new-content.ensures.items)
    (ap contents c.in_ok-push_back-in-Ends.ensures.items ∙ map_push _ c.args.made.now.items c.end_content.new.content)
