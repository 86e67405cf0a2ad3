use Rattle.std.proofs.Common.{◌∙◌, ap}
use Rattle.std.proofs.lemmas.List.{map_push, map-append}
use Rattle.gw_mllp.specs.Taken.{contents, tail_view}
use Rattle.gw_mllp.proofs.Steps.{adds_end}
use Rattle.gw_mllp.proofs.decoder.end_block.Goals as goal

pub returns-clause-ok : goal.returns-clause-ok
returns-clause-ok c =
    let kept = c.end_content.new.content in
    let goes = rw c.new-made.ensures.items at c.in_ok-tail.ensures.ok in
    let made = c.take_blocks.new.made.items in
    adds_end (contents c.args.waiting.now.items) (contents c.push_back_reserved.new.self.items) (contents c.append.new.self.items) (contents made) (tail_view c.in_ok-tail.tail)
    c.args.content.now.items c.args.run.now c.args.after.now kept.items c.requires.run c.requires.short c.in_ok-end_content.ensures.ok goes
    (ap contents c.push_back_reserved.ensures.items ∙ rw (c.reserve.ensures.items, c.replace.ensures.value) (map_push _ c.args.waiting.now.items kept))
    (ap contents c.in_ok-append.ensures.items ∙ map-append _ c.push_back_reserved.new.self.items made)
