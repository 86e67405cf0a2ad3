use Rattle.std.proofs.Common.{◌∷◌, [], get_or}
use Rattle.gw_er7.specs.declared.start.SegmentHead.{SegmentHead}
use Rattle.gw_er7.proofs.Gathers.{three, takes_in}
use Rattle.gw_er7.proofs.Lies.{lies_skipped}
use Rattle.gw_er7.proofs.reader.take_segment.Goals as goal

pub take_fields-requires-clause-lies : goal.take_fields-requires-clause-lies
take_fields-requires-clause-lies c = lies_skipped _ c.args.line.at c.args.skip c.args.line.bytes.now _ c.behind-rest.ensures.value c.requires.lies

pub returns : goal.returns
returns c =
    let line = c.args.line.bytes.now in
    let n : SegmentHead = record { name = get_or line 0 0 ∷ get_or line 1 0 ∷ get_or line 2 0 ∷ []; first = c.len.result } in
    takes_in c.take_fields.result c.args.starts.now.items c.push.new.self.items n c.args.taken.now c.take_fields.new.taken c.args.classes.now c.args.first c.args.skip line _
    c.requires.taken c.in_ok-push.ensures.items c.len.ensures (three line c.requires.named) c.behind-rest.ensures.value c.take_fields.ensures.inside c.take_fields.ensures.content c.take_fields.ensures.kept c.take_fields.ensures.entries
