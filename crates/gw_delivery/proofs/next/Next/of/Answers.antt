use Rattle.gw_delivery.specs.Waiting.{NextState}
use Rattle.gw_delivery.proofs.Making.{next_for}
use Rattle.gw_delivery.proofs.next.Next.of.Goals as goal

pub invariant_of-result : goal.invariant_of-result
invariant_of-result g c =
    let n : NextState = record {
      receiver = c.args.found.receiver;
      name = c.args.name.now;
      from = c.args.found.from;
      place = c.args.found.place;
      bytes = c.args.bytes.items;
      history = c.longer-front.result;
    } in
    let found = rw c.front.ensures at c.longer-front.ensures.other in
    next_for g.J.Naming.before n c.args.found.history c.args.front c.place-place.ensures.found found c.requires.made c.longer-front.ensures.one
