use Rattle.std.proofs.Common.{◌≡◌, rules}
use Rattle.std.specs.Fmt.{decimal}
use Rattle.gw_ack.proofs.Joined.{msh_pieces}
use Rattle.gw_ack.proofs.content.write_msh.Goals as goal

pub returns : goal.returns
returns c =
    let number : c.as_bytes.result.now ≡ decimal c.args.arrival = search rules in
    msh_pieces c.args.header.now c.args.stamp.now c.args.arrival _ _ _ _ _ _ _ _ _ _ _ _ _ c.event.ensures number c.processing.ensures
    c.in_ok-extend_from_slice.ensures.items c.in_ok-write_parties.ensures c.in_ok-push_field.ensures c.in_ok-extend_from_slice-2.ensures.items
    c.in_ok-extend_from_slice-3.ensures.items c.in_ok-extend_from_slice-4.ensures.items c.in_ok-extend_from_slice-5.ensures.items c.in_ok-push_field-2.ensures
    c.in_ok-extend_from_slice-6.ensures.items
