use Rattle.std.proofs.Common.{◌++◌, ◌∷◌, []}
use Rattle.std.specs.Int.{w32, w64, to_be_bytes}
use Rattle.gw_due.specs.Spelling.{text, receivers, how}
use Rattle.gw_due.specs.Views as view
use Rattle.gw_due.proofs.Parts.{followed, followed_two}
use Rattle.gw_due.proofs.writing.put_event.Goals as goal

pub returns-in_ok-push-in-Again : goal.returns-in_ok-push-in-Again
returns-in_ok-push-in-Again c =
    rw c.in-Again.is (followed c.put_place.result c.args.out.now.items (3 ∷ []) _ (to_be_bytes w32 c.in-Again.receiver ++ to_be_bytes w64 c.in-Again.place) _ c.in_ok-push-in-Again.ensures.items c.put_place.ensures)

pub returns-in_ok-put_place-in-Passed : goal.returns-in_ok-put_place-in-Passed
returns-in_ok-put_place-in-Passed c =
    rw c.in-Passed.is (followed_two c.put_how.result c.args.out.now.items (4 ∷ []) _ (to_be_bytes w32 c.in-Passed.receiver ++ to_be_bytes w64 c.in-Passed.place) _ (how (view.how c.in-Passed.how)) _
    c.in_ok-push-in-Passed.ensures.items c.in_ok-put_place-in-Passed.ensures c.put_how.ensures)

pub returns-in_ok-extend_from_slice-in-Accepted : goal.returns-in_ok-extend_from_slice-in-Accepted
returns-in_ok-extend_from_slice-in-Accepted c =
    rw c.in-Accepted.is (followed_two c.put_message.result c.args.out.now.items (2 ∷ []) _ (to_be_bytes w64 c.in-Accepted.number) _ (receivers c.in-Accepted.to.items ++ text c.in-Accepted.bytes.now) _
    c.in_ok-push-in-Accepted.ensures.items (rw c.to_be_bytes.ensures at c.in_ok-extend_from_slice-in-Accepted.ensures.items) (rw c.deref.ensures.value at c.put_message.ensures))
