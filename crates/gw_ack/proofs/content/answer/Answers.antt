use Rattle.std.proofs.Common.{◌≡◌, ◌++◌, ◌∙◌, [], List, ℕ, ap, sym, subst, rules, arith}
use Rattle.gw_er7.specs.Message.{SegmentValue, IsMessage}
use Rattle.gw_er7.specs.Reading.{Reads}
use Rattle.gw_er7.specs.Written.{written}
use Rattle.gw_er7.proofs.Again.{reads_again}
use Rattle.gw_ack.specs.Answers.{ack_of, acknowledged, msh, reason, said_by}
use Rattle.gw_ack.proofs.Lines.{message_is, written-append}
use Rattle.gw_ack.proofs.Says.{few, says}
use Rattle.gw_ack.proofs.content.answer.Goals as goal

pub returns-clause-read : goal.returns-clause-read
returns-clause-read c =
    let few = few c.args.reply in
    let header = c.args.header.now in
    let begun : List SegmentValue = acknowledged (ack_of c.args.reply) header c.args.stamp c.args.arrival in
    let message : List SegmentValue = said_by header c.args.stamp c.args.arrival c.args.reply in
    let nothing : c.in_ok-content.content.items ≡ [] = search rules in
    let first = rw c.ack.ensures at c.in_ok-write_opening.ensures.lawful in
    let lines = rw (c.ack.ensures, nothing) at c.in_ok-write_opening.ensures.lines in
    let lawful : IsMessage message = message_is begun (reason c.args.reply) first c.in_ok-write_reason.ensures.lawful in
    let whole : c.write_reason.new.content.items ≡ written message =
    c.in_ok-write_reason.ensures.line ∙ ap (λ (l : List ℕ). l ++ written (reason c.args.reply)) lines ∙ sym (written-append begun (reason c.args.reply)) in
    record {
      message = message;
      lawful = lawful;
      reads = subst (λ (content : List ℕ). Reads content message) (sym whole) (reads_again message lawful (omega (arith, few)));
      says = says (msh header c.args.stamp c.args.arrival) header.control (reason c.args.reply) (ack_of c.args.reply);
    }
