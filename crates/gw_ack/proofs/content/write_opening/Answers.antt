use Rattle.std.proofs.Common.{◌≡◌, ◌++◌, ◌∷◌, [], ℕ, List, codes, refl, sym, ap, ◌∙◌, append_assoc}
use Rattle.gw_er7.specs.Entries.{Entry}
use Rattle.gw_er7.specs.Written.{closed_line, written}
use Rattle.gw_ack.specs.Answers.{ack_text, msh, msa, segment}
use Rattle.gw_ack.proofs.AnswerRows.{msh_rows, msa_rows}
use Rattle.gw_ack.proofs.Lines.{header_is, in_ok, line_is, on_ok, other_is, written-append}
use Rattle.gw_ack.proofs.content.write_opening.Goals as goal

pub returns-clause-lawful : goal.returns-clause-lawful
returns-clause-lawful c =
    let first = msh_rows c.args.header.now c.args.stamp.now c.args.arrival c.control.ensures.header c.digits.ensures.stamp c.ranges.arrival.fits in
    let second = msa_rows c.args.ack c.args.header.now.control c.control.ensures.header.control in
    in_ok c.write_msa.result _ (
      header_is (msh c.args.header.now c.args.stamp.now c.args.arrival) first,
      (other_is (codes "MSA") (msa (ack_text c.args.ack) c.args.header.now.control) refl refl second, tt),
    )

pub returns-clause-lines : goal.returns-clause-lines
returns-clause-lines c =
    let first = msh_rows c.args.header.now c.args.stamp.now c.args.arrival c.control.ensures.header c.digits.ensures.stamp c.ranges.arrival.fits in
    let second = msa_rows c.args.ack c.args.header.now.control c.control.ensures.header.control in
    let m : List Entry = msh c.args.header.now c.args.stamp.now c.args.arrival in
    let a : List Entry = msa (ack_text c.args.ack) c.args.header.now.control in
    let front = rw c.digits.ensures.value at c.in_ok-write_msh.ensures in
    let behind = rw c.control.ensures.value at c.write_msa.ensures in
    let both : closed_line (codes "MSH") m ++ closed_line (codes "MSA") a ≡ written (segment (codes "MSH") m ∷ segment (codes "MSA") a ∷ []) =
    ap (λ (l : List ℕ). l ++ closed_line (codes "MSA") a) (line_is (codes "MSH") m first)
    ∙ ap (λ (l : List ℕ). written (segment (codes "MSH") m ∷ []) ++ l) (line_is (codes "MSA") a second)
    ∙ sym (written-append (segment (codes "MSH") m ∷ []) (segment (codes "MSA") a ∷ [])) in
    on_ok c.write_msa.result _ _
    (λ e. e ∙ ap (λ (l : List ℕ). l ++ closed_line (codes "MSA") a) front
    ∙ append_assoc c.args.content.now.items (closed_line (codes "MSH") m) (closed_line (codes "MSA") a)
    ∙ ap (λ (l : List ℕ). c.args.content.now.items ++ l) both)
    behind
