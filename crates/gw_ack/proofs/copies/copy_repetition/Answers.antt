use Rattle.std.proofs.Common.{◌≡◌, ◌-◌, ◌++◌, ℕ, List, length, ap, ◌∙◌, arith, rules}
use Rattle.std.proofs.lemmas.List.{length-append}
use Rattle.std.specs.FinMap as texts
use Rattle.gw_er7.specs.Message.{first_field}
use Rattle.gw_er7.specs.Written.{repetition_text}
use Rattle.gw_ack.specs.Headers.{first_repetition}
use Rattle.gw_ack.proofs.Copying.{all_written, lies_measured}
use Rattle.gw_ack.proofs.Lawful.{repetition_is_lawful}
use Rattle.gw_ack.proofs.copies.copy_repetition.Goals as goal

pub returns-clause-behind : goal.returns-clause-behind
returns-clause-behind c =
    let s = c.args.segment.now in
    let lawful = repetition_is_lawful (first_field s.name) c.args.field (texts.entries s.at) (texts.entries_sorted s.at) c.value_count-values.ensures.segment.each in
    c.in_ok-behind.ensures.behind ∙ ap (λ (l : List ℕ). c.args.bytes.now.items ++ l) (all_written (first_repetition c.args.field (texts.entries s.at)) lawful)

pub returns-clause-lies : goal.returns-clause-lies
returns-clause-lies c =
    let old : List ℕ = c.args.bytes.now.items in
    let text : List ℕ = repetition_text (first_repetition c.args.field (texts.entries c.args.segment.now.at)) in
    let behind : c.push_repetition.new.out.items ≡ old ++ text = returns-clause-behind c in
    let at : c.len-from.result ≡ length old = search rules in
    let all : c.len.result ≡ length c.push_repetition.new.out.items = search rules in
    lies_measured old text c.push_repetition.new.out.items (record { from = c.len-from.result; len = c.len.result - c.len-from.result }) behind at
    (omega (arith, at, all, ap length behind, length-append old text))
