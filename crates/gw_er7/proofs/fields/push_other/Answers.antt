use Rattle.std.proofs.Common.{ap, sym, ◌∙◌, ◌++◌, ◌∷◌, ◌+◌, ◌-◌, ◌<◌, [], List, ℕ, length, append_assoc, arith}
use Rattle.std.proofs.lemmas.List.{map-append, length-append}
use Rattle.std.proofs.Math.Seq.{take-append_seam}
use Rattle.gw_er7.specs.declared.delimiters.Delimiters.{Delimiters}
use Rattle.gw_er7.specs.declared.spans.TextSpan.{TextSpan}
use Rattle.gw_er7.specs.Message.{numbers}
use Rattle.gw_er7.specs.Entries.{Entry}
use Rattle.gw_er7.specs.Text.{canon}
use Rattle.gw_er7.specs.View.{entry_of, entries_of}
use Rattle.gw_er7.specs.own.Separators.{bytes_of, held_in}
use Rattle.gw_er7.proofs.Separated.{some_value}
use Rattle.gw_er7.proofs.Slices.{held_put}
use Rattle.gw_er7.proofs.fields.push_other.Goals as goal

pub returns-clause-kept : goal.returns-clause-kept
returns-clause-kept c =
    let old = c.args.taken.now in
    let new = c.push_canonical.new.text.items in
    let d = c.args.classes.now in
    let raw = c.args.raw.now in
    let taken = c.in_ok-push_canonical.ensures ∙ ap (λ (d : Delimiters). old.others.items ++ canon d raw) c.delimiters.ensures in
    let all = ap (λ (x : List ℕ). old.content.now ++ x) taken ∙ sym (append_assoc old.content.now old.others.items (canon d raw)) in
    let l : TextSpan = record { place = c.args.place; from = length old.content.now + c.len-from.result; len = c.len.result - c.len-from.result } in
    let put = held_put (bytes_of old) (canon d raw) (old.content.now ++ new) old.spans c.push.new.self l c.requires.inside all c.in_ok-push.ensures.ok (omega (arith, c.len-from.ensures, length-append old.content.now old.others.items)) (omega (arith, c.len-from.ensures, c.len.ensures, ap length taken, length-append old.others.items (canon d raw))) in
    rw put (take-append_seam (held_in old) (record { place = c.args.place; text = canon d raw } ∷ []))

pub returns-clause-entries : goal.returns-clause-entries
returns-clause-entries c =
    let old = c.args.taken.now in
    let new = c.push_canonical.new.text.items in
    let d = c.args.classes.now in
    let raw = c.args.raw.now in
    let taken = c.in_ok-push_canonical.ensures ∙ ap (λ (d : Delimiters). old.others.items ++ canon d raw) c.delimiters.ensures in
    let all = ap (λ (x : List ℕ). old.content.now ++ x) taken ∙ sym (append_assoc old.content.now old.others.items (canon d raw)) in
    let l : TextSpan = record { place = c.args.place; from = length old.content.now + c.len-from.result; len = c.len.result - c.len-from.result } in
    let put = held_put (bytes_of old) (canon d raw) (old.content.now ++ new) old.spans c.push.new.self l c.requires.inside all c.in_ok-push.ensures.ok (omega (arith, c.len-from.ensures, length-append old.content.now old.others.items)) (omega (arith, c.len-from.ensures, c.len.ensures, ap length taken, length-append old.others.items (canon d raw))) in
    let there : 0 < length raw = c.requires.some in
    ap entries_of put ∙ map-append entry_of (held_in old) (record { place = c.args.place; text = canon d raw } ∷ [])
    ∙ ap (λ (es : List Entry). entries_of (held_in old) ++ es) (sym (some_value d (numbers c.args.place) raw there))
