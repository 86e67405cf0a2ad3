use Rattle.std.proofs.Common.{ap, sym, ◌∙◌, ◌++◌, ◌∷◌, ◌<◌, ◌≡◌, [], List, ℕ, length, refl, arith, rules}
use Rattle.std.proofs.lemmas.List.{map-append}
use Rattle.std.proofs.Math.Seq.{take-append_seam}
use Rattle.gw_er7.specs.declared.spans.TextSpan.{TextSpan}
use Rattle.gw_er7.specs.Message.{numbers}
use Rattle.gw_er7.specs.Entries.{Entry}
use Rattle.gw_er7.specs.Text.{canon}
use Rattle.gw_er7.specs.View.{entry_of, entries_of}
use Rattle.gw_er7.specs.own.Separators.{bytes_of, held_in}
use Rattle.gw_er7.proofs.Separated.{some_value}
use Rattle.gw_er7.proofs.Lies.{held_lies, lies_grown, plain_self}
use Rattle.gw_er7.proofs.fields.push_value.Goals as goal

pub returns-clause-kept : goal.returns-clause-kept
returns-clause-kept c =
    let old = c.args.taken.now in
    let raw = c.args.raw.now in
    let l : TextSpan = record { place = c.args.place; from = c.args.at; len = length raw } in
    let lies = lies_grown old.content.now old.others.items c.args.at raw c.requires.lies in
    let put = held_lies (bytes_of old) c.args.at raw old.spans c.push_in.new.self l lies c.in_ok-push_in.ensures.ok refl refl in
    rw put (take-append_seam (held_in old) (record { place = c.args.place; text = raw } ∷ []))

pub returns-clause-entries : goal.returns-clause-entries
returns-clause-entries c =
    let old = c.args.taken.now in
    let d = c.args.classes.now in
    let raw = c.args.raw.now in
    let l : TextSpan = record { place = c.args.place; from = c.args.at; len = length raw } in
    let lies = lies_grown old.content.now old.others.items c.args.at raw c.requires.lies in
    let put = held_lies (bytes_of old) c.args.at raw old.spans c.push_in.new.self l lies c.in_ok-push_in.ensures.ok refl refl in
    let there : 0 < length raw = search rules in
    let itself : canon d raw ≡ raw = plain_self d c.args.plain raw c.requires.plain (omega arith) in
    ap entries_of put ∙ map-append entry_of (held_in old) (record { place = c.args.place; text = raw } ∷ [])
    ∙ ap (λ (text : List ℕ). entries_of (held_in old) ++ (numbers c.args.place, text) ∷ []) (sym itself)
    ∙ ap (λ (es : List Entry). entries_of (held_in old) ++ es) (sym (some_value d (numbers c.args.place) raw there))
