use Rattle.std.proofs.Common.{◌≡◌, ◌+◌, ◌-◌, refl, sym, ap, ◌∙◌, ◌++◌, ◌∷◌, List, ℕ, length, take, drop, get_or, subst, arith}
use Rattle.std.proofs.lemmas.List.{length-append, length-take, take-append-drop, take_all, take_rest}
use Rattle.gw_er7.specs.Message.{numbers}
use Rattle.gw_er7.specs.Entries.{Entry}
use Rattle.gw_er7.specs.own.Separators.{held_in, taken_by, separators, IsNextValue, Lies}
use Rattle.gw_er7.proofs.Lies.{lies_first, lies_behind}
use Rattle.gw_er7.proofs.Lying.{keeps_on}
use Rattle.gw_er7.proofs.Marks.{all_clear, all_plain, next_clear, next_plain}
use Rattle.gw_er7.proofs.Separated.{value_last, value_taken, later_less, rest_first}
use Rattle.gw_er7.proofs.fields.take_values.Goals as goal

pub loop-rest-init : goal.loop-rest-init
loop-rest-init c =
    let old = c.args.taken.now in
    record {
      inside = c.requires.inside;
      content = refl;
      kept = take_all (length (held_in old)) (held_in old) (omega arith);
      read = ap (λ (es : List Entry). taken_by old ++ es) (rest_first c.args.classes.now c.args.first c.args.bytes.now);
      lies = c.requires.lies;
      field = omega (arith, c.requires.first);
      rep = omega arith;
      comp = omega arith;
      sub = omega arith;
    }

pub push_value-requires-clause-plain : goal.push_value-requires-clause-plain
push_value-requires-clause-plain c = all_plain c.args.classes.now c.loop-rest.rest.now c.plain_in-plain.result c.plain_in-plain.ensures (omega arith)

pub returns-then-plain-rest-clause-entries : goal.returns-then-plain-rest-clause-entries
returns-then-plain-rest-clause-entries c =
    let d = c.args.classes.now in
    let place = c.loop-rest.place in
    let rest = c.loop-rest.rest.now in
    let last = all_clear d rest c.plain_in-plain.result c.plain_in-plain.ensures (omega arith) in
    value_last d place.field place.rep place.comp place.sub rest rest (taken_by c.loop-rest.taken) (taken_by c.push_value.new.taken) _ last c.loop-rest.invariant.read c.in_ok-push_value.ensures.entries

pub push_value-requires-then-is_separator-clause-lies : goal.push_value-requires-then-is_separator-clause-lies
push_value-requires-then-is_separator-clause-lies c =
    let rest = c.loop-rest.rest.now in
    let k = c.plain_in-plain.result in
    subst (λ (bytes : List ℕ). Lies bytes c.loop-rest.here (take k rest)) (sym c.loop-rest.invariant.content)
    (lies_first _ c.loop-rest.here rest (take k rest) (drop k rest) (sym (take-append-drop k rest)) c.loop-rest.invariant.lies)

pub push_value-requires-then-is_separator-clause-plain : goal.push_value-requires-then-is_separator-clause-plain
push_value-requires-then-is_separator-clause-plain c = next_plain c.args.classes.now c.loop-rest.rest.now c.plain_in-plain.result c.plain_in-plain.ensures (omega arith)

pub loop-rest-preserved-then-is_separator : goal.loop-rest-preserved-then-is_separator
loop-rest-preserved-then-is_separator c =
    let d = c.args.classes.now in
    let place = c.loop-rest.place in
    let bytes = c.loop-rest.rest.now in
    let k = c.plain_in-plain.result in
    let behind = take (length bytes - (k + 1)) (drop (k + 1) bytes) in
    let next = subst (λ (behind : List ℕ). IsNextValue (separators d) bytes (take k bytes) (get_or bytes k 0) behind) (sym (take_rest bytes (k + 1)))
    (next_clear d bytes k c.plain_in-plain.ensures (omega arith) (sym c.if-is_separator.ensures)) in
    let short = later_less _ _ _ _ _ next in
    let long : length (take k bytes) ≡ k = omega (arith, length-take k bytes) in
    record {
      inside = c.in_ok-push_value-2.ensures.inside;
      kept = keeps_on (held_in c.args.taken.now) (held_in c.loop-rest.taken) (held_in c.push_value-then-is_separator.new.taken) c.loop-rest.invariant.kept c.in_ok-push_value-2.ensures.kept;
      read = value_taken d place.field place.rep place.comp place.sub (numbers c.next_place-place.result) bytes (take k bytes) (get_or bytes k 0) behind
          (taken_by c.loop-rest.taken) (taken_by c.push_value-then-is_separator.new.taken) _ next c.next_place-place.ensures.next c.loop-rest.invariant.read c.in_ok-push_value-2.ensures.entries;
      content = c.in_ok-push_value-2.ensures.content ∙ c.loop-rest.invariant.content;
      lies = subst (λ (n : ℕ). Lies c.args.taken.now.content.now (c.loop-rest.here + (n + 1)) behind) long
          (lies_behind c.args.taken.now.content.now c.loop-rest.here bytes (take k bytes) (get_or bytes k 0) behind next.whole c.loop-rest.invariant.lies);
      field = omega (arith, short, c.next_place-place.ensures.field, c.loop-rest.invariant.field);
      rep = omega (arith, short, c.next_place-place.ensures.rep, c.loop-rest.invariant.rep);
      comp = omega (arith, short, c.next_place-place.ensures.comp, c.loop-rest.invariant.comp);
      sub = omega (arith, short, c.next_place-place.ensures.sub, c.loop-rest.invariant.sub);
    }

pub returns-in_default-clause-entries : goal.returns-in_default-clause-entries
returns-in_default-clause-entries c =
    let place = c.loop-rest.place in
    let one = rw c.in_default.is at c.in_ok-separator.ensures.entries in
    value_last c.args.classes.now place.field place.rep place.comp place.sub c.loop-rest.rest.now one.raw (taken_by c.loop-rest.taken) (taken_by c.take_other.new.taken) _ one.cut c.loop-rest.invariant.read one.read

pub loop-rest-preserved : goal.loop-rest-preserved
loop-rest-preserved c =
    let place = c.loop-rest.place in
    let bytes = c.loop-rest.rest.now in
    let one = rw c.in-Some.is at c.in_ok-separator.ensures.entries in
    let next = one.cut in
    let short = later_less _ _ _ _ _ next in
    let on : length one.raw + 1 ≡ length bytes - length c.in-Some.later.now = omega (arith, ap length next.whole, length-append one.raw (c.in-Some.separator ∷ c.in-Some.later.now)) in
    record {
      inside = c.in_ok-separator.ensures.inside;
      kept = keeps_on (held_in c.args.taken.now) (held_in c.loop-rest.taken) (held_in c.take_other.new.taken) c.loop-rest.invariant.kept c.in_ok-separator.ensures.kept;
      read = value_taken c.args.classes.now place.field place.rep place.comp place.sub (numbers c.next_place-place-in-loop-rest.result) bytes one.raw c.in-Some.separator c.in-Some.later.now
          (taken_by c.loop-rest.taken) (taken_by c.take_other.new.taken) _ next c.next_place-place-in-loop-rest.ensures.next c.loop-rest.invariant.read one.read;
      content = c.in_ok-separator.ensures.content ∙ c.loop-rest.invariant.content;
      lies = subst (λ (n : ℕ). Lies c.args.taken.now.content.now (c.loop-rest.here + n) c.in-Some.later.now) on
          (lies_behind c.args.taken.now.content.now c.loop-rest.here bytes one.raw c.in-Some.separator c.in-Some.later.now next.whole c.loop-rest.invariant.lies);
      field = omega (arith, short, c.next_place-place-in-loop-rest.ensures.field, c.loop-rest.invariant.field);
      rep = omega (arith, short, c.next_place-place-in-loop-rest.ensures.rep, c.loop-rest.invariant.rep);
      comp = omega (arith, short, c.next_place-place-in-loop-rest.ensures.comp, c.loop-rest.invariant.comp);
      sub = omega (arith, short, c.next_place-place-in-loop-rest.ensures.sub, c.loop-rest.invariant.sub);
    }
