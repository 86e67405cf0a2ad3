use Rattle.std.proofs.Common.{◌≡◌, true, length, refl, sym, ap, ◌∙◌, subst, ℕ, List, arith, rules}
use Rattle.gw_er7.specs.Content.{is_segment_line, first_bad}
use Rattle.gw_er7.specs.own.Separators.{Lies}
use Rattle.gw_er7.proofs.Gathers.{segment_long, lies_first_line, bad_behind, line_fits, one_more, none_left, place_fits, end_fits, place_after, behind_after}
use Rattle.gw_er7.proofs.reader.take_others.Goals as goal

pub loop-line-init : goal.loop-line-init
loop-line-init c = record { taken = c.requires.taken; content = refl; read = refl; bad = refl; all = omega arith; lie = c.requires.lie; room = omega arith; later = λ some. omega arith; few = omega arith }

pub next_line-requires-clause-room : goal.next_line-requires-clause-room
next_line-requires-clause-room c = place_fits 18446744073709551615 _ _ _ c.requires.room c.requires.later c.loop-line.invariant.room

pub next_line-requires-clause-later : goal.next_line-requires-clause-later
next_line-requires-clause-later c = end_fits 18446744073709551615 _ _ _ _ c.requires.room c.requires.later c.loop-line.invariant.later

pub take_segment-requires-clause-named : goal.take_segment-requires-clause-named
take_segment-requires-clause-named c =
    let good : is_segment_line c.args.classes.now.field c.in-Some.line.bytes.now ≡ true = search rules in
    segment_long c.args.classes.now.field _ good

pub take_segment-requires-clause-room : goal.take_segment-requires-clause-room
take_segment-requires-clause-room c =
    let was = c.loop-line.invariant in
    let begins = c.in-Some.ensures in
    line_fits c.args.at (length c.args.bytes.now) c.loop-line.here (length c.loop-line.rest.now) c.in-Some.line.at (length c.in-Some.line.bytes.now) _ c.requires.later (omega (arith, was.few)) was.later begins.shorter begins.within

pub take_segment-requires-clause-lies : goal.take_segment-requires-clause-lies
take_segment-requires-clause-lies c =
    let was = c.loop-line.invariant in
    subst (λ (bytes : List ℕ). Lies bytes c.in-Some.line.at c.in-Some.line.bytes.now) (sym was.content) (lies_first_line c.args.taken.now.content.now _ _ _ _ c.in-Some.ensures was.lie).0

pub loop-line-preserved : goal.loop-line-preserved
loop-line-preserved c =
    let was = c.loop-line.invariant in
    let begins = c.in-Some.ensures in
    let good : is_segment_line c.args.classes.now.field c.in-Some.line.bytes.now ≡ true = search rules in
    record {
      taken = c.in_ok-take_segment.ensures.taken;
      content = c.in_ok-take_segment.ensures.content ∙ was.content;
      read = one_more c.args.classes.now _ _ _ _ _ _ begins.lines c.in_ok-take_segment.ensures.segments was.read;
      bad = was.bad ∙ bad_behind c.args.classes.now.field _ _ _ _ begins good;
      all = omega (arith, was.all, ap length begins.lines);
      lie = (lies_first_line c.args.taken.now.content.now _ _ _ _ begins was.lie).1;
      room = place_after _ _ _ _ c.in-Some.line.at (length c.in-Some.line.bytes.now) _ was.later begins.shorter begins.within;
      later = behind_after _ _ _ _ c.in-Some.line.at (length c.in-Some.line.bytes.now) _ was.later begins.shorter begins.later;
      few = omega (arith, was.few, begins.shorter);
    }

pub loop-line-smaller : goal.loop-line-smaller
loop-line-smaller c = c.in-Some.ensures.shorter

pub returns-clause-segments : goal.returns-clause-segments
returns-clause-segments c =
    let was = c.loop-line.invariant in
    record { good = was.bad ∙ ap (first_bad c.args.classes.now.field) c.in_default.ensures; long = omega (arith, was.all, ap length c.in_default.ensures) }

pub returns-clause-takes : goal.returns-clause-takes
returns-clause-takes c =
    let was = c.loop-line.invariant in
    record { taken = was.taken; content = was.content; segments = none_left c.args.classes.now _ _ _ c.in_default.ensures was.read }
