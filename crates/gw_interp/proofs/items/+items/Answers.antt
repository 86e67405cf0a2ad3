use Rattle.std.proofs.Common.{rules, sym, ap, ◌∙◌, ◌≡◌, ◌≤◌, true, false, List, ℕ, subst, arith, ◌∷◌, []}
use Rattle.std.specs.Prelude.{flat_map}
use Rattle.gw_er7.proofs.Sequences.{first_is}
use Rattle.gw_profile.specs.Seen.{forest}
use Rattle.gw_resolve.specs.Seen.{place as seen_place}
use Rattle.gw_validate.specs.Fitting.{OccValue}
use Rattle.gw_interp.specs.Occurrences.{below, in_scope}
use Rattle.gw_interp.specs.own.Borrowed.{occurrence, scope, AreOf}
use Rattle.gw_interp.specs.own.Filling.{message_of}
use Rattle.gw_interp.specs.own.Ready.{MayBegin, Adds}
use Rattle.gw_interp.specs.own.Parts.{part_names, MayPart, PartGives, MaySegment, GivesSegment, each_names, MayEach, EachGives}
use Rattle.gw_interp.proofs.Fills.{on_ok}
use Rattle.gw_interp.proofs.Borrowing.{no_children, at_one}
use Rattle.gw_interp.proofs.Eachs.{none_below, child_begins, child_may, child_done, all_below, none_given, here_given, held, none_so, so_begins, so_may, so_adds, segments_begin, segments_may, segments_given}
use Rattle.gw_interp.proofs.Levels.{group_begins, group_may, group_gives, flat_begins, flat_may, flat_gives, next_begins, next_may, next_item, all_given}
use Rattle.gw_interp.proofs.Weights.{weight_one, weight_all, lighter_group, lighter_flat, not_heavier}
use Rattle.gw_interp.proofs.items.+items.Goals as goal

-- ---- where steps lead

pub put_below-returns-then-child-children-clause-adds : goal.put_below-returns-then-child-children-clause-adds
put_below-returns-then-child-children-clause-adds t c =
    let whole = first_is c.args.steps.now c.in-len1-up.len_at_least in
    none_given c.args.rows.now.tables c.args.part.now c.args.scope.now.items (below c.args.steps.now (occurrence c.args.from.now)) c.args.builder.now
    (ap (λ (l : List ℕ). below l (occurrence c.args.from.now)) whole
    ∙ ap (flat_map (below _)) (no_children c.args.from.now _ (omega (arith, c.if-child-children.true, c.children.ensures.count))))

pub put_below-returns-in-empty-clause-adds : goal.put_below-returns-in-empty-clause-adds
put_below-returns-in-empty-clause-adds t c =
    on_ok _ _ c.enter.result
    (here_given c.args.rows.now.tables c.args.part.now c.args.scope.now.items c.args.from.now c.args.steps.now c.args.builder.now c.enter.new.builder (omega (arith, c.in-empty.len_below)))
    c.enter.ensures.adds

pub put_below-loop-k-init : goal.put_below-loop-k-init
put_below-loop-k-init t c =
    let whole = first_is c.args.steps.now c.in-len1-up.len_at_least in
    none_below c.args.rows.now.tables c.args.part.now c.args.scope.now.items c.args.from.now _ _ c.args.builder.now c.children.ensures.lent (omega (arith, c.if-child-children.false, c.children.ensures.count)) c.requires.lawful
    (subst (λ (l : List ℕ). MayEach c.args.rows.now.tables c.args.part.now c.args.scope.now.items (below l (occurrence c.args.from.now))) whole c.requires.may)

pub put_below-put_below-requires : goal.put_below-put_below-requires
put_below-put_below-requires t c =
    let whole = first_is c.args.steps.now c.in-len1-up.len_at_least in
    let is = c.loop-k.invariant in (
      search rules,
      (
        subst (λ (w : List OccValue). AreOf (message_of w) w) (sym is.kept) c.requires.of,
        (
          c.child-each.ensures.message ∙ c.requires.from ∙ ap message_of (sym is.kept),
          (
            is.walk.done.lawful,
            (
              child_begins c.args.rows.now.tables c.args.part.now c.args.scope.now.items c.args.from.now _ _ c.loop-k.k c.child-each.result c.child-each.ensures.shows c.args.builder.now c.loop-k.builder c.loop-k.scope.items is
                  (subst (λ (l : List ℕ). MayBegin c.args.builder.now (each_names c.args.rows.now.tables c.args.part.now c.args.scope.now.items (below l (occurrence c.args.from.now)))) whole c.requires.begin),
              child_may c.args.rows.now.tables c.args.part.now c.args.scope.now.items c.args.from.now _ _ c.loop-k.k c.child-each.result c.child-each.ensures.shows c.args.builder.now c.loop-k.builder c.loop-k.scope.items is,
            ),
          ),
        ),
      ),
    )

pub put_below-loop-k-preserved : goal.put_below-loop-k-preserved
put_below-loop-k-preserved t c =
    child_done c.args.rows.now.tables c.args.part.now c.args.scope.now.items c.args.from.now _ _ c.loop-k.k c.child-each.result c.child-each.ensures.shows c.args.builder.now c.loop-k.builder c.loop-k.scope.items c.loop-k.invariant
    c.put_below.new.builder c.put_below.new.scope.items c.put_below.ensures.kept c.in_ok-put_below-in-len1-up.ensures.adds c.in_ok-put_below-in-len1-up.ensures.lawful

pub put_below-returns-after-loop-k-clause-adds : goal.put_below-returns-after-loop-k-clause-adds
put_below-returns-after-loop-k-clause-adds t c =
    let whole = first_is c.args.steps.now c.in-len1-up.len_at_least in
    subst (λ (l : List ℕ). Adds (EachGives c.args.rows.now.tables c.args.part.now c.args.scope.now.items (below l (occurrence c.args.from.now))) c.args.builder.now c.loop-k.builder) (sym whole)
    (all_below c.args.rows.now.tables c.args.part.now c.args.scope.now.items c.args.from.now _ _ c.loop-k.k c.args.builder.now c.loop-k.builder c.loop-k.scope.items (omega (arith, c.loop-k-test.false, c.count-k-end.ensures)) c.loop-k.invariant)

-- ---- at a place

pub put_each-put_below-requires : goal.put_each-put_below-requires
put_each-put_below-requires t c =
    let place = seen_place c.args.place.now in
    let walked = subst (λ (l : List OccValue). in_scope (scope l) place.out ≡ occurrence c.in-Some.from ∷ []) c.deref.ensures.value c.in-Some.ensures.walked in
    let is = at_one c.args.scope.now.items place c.in-Some.from walked ∙ ap (λ (l : List ℕ). below l (occurrence c.in-Some.from)) (sym c.deref-in-Some.ensures.value) in (
      search rules,
      (
        c.requires.of,
        (
          c.in-Some.ensures.message (message_of c.args.scope.now.items) (subst (AreOf (message_of c.args.scope.now.items)) (sym c.deref.ensures.value) c.requires.of),
          (
            c.requires.lawful,
            (
              subst (λ l. MayBegin c.args.builder.now (each_names c.args.rows.now.tables c.args.part.now c.args.scope.now.items l)) is c.requires.begin,
              subst (MayEach c.args.rows.now.tables c.args.part.now c.args.scope.now.items) is c.requires.may,
            ),
          ),
        ),
      ),
    )

-- ---- a part, where its condition holds

pub put_part-returns-then-not-is_met-clause-adds : goal.put_part-returns-then-not-is_met-clause-adds
put_part-returns-then-not-is_met-clause-adds t c =
    none_so c.args.rows.now.tables c.args.part.now (message_of c.args.scope.now.items) (scope c.args.scope.now.items) c.args.builder.now
    (held false c.args.part.now c.condition_of.result.now c.args.scope.now.items c.deref.result.now c.deref.ensures.value c.condition_of.ensures c.requires.of c.if-not-is_met.ensures)

pub put_part-put_one-requires : goal.put_part-put_one-requires
put_part-put_one-requires t c =
    let m = message_of c.args.scope.now.items in
    let os = scope c.args.scope.now.items in
    let tables = c.args.rows.now.tables in
    let is = held true c.args.part.now c.condition_of.result.now c.args.scope.now.items c.deref.result.now c.deref.ensures.value c.condition_of.ensures c.requires.of c.if-not-is_met.ensures in
    let same = sym c.deref-in-OneSegment.ensures.value in
    record {
      of = subst (λ (w : List OccValue). AreOf (message_of w) w) same c.requires.of;
      lawful = c.requires.lawful;
      begin = subst (λ p. MayBegin c.args.builder.now (part_names tables p m os)) c.in-OneSegment.is (so_begins tables c.args.part.now m os c.args.builder.now is c.requires.begin);
      may =
          subst (λ (w : List OccValue). MaySegment tables c.in-OneSegment.nodes.now c.in-OneSegment.item.now w) same
          (subst (λ p. MayPart tables p m os) c.in-OneSegment.is (so_may tables c.args.part.now m os is c.requires.may));
    }

pub put_part-put_items-requires : goal.put_part-put_items-requires
put_part-put_items-requires t c =
    let m = message_of c.args.scope.now.items in
    let os = scope c.args.scope.now.items in
    let tables = c.args.rows.now.tables in
    let is = held true c.args.part.now c.condition_of.result.now c.args.scope.now.items c.deref.result.now c.deref.ensures.value c.condition_of.ensures c.requires.of c.if-not-is_met.ensures in (
      search rules,
      (
        c.requires.of,
        (
          c.requires.lawful,
          (
            subst (λ p. MayBegin c.args.builder.now (part_names tables p m os)) c.in-Level.is (so_begins tables c.args.part.now m os c.args.builder.now is c.requires.begin),
            subst (λ p. MayPart tables p m os) c.in-Level.is (so_may tables c.args.part.now m os is c.requires.may),
          ),
        ),
      ),
    )

pub put_part-returns-in-OneSegment-clause-adds : goal.put_part-returns-in-OneSegment-clause-adds
put_part-returns-in-OneSegment-clause-adds t c =
    let m = message_of c.args.scope.now.items in
    let os = scope c.args.scope.now.items in
    let tables = c.args.rows.now.tables in
    let is = held true c.args.part.now c.condition_of.result.now c.args.scope.now.items c.deref.result.now c.deref.ensures.value c.condition_of.ensures c.requires.of c.if-not-is_met.ensures in
    on_ok _ _ c.put_one.result
    (λ a. so_adds tables c.args.part.now m os c.args.builder.now c.put_one.new.builder is
    (subst (λ p. Adds (PartGives tables p m os) c.args.builder.now c.put_one.new.builder) (sym c.in-OneSegment.is)
    (subst (λ (w : List OccValue). Adds (GivesSegment tables c.in-OneSegment.nodes.now c.in-OneSegment.item.now w) c.args.builder.now c.put_one.new.builder) c.deref-in-OneSegment.ensures.value a)))
    c.put_one.ensures.adds

pub put_part-returns-in-Level-clause-adds : goal.put_part-returns-in-Level-clause-adds
put_part-returns-in-Level-clause-adds t c =
    let m = message_of c.args.scope.now.items in
    let os = scope c.args.scope.now.items in
    let tables = c.args.rows.now.tables in
    let is = held true c.args.part.now c.condition_of.result.now c.args.scope.now.items c.deref.result.now c.deref.ensures.value c.condition_of.ensures c.requires.of c.if-not-is_met.ensures in
    on_ok _ _ c.put_items.result
    (λ a. so_adds tables c.args.part.now m os c.args.builder.now c.put_items.new.builder is
    (subst (λ p. Adds (PartGives tables p m os) c.args.builder.now c.put_items.new.builder) (sym c.in-Level.is) a))
    c.put_items.ensures.adds

-- ---- the segments of an item

pub put_segments-put_each-requires : goal.put_segments-put_each-requires
put_segments-put_each-requires t c = (
  search rules,
  (
    c.requires.of,
    (
      c.requires.lawful,
      (
        segments_begin c.args.rows.now.tables c.args.nodes.now c.args.item.now c.args.scope.now.items c.in-Some.place c.in-Some.is c.args.builder.now c.requires.begin,
        segments_may c.args.rows.now.tables c.args.nodes.now c.args.item.now c.args.scope.now.items c.in-Some.place c.in-Some.is c.requires.may,
      ),
    ),
  ),
)

pub put_segments-returns-in-Some-clause-adds : goal.put_segments-returns-in-Some-clause-adds
put_segments-returns-in-Some-clause-adds t c =
    on_ok _ _ c.put_each.result
    (segments_given c.args.rows.now.tables c.args.nodes.now c.args.item.now c.args.scope.now.items c.in-Some.place c.in-Some.is c.args.builder.now c.put_each.new.builder)
    c.put_each.ensures.adds

-- ---- one item

pub put_item-put_each-requires : goal.put_item-put_each-requires
put_item-put_each-requires t c =
    let m = message_of c.args.scope.now.items in
    let os = scope c.args.scope.now.items in
    let nodes = forest c.args.nodes.now in
    let tables = c.args.rows.now.tables in
    let smaller = lighter_group c.args.item.now c.in-Group.group c.deref.result.now c.in-Group.is c.deref.ensures.value in (
      search rules,
      (
        c.requires.of,
        (
          c.requires.lawful,
          (
            group_begins m os nodes tables c.args.item.now c.in-Group.group (forest c.nodes_within.result.now) c.deref.result.now c.in-Group.is c.nodes_within.ensures c.deref.ensures.value c.args.builder.now c.requires.begin,
            group_may m os nodes tables c.args.item.now c.in-Group.group (forest c.nodes_within.result.now) c.deref.result.now c.in-Group.is c.nodes_within.ensures c.deref.ensures.value c.requires.may,
          ),
        ),
      ),
    )

pub put_item-put_each-requires-in-Flat : goal.put_item-put_each-requires-in-Flat
put_item-put_each-requires-in-Flat t c =
    let m = message_of c.args.scope.now.items in
    let os = scope c.args.scope.now.items in
    let nodes = forest c.args.nodes.now in
    let tables = c.args.rows.now.tables in
    let smaller = lighter_flat c.args.item.now c.in-Flat.flat c.deref-in-Flat.result.now c.in-Flat.is c.deref-in-Flat.ensures.value in (
      search rules,
      (
        c.requires.of,
        (
          c.requires.lawful,
          (
            flat_begins m os nodes tables c.args.item.now c.in-Flat.flat c.deref-in-Flat.result.now c.in-Flat.is c.deref-in-Flat.ensures.value c.args.builder.now c.requires.begin,
            flat_may m os nodes tables c.args.item.now c.in-Flat.flat c.deref-in-Flat.result.now c.in-Flat.is c.deref-in-Flat.ensures.value c.requires.may,
          ),
        ),
      ),
    )

pub put_item-returns-in-Group-clause-adds : goal.put_item-returns-in-Group-clause-adds
put_item-returns-in-Group-clause-adds t c =
    on_ok _ _ c.put_each.result
    (group_gives (message_of c.args.scope.now.items) (scope c.args.scope.now.items) (forest c.args.nodes.now) c.args.rows.now.tables c.args.item.now c.in-Group.group (forest c.nodes_within.result.now) c.deref.result.now c.in-Group.is c.nodes_within.ensures c.deref.ensures.value c.args.builder.now c.put_each.new.builder)
    c.put_each.ensures.adds

pub put_item-returns-in-Flat-clause-adds : goal.put_item-returns-in-Flat-clause-adds
put_item-returns-in-Flat-clause-adds t c =
    on_ok _ _ c.put_each-in-Flat.result
    (flat_gives (message_of c.args.scope.now.items) (scope c.args.scope.now.items) (forest c.args.nodes.now) c.args.rows.now.tables c.args.item.now c.in-Flat.flat c.deref-in-Flat.result.now c.in-Flat.is c.deref-in-Flat.ensures.value c.args.builder.now c.put_each-in-Flat.new.builder)
    c.put_each-in-Flat.ensures.adds

-- ---- a level

pub put_items-put_item-requires : goal.put_items-put_item-requires
put_items-put_item-requires t c =
    let smaller : weight_one c.item-item.result ≤ weight_all c.args.items.now = not_heavier c.args.items.now c.loop-item.item-index c.item-item.result c.loop-item-test.true c.item-item.is in
    let is = c.loop-item.invariant in (
      search rules,
      (
        subst (λ (w : List OccValue). AreOf (message_of w) w) (sym is.kept) c.requires.of,
        (
          is.level.done.lawful,
          (
            next_begins c.args.nodes.now c.args.rows.now.tables c.args.items.now c.args.scope.now.items c.loop-item.item-index c.item-item.result c.args.builder.now c.loop-item.builder c.loop-item.scope.items c.loop-item-test.true c.item-item.is is c.requires.begin,
            next_may c.args.nodes.now c.args.rows.now.tables c.args.items.now c.args.scope.now.items c.loop-item.item-index c.item-item.result c.args.builder.now c.loop-item.builder c.loop-item.scope.items c.loop-item-test.true c.item-item.is is,
          ),
        ),
      ),
    )

pub put_items-loop-item-preserved : goal.put_items-loop-item-preserved
put_items-loop-item-preserved t c =
    next_item c.args.nodes.now c.args.rows.now.tables c.args.items.now c.args.scope.now.items c.loop-item.item-index c.item-item.result c.args.builder.now c.loop-item.builder c.loop-item.scope.items c.loop-item-test.true c.item-item.is c.loop-item.invariant
    c.put_item.new.builder c.put_item.new.scope.items c.put_item.ensures.kept c.in_ok-put_item.ensures.adds c.in_ok-put_item.ensures.lawful

pub put_items-returns-clause-adds : goal.put_items-returns-clause-adds
put_items-returns-clause-adds t c =
    all_given c.args.nodes.now c.args.rows.now.tables c.args.items.now c.args.scope.now.items c.loop-item.item-index c.args.builder.now c.loop-item.builder c.loop-item.scope.items c.loop-item-test.false c.loop-item.invariant
