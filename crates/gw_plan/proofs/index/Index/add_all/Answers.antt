use Rattle.std.proofs.Common.{◌≡◌, ◌≤◌, ◌+◌, ◌++◌, sym, subst, arith, map, length}
use Rattle.std.specs.Prelude.{not, false, true}
use Rattle.std.proofs.lemmas.List.{length-map}
use Rattle.gw_plan.specs.Senders.{again}
use Rattle.gw_plan.specs.Index.{AreFound, numbered}
use Rattle.gw_plan.specs.Seen.{now_all}
use Rattle.gw_plan.proofs.Slots.{taken_by}
use Rattle.gw_plan.proofs.Adding.{Adding, now_take, now_drop, refused, one_more, none_again, all_found}
use Rattle.gw_plan.proofs.index.Index.add_all.Goals as goal

pub returns-then-not-branch-clause-adds : goal.returns-then-not-branch-clause-adds
returns-then-not-branch-clause-adds c slots code event z p =
    let so_far = subst (λ items. Adding c.args.self.now c.loop-word.self c.args.pair c.number-field.result c.args.number (now_all items) c.loop-word.word-index) (sym c.as_slice-word-items.ensures.value) c.loop-word.invariant in
    let again_so = refused _ _ _ c.args.pair c.number-field.result c.args.number _ c.loop-word.word-index _ _ (now_drop _ c.loop-word.word-index _ c.loop-word-test.true) so_far c.in_ok-add.ensures.adds slots code event z p
    c.if-not-branch.true in
    record {
      fresh =
          subst (λ f. false ≡ not (again (λ v. taken_by code event f c.args.number slots v) (now_all c.args.senders.now.words.items))) c.number-field.ensures
          (subst (λ items. false ≡ not (again (λ v. taken_by code event c.number-field.result c.args.number slots v) (now_all items))) c.as_slice-word-items.ensures.value again_so);
      more = λ e. absurd (cc);
    }

pub loop-word-preserved : goal.loop-word-preserved
loop-word-preserved c =
    let so_far = subst (λ items. Adding c.args.self.now c.loop-word.self c.args.pair c.number-field.result c.args.number (now_all items) c.loop-word.word-index) (sym c.as_slice-word-items.ensures.value) c.loop-word.invariant in
    subst (λ items. Adding c.args.self.now c.add.new.self c.args.pair c.number-field.result c.args.number (now_all items) (c.loop-word.word-index + 1)) c.as_slice-word-items.ensures.value
    (one_more _ _ _ c.args.pair c.number-field.result c.args.number _ c.loop-word.word-index _ _ (now_drop _ c.loop-word.word-index _ c.loop-word-test.true) so_far c.in_ok-add.ensures.adds
    (now_take _ c.loop-word.word-index _ c.loop-word-test.true) c.if-not-branch.false c.add.ensures.beside)

pub returns-clause-adds : goal.returns-clause-adds
returns-clause-adds c slots code event z p =
    let all : length (now_all c.args.senders.now.words.items) ≤ c.loop-word.word-index = omega (arith, c.loop-word-test.false, length-map c.args.senders.now.words.items (λ b. b.now)) in
    record {
      fresh =
          subst (λ f. true ≡ not (again (λ v. taken_by code event f c.args.number slots v) (now_all c.args.senders.now.words.items))) c.number-field.ensures
          (none_again _ _ c.args.pair c.number-field.result c.args.number _ c.loop-word.word-index all c.loop-word.invariant slots code event z p);
      more = λ e.
          subst (λ f. AreFound c.loop-word.self (slots ++ numbered c.args.number (map (λ word. record { code = code; event = event; field = f; word = word }) (now_all c.args.senders.now.words.items)))) c.number-field.ensures
          (all_found _ _ c.args.pair c.number-field.result c.args.number _ c.loop-word.word-index all c.loop-word.invariant slots code event z p);
    }
