use Rattle.std.proofs.Common.{◌≡◌, ◌==◌, ◌-◌, ◌∙◌, Bool, ℕ, List, ap, sym, length}
use Rattle.std.specs.Prelude.{flat_map}
use Rattle.std.specs.List.{list_all, range_with_len}
use Rattle.std.proofs.lemmas.Bool.{false≢true, le-leb, lt-leb}
use Rattle.gw_crew.specs.Notes.{ReceiptSeen}
use Rattle.gw_audit.specs.own.Joins.{Marks, notes_of}
use Rattle.gw_run.specs.Passes.{receipts}
use Rattle.gw_audit.specs.Settled.{are_all, having}
use Rattle.gw_audit.proofs.Following.{denies}
use Rattle.gw_audit.proofs.Marking.{marked}
use Rattle.gw_audit.proofs.audit.is_settled.Goals as goal

-- what was marked tells of all numbers up to the end
marked_is : (end last since : ℕ) (all : List ReceiptSeen) (marks lent : List ℕ) (b : Bool) → last ≡ end → lent ≡ marks → length marks ≡ last - since
    → Marks since all marks → b ≡ list_all (λ m. m == 1) lent → b ≡ are_all since end all
marked_is end last since all marks lent b lasts same long was tells =
    tells ∙ ap (list_all (λ m. m == 1)) same ∙ marked marks since all was
    ∙ ap (λ n. list_all (λ k. having all k == 1) (range_with_len since n)) (long ∙ ap (λ n. n - since) lasts)

pub returns-then-not-go_on : goal.returns-then-not-go_on
returns-then-not-go_on g c = denies c.go_on.result c.if-not-go_on.true c.go_on.ensures (λ s. s.follow)

pub returns-then-since-first_of : goal.returns-then-since-first_of
returns-then-since-first_of g c =
    (λ t. absurd (false≢true t), λ s. absurd (false≢true (sym (lt-leb _ _ (rw c.first_of.ensures at c.if-since-first_of.true)) ∙ s.from)))

pub returns-then-not-are_all_marked : goal.returns-then-not-are_all_marked
returns-then-not-are_all_marked g c =
    let value = marked_is _ _ c.args.since (flat_map receipts (notes_of c.args.passes.now)) _ _ _ c.last_of.ensures c.deref.ensures.value (c.in_ok-marks.ensures.count ∙ c.saturating_sub.ensures)
    c.in_ok-marks.ensures.marks c.are_all_marked.ensures in
    (λ t. absurd (false≢true t), λ s. sym c.if-not-are_all_marked.true ∙ value ∙ s.all)

pub returns : goal.returns
returns g c =
    let value = marked_is _ _ c.args.since (flat_map receipts (notes_of c.args.passes.now)) _ _ _ c.last_of.ensures c.deref.ensures.value (c.in_ok-marks.ensures.count ∙ c.saturating_sub.ensures)
    c.in_ok-marks.ensures.marks c.are_all_marked.ensures in
    let follow = c.go_on.ensures.0 c.if-not-go_on.false in
    let agree = c.all_agree.ensures follow in (
      λ t. record {
        follow = follow;
        from = le-leb _ _ (rw c.first_of.ensures at c.if-since-first_of.false);
        all = sym value ∙ c.if-not-are_all_marked.false;
        each = sym agree ∙ t;
      },
      λ s. agree ∙ s.each,
    )
