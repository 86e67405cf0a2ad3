-- What a start finds in a log.
use Rattle.std.proofs.Common.{◌≡◌, ℕ, List, ◌++◌, length, take, sym, ◌∙◌, ap, subst, arith, append_assoc, length-append}
use Rattle.gw_log.specs.Chain.{Head, Origin, IsLog}
use Rattle.gw_log.specs.Disk.{Files, LeavesOnly}
use Rattle.gw_log.specs.Opening.{AreOfLast}
use Rattle.gw_log.proofs.Moments.{weaker}
use Rattle.gw_journal.specs.Stored.{IsKept, EndsWith, last_of}
use Rattle.gw_journal.proofs.Logging.{take_front, take_all}

take_exactly : (n : ℕ) (xs ys : List (List ℕ)) → n ≡ length xs → take n (xs ++ ys) ≡ xs
take_exactly n xs ys is = take_front n xs ys (omega (arith, is)) ∙ ap (λ m. take m xs) is ∙ take_all xs

module _ (tells : List (List ℕ) → List ℕ → Type 0) (spares : List (List ℕ) → ℕ → Type 0) where
  pub tells_last : (id : ℕ) (files : Files) (rows all : List (List ℕ))
      → ((from : Origin) (head : Head) (records : List (List ℕ)) → IsLog id files from head records → AreOfLast from head records rows)
      → IsKept tells spares id files all → EndsWith tells all (last_of rows)
  tells_last id files rows all gives k =
      let a = gives k.from k.head k.kept k.log in
      let gone = k.covers.gone in
      let split : all ≡ (gone ++ a.front) ++ a.rest =
      k.covers.split ∙ ap (λ rs. gone ++ rs) a.split ∙ sym (append_assoc gone a.front a.rest) in
      let place : k.head.first ≡ length (gone ++ a.front) = omega (arith, a.place, k.covers.place, length-append gone a.front) in
      let told : tells (gone ++ a.front) k.head.checkpoint = subst (λ rs. tells rs k.head.checkpoint)
      (ap (λ rs. take k.head.first rs) split ∙ take_exactly k.head.first (gone ++ a.front) a.rest place) k.covers.told in
      subst (λ rs. EndsWith tells all (last_of rs)) (sym a.rows_are) (record { before = gone ++ a.front; split = split; told = told })

  pub leaves_kept : {D : Type 0} (moment : D → ℕ) (left_since : D → ℕ → Files → Type 0) (id : ℕ) (files : Files) (old new : D)
      → ((from : Origin) (head : Head) (records : List (List ℕ)) → IsLog id files from head records
      → LeavesOnly moment left_since old new (λ c. IsLog id c from head records))
      → (all : List (List ℕ)) → IsKept tells spares id files all → LeavesOnly moment left_since old new (λ c. IsKept tells spares id c all)
  leaves_kept moment left_since id files old new run all k =
      weaker moment left_since old new (λ c. IsLog id c k.from k.head k.kept) (λ c. IsKept tells spares id c all)
      (λ c log. record { from = k.from; head = k.head; kept = k.kept; covers = k.covers; log = log }) (run k.from k.head k.kept k.log)
