-- What holds of a log as a storage, for any journal.
use Rattle.std.proofs.Common.{refl, inl, ⊎_elim, ℕ, List, [], ◌∷◌, sym, ◌∙◌, subst}
use Rattle.gw_log.specs.Chain.{IsLog}
use Rattle.gw_log.specs.Disk.{Files, LeavesOnly}
use Rattle.gw_log.proofs.Logs.{log_as_is}
use Rattle.gw_log.proofs.Moments.{weaker, joined, stood}
use Rattle.gw_journal.specs.Logs.{IsOneOf, AreAmong}
use Rattle.gw_journal.specs.Stored.{IsKept, StoredState, disk_of, Held, KeepsOne, LeavesOne}

-- what is among the one is among the others
one_among : (left more : List (List (List ℕ))) (all : List (List ℕ)) → AreAmong left more → IsOneOf all left → IsOneOf all more
one_among [] more all among one = absurd one
one_among (rs ∷ left) more all among one = ⊎_elim (λ is. subst (λ x. IsOneOf x more) (sym is) (among.0)) (λ rest. one_among left more all (among.1) rest) one

one_of_more : (tells : List (List ℕ) → List ℕ → Type 0) (spares : List (List ℕ) → ℕ → Type 0) (id : ℕ) (left more : List (List (List ℕ))) (files : Files) → AreAmong left more → KeepsOne tells spares id left files → KeepsOne tells spares id more files
one_of_more tells spares id left more files among k = record { all = k.all; among = one_among left more k.all among k.among; kept = k.kept }

module _ {D : Type 0} (tells : List (List ℕ) → List ℕ → Type 0) (spares : List (List ℕ) → ℕ → Type 0) (honest : D → Type 0) (seen : D → Files) (may_leave : D → Files → Type 0)
    (moment : D → ℕ) (left_since : D → ℕ → Files → Type 0) where
  -- what there is, a crash leaves
  pub crash_leaves : (s : StoredState D) (these : List (List ℕ)) (c : Files) → honest (disk_of s) → Held tells spares honest seen may_leave s these
      → may_leave (disk_of s) c → IsKept tells spares s.id c these
  crash_leaves s these c did held could =
      let i = held did in
      let h = i.holds in
      let is = log_as_is seen may_leave s.log i.from i.head i.kept h c (h.stands.staged.durable c could) in
      record { from = i.from; head = i.head; kept = i.kept; covers = i.covers; log = subst (λ n. IsLog n c i.from i.head i.kept) i.id is }

  pub one_at_rest : ((disk : D) (c : Files) → left_since disk (moment disk) c → may_leave disk c)
      → (s : StoredState D) (these : List (List ℕ)) → Held tells spares honest seen may_leave s these
      → LeavesOne tells spares honest moment left_since s s (these ∷ [])
  one_at_rest only s these held = record {
    id = refl;
    back = λ did. did;
    leaves = λ did. stood moment left_since may_leave (disk_of s) (KeepsOne tells spares s.id (these ∷ [])) only
        (λ c could. record { all = these; among = inl refl; kept = crash_leaves s these c did held could });
  }

  pub one_goes_on : (old mid new : StoredState D) (left : List (List (List ℕ))) → LeavesOne tells spares honest moment left_since old mid left
      → LeavesOne tells spares honest moment left_since mid new left → LeavesOne tells spares honest moment left_since old new left
  one_goes_on old mid new left first second = record {
    id = second.id ∙ first.id;
    back = λ did. first.back (second.back did);
    leaves = λ did. joined moment left_since (disk_of old) (disk_of mid) (disk_of new) (KeepsOne tells spares old.id left) (first.leaves (second.back did))
        (subst (λ n. LeavesOnly moment left_since (disk_of mid) (disk_of new) (KeepsOne tells spares n left)) first.id (second.leaves did));
  }

  pub one_widens : (old new : StoredState D) (left more : List (List (List ℕ))) → AreAmong left more → LeavesOne tells spares honest moment left_since old new left
      → LeavesOne tells spares honest moment left_since old new more
  one_widens old new left more among one = record {
    id = one.id;
    back = one.back;
    leaves = λ did. weaker moment left_since (disk_of old) (disk_of new) (KeepsOne tells spares old.id left) (KeepsOne tells spares old.id more)
        (λ c k. one_of_more tells spares old.id left more c among k) (one.leaves did);
  }
