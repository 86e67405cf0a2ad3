-- What a crash leaves in a run of calls of a storage.
use Rattle.std.proofs.Common.{◌≡◌, refl, sym, ap, subst, ◌∙◌, inl, inr, ℕ, List, [], ◌∷◌, ◌++◌, take, Option, None, Some, arith}
use Rattle.std.specs.Prelude.{IfSome}
use Rattle.gw_journal.specs.Logs.{Log, AreAmong, NoneIsLost, outcomes, JobState, IsJob}
use Rattle.gw_journal.proofs.Logging.{get_take, given_all}

-- by all records none is needed below a job's place
pub spared_of : (P : Type 0) (next : Option (List ℕ)) (checkpoint : List ℕ) → next ≡ Some checkpoint → IfSome next (λ _. P) → P
spared_of P None checkpoint some spared = absurd (cc)
spared_of P (Some bytes) checkpoint some spared = spared

-- what a job's checkpoint tells
pub told_of : (tells : List (List ℕ) → List ℕ → Type 0) (next : Option (List ℕ)) (checkpoint : List ℕ) (records : List (List ℕ)) → next ≡ Some checkpoint
    → IfSome next (tells records) → tells records checkpoint
told_of tells None checkpoint records some told = absurd (cc)
told_of tells (Some bytes) checkpoint records some told = subst (λ b. tells records b) (cc) told

module _ {S : Type 0} (leaves : S → S → List (List (List ℕ)) → Type 0)
    (goes_on : (old mid new : S) (left : List (List (List ℕ))) → leaves old mid left → leaves mid new left → leaves old new left)
    (widens : (old new : S) (left more : List (List (List ℕ))) → AreAmong left more → leaves old new left → leaves old new more) where
  -- a call, and another that keeps what it left
  pub through : (s t u : S) (a b : List (List ℕ)) → leaves s t (a ∷ b ∷ []) → leaves t u (b ∷ []) → leaves s u (a ∷ b ∷ [])
  through s t u a b one two = goes_on s t u (a ∷ b ∷ []) one (widens t u (b ∷ []) (a ∷ b ∷ []) (inr (inl refl), tt) two)

  -- by a job, also where the call failed
  pub left_given : (stands : S → List (List ℕ) → Type 0) (tells : List (List ℕ) → List ℕ → Type 0) (spares : List (List ℕ) → ℕ → Type 0) (before : List (List ℕ)) (job : JobState S) (given : List (List ℕ))
      (log : Log) (new : S) → IsJob stands tells spares job log → given ≡ job.batch
      → ((these : List (List ℕ)) → stands job.storage these → leaves job.storage new (these ∷ (these ++ given) ∷ []))
      → leaves job.storage new (outcomes job.given log.records)
  left_given stands tells spares before job given log new j same run =
      let these = take job.given log.records in
      let all : these ++ given ≡ log.records = ap (λ rs. these ++ rs) same ∙ given_all stands before tells spares job log j in
      subst (λ rs. leaves job.storage new (these ∷ rs ∷ [])) all (run these j.keeps)

  -- and by one that begins the next file
  pub left_all : (stands : S → List (List ℕ) → Type 0) (tells : List (List ℕ) → List ℕ → Type 0) (spares : List (List ℕ) → ℕ → Type 0) (before : List (List ℕ)) (job : JobState S)
      (given : List (List ℕ)) (bytes checkpoint : List ℕ) (log : Log) (new : S)
      → IsJob stands tells spares job log → job.next ≡ Some checkpoint → given ≡ job.batch → bytes ≡ checkpoint
      → ((these : List (List ℕ)) → stands job.storage these → tells (these ++ given) bytes → spares (these ++ given) job.keep
      → leaves job.storage new (these ∷ (these ++ given) ∷ []))
      → leaves job.storage new (outcomes job.given log.records)
  left_all stands tells spares before job given bytes checkpoint log new j some same is run =
      let these = take job.given log.records in
      let all : these ++ given ≡ log.records = ap (λ rs. these ++ rs) same ∙ given_all stands before tells spares job log j in
      let told : tells log.records bytes = subst (λ b. tells log.records b) (sym is) (told_of tells job.next checkpoint log.records some j.told) in
      let spared = spared_of (spares log.records job.keep) job.next checkpoint some j.spared in
      subst (λ rs. leaves job.storage new (these ∷ rs ∷ [])) all
      (run these j.keeps (subst (λ rs. tells rs bytes) (sym all) told) (subst (λ rs. spares rs job.keep) (sym all) spared))

-- each record that is on the disk by the journal stands in each of these
pub none_lost : {S : Type 0} (stands : S → List (List ℕ) → Type 0) (tells : List (List ℕ) → List ℕ → Type 0) (spares : List (List ℕ) → ℕ → Type 0) (job : JobState S) (log : Log)
    → IsJob stands tells spares job log → NoneIsLost log (outcomes job.given log.records)
none_lost stands tells spares job log j place bytes stored =
    (get_take job.given log.records place bytes (omega (arith, stored.synced, j.synced)) stored.there, (stored.there, tt))
