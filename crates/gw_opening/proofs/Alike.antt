-- Which records a state is of.
use lib.Pointwise.{pointwise}
use Rattle.std.proofs.Common.{◌≡◌, ℕ, zero, suc, Bool, true, false, cond, List, [], ◌∷◌, map, replicate, Option, None, Some, refl, ap, sym, ◌∙◌, subst}
use Rattle.std.specs.Prelude.{⊤, nat_eq}
use Rattle.std.specs.Bool.{Decides}
use Rattle.std.specs.List.{AllByRecursion}
use Rattle.std.proofs.lemmas.Bool.Decides.{Decides-and, Decides-eqb, Decides-like}
use Rattle.std.proofs.lemmas.List.{length-map, length-replicate}
use Rattle.std.proofs.lemmas.Slice.Eq.{bytes_eq-Decides, slice_eq-Decides}
use Rattle.gw_due.specs.Due.{Name}
use Rattle.gw_due.specs.Lawful.{Lawful}
use Rattle.gw_due.specs.Spelling.{Entry, Fits, spelled}
use Rattle.gw_due.specs.State.{Receiver, State, nothing, state_of}
use Rattle.gw_due.proofs.Stating.{stands}
use Rattle.gw_ledger.specs.Ledgers.{IsInState, Spells, events_of}
use Rattle.gw_ledger.proofs.Ledging.{none_yet, one_reading}
use Rattle.gw_opening.specs.own.Alike.{one_receiver, one_option, one_state, before_of}

-- ---- whether both are the same

decides_option : (m n : Option ℕ) → Decides (one_option m n) (m ≡ n)
decides_option None None = (λ t. refl, λ e. refl)
decides_option None (Some n) = (λ t. absurd (cc (t)), λ e. absurd (cc (e)))
decides_option (Some m) None = (λ t. absurd (cc (t)), λ e. absurd (cc (e)))
decides_option (Some m) (Some n) =
    Decides-like (nat_eq m n) (λ (e : m ≡ n). ap (λ (k : ℕ). Some k) e) (λ (e : Some m ≡ Some n). let same : m ≡ n = cc (e) in same) (Decides-eqb m n)

decides_receiver : (r q : Receiver) → Decides (one_receiver r q) (r ≡ q)
decides_receiver r q =
    Decides-like (one_receiver r q)
    (λ e i. record { number = e.0 i; name = e.1.0 i; address = e.1.1.0 i; from = e.1.1.1.0 i; left = e.1.1.1.1.0 i; refused = e.1.1.1.1.1 i })
    (λ (e : r ≡ q). (
      ap (λ (r : Receiver). r.number) e,
      (ap (λ (r : Receiver). r.name) e, (ap (λ (r : Receiver). r.address) e, (ap (λ (r : Receiver). r.from) e, (ap (λ (r : Receiver). r.left) e, ap (λ (r : Receiver). r.refused) e)))),
    ))
    (Decides-and _ _ (Decides-eqb r.number q.number) (Decides-and _ _ (bytes_eq-Decides r.name q.name) (Decides-and _ _ (bytes_eq-Decides r.address q.address)
    (Decides-and _ _ (Decides-eqb r.from q.from) (Decides-and _ _ (Decides-eqb r.left q.left) (Decides-eqb r.refused q.refused))))))

decides_state : (s t : State) → Decides (one_state s t) (s ≡ t)
decides_state s t =
    Decides-like (one_state s t)
    (λ e i. record { next = e.0 i; plan = e.1.0 i; last = e.1.1.0 i; margin = e.1.1.1.0 i; oldest = e.1.1.1.1.0 i; receivers = e.1.1.1.1.1 i })
    (λ (e : s ≡ t). (
      ap (λ (s : State). s.next) e,
      (ap (λ (s : State). s.plan) e, (ap (λ (s : State). s.last) e, (ap (λ (s : State). s.margin) e, (ap (λ (s : State). s.oldest) e, ap (λ (s : State). s.receivers) e)))),
    ))
    (Decides-and _ _ (Decides-eqb s.next t.next) (Decides-and _ _ (decides_option s.plan t.plan) (Decides-and _ _ (decides_option s.last t.last)
    (Decides-and _ _ (Decides-eqb s.margin t.margin) (Decides-and _ _ (Decides-eqb s.oldest t.oldest)
    (slice_eq-Decides decides_receiver s.receivers t.receivers (pointwise one_receiver s.receivers t.receivers) refl))))))

-- where the state is that of the entries, their records are those before
pub is_before : (entries : List Entry) (s : State) → s ≡ state_of (events_of entries) → before_of entries s ≡ map spelled entries
is_before entries s is = ap (λ b. cond b (map spelled entries) (replicate s.next [])) ((decides_state s (state_of (events_of entries))).1 is)

-- ---- records that spell nothing

spelled_some : (e : Entry) → [] ≡ spelled e → ⊥
spelled_some e is = absurd (cc (is))

none_spelled : (n : ℕ) (entries : List Entry) → Spells (replicate n []) entries → n ≡ 0
none_spelled zero entries s = refl
none_spelled (suc n) [] s = absurd (cc (s.are))
none_spelled (suc n) (e ∷ entries) s = absurd (spelled_some e (cc (s.are)))

module _ (Routes : (names : List Name) (plan to bytes : List ℕ) → Type 0) where
  of_entries : (entries : List Entry) (s : State) → AllByRecursion Fits entries → Lawful Routes (events_of entries) → s ≡ state_of (events_of entries)
      → IsInState Routes ⊤ (map spelled entries) s
  of_entries entries s fit lawful is =
      let one : (these : List Entry) → Spells (map spelled entries) these → entries ≡ these =
      λ these spells. one_reading (map spelled entries) entries these (record { are = refl; fit = fit }) spells in
      record {
        counted = ap (λ (s : State). s.next) is ∙ (stands Routes (events_of entries) lawful).says.next
            ∙ length-map entries (λ (e : Entry). e.event) ∙ sym (length-map entries spelled);
        is = λ these spells. is ∙ ap (λ es. state_of (events_of es)) (one these spells);
        lawful = λ _ these spells. subst (λ es. Lawful Routes (events_of es)) (one these spells) lawful;
      }

  of_none : (s : State) → (s.next ≡ 0 → s ≡ nothing) → IsInState Routes ⊤ (replicate s.next []) s
  of_none s new =
      let none : (these : List Entry) → Spells (replicate s.next []) these → s ≡ nothing = λ these spells. new (none_spelled s.next these spells) in
      let in_none : (these : List Entry) → Spells (replicate s.next []) these → IsInState Routes ⊤ (replicate s.next []) s =
      λ these spells. none_yet Routes (replicate s.next []) s (ap (λ (n : ℕ). replicate n []) (none_spelled s.next these spells)) (none these spells) in
      record {
        counted = sym (length-replicate s.next []);
        is = λ these spells. (in_none these spells).is these spells;
        lawful = λ all these spells. (in_none these spells).lawful all these spells;
      }

  by_test : (b : Bool) (entries : List Entry) (s : State) → one_state s (state_of (events_of entries)) ≡ b → AllByRecursion Fits entries
      → Lawful Routes (events_of entries) → (s.next ≡ 0 → s ≡ nothing) → IsInState Routes ⊤ (cond b (map spelled entries) (replicate s.next [])) s
  by_test true entries s is fit lawful new = of_entries entries s fit lawful ((decides_state s (state_of (events_of entries))).0 is)
  by_test false entries s is fit lawful new = of_none s new

  -- it is a state of these records
  pub in_state : (entries : List Entry) (s : State) → AllByRecursion Fits entries → Lawful Routes (events_of entries) → (s.next ≡ 0 → s ≡ nothing)
      → IsInState Routes ⊤ (before_of entries s) s
  in_state entries s fit lawful new = by_test (one_state s (state_of (events_of entries))) entries s refl fit lawful new
