-- By the plan under which a message was admitted it goes to the receivers of its route.
use Rattle.std.proofs.Common.{◌≡◌, ℕ, zero, suc, ◌+◌, ◌<◌, List, [], ◌∷◌, ◌++◌, length, map, take, Some, slice_get, Bor, refl, ap, sym, ◌∙◌, subst, arith}
use Rattle.std.proofs.lemmas.Grind.{common_steps}
use Rattle.std.proofs.lemmas.List.{length-map}
use Rattle.std.proofs.lemmas.Option.{slice_get_read}
use Rattle.std.specs.Slice.{IsItemAt}
use Rattle.std.specs.Prelude.{Bool, true, false, ◌||◌, nat_eq, nat_lt, Ok}
use Rattle.std.specs.List.{AllZip, list_any}
use Rattle.gw_due.specs.Due.{Name, names, plan}
use Rattle.gw_due.specs.Events.{Event, Accepted}
use Rattle.gw_due.specs.Lawful.{Lawful, MayFollow, no_event, one_more}
use Rattle.gw_er7.specs.Message.{IsMessage}
use Rattle.gw_er7.specs.Written.{written}
use Rattle.gw_ledger.specs.Accepting.{IsRouted}
use Rattle.gw_ledger.specs.Finding.{InJournal}
use Rattle.gw_ledger.specs.Ledgers.{events_of}
use Rattle.gw_plan.specs.Admitted.{ConformingHeld}
use Rattle.gw_plan.specs.Held.{PlanHeld, RouteHeld, map_between, plan_value, route_value}
use Rattle.gw_plan.specs.Routing.{routed}
use Rattle.gw_plan.specs.Shapes.{Leg, MapBetween, ReceiverValue}
use Rattle.gw_plan.specs.Whole.{spelled}
use Rattle.gw_plan.specs.Within.{IsWithin}
use Rattle.gw_plan.proofs.Reachable.{of_receiver}
use Rattle.gw_profile.specs.Seen.{profile_value}
use Rattle.gw_validate.specs.Conforming.{Conforms}
use Rattle.gw_gateway.specs.Plans.{AreNumbers, GoesBy, IsPlan, PlanState}
use Rattle.gw_gateway.specs.Routing.{GoesTo, IsNumber, IsRoutedBy}
use Rattle.gw_gateway.proofs.Naming.{numbers_later}

-- ---- the receivers of a route

-- the numbers of the first receivers of a route
abbrev pub AreFirst : List ℕ → List ℕ → List ℕ → Type 0
AreFirst numbers = AllZip (λ leg n. slice_get numbers leg ≡ Some n)

pub first_more : (numbers legs to : List ℕ) (leg n : ℕ) → AreFirst numbers legs to → slice_get numbers leg ≡ Some n → AreFirst numbers (legs ++ leg ∷ []) (to ++ n ∷ [])
first_more numbers [] [] leg n all here = (here, tt)
first_more numbers [] (m ∷ to) leg n all here = absurd all
first_more numbers (l ∷ legs) [] leg n all here = absurd all
first_more numbers (l ∷ legs) (m ∷ to) leg n all here = (all.0, first_more numbers legs to leg n all.1 here)

pub take_one : {A : Type 0} (k : ℕ) (xs : List A) (x : A) → slice_get xs k ≡ Some x → take (k + 1) xs ≡ take k xs ++ x ∷ []
take_one zero [] x there = absurd (cc)
take_one zero (y ∷ xs) x there = cc
take_one (suc k) [] x there = absurd (cc)
take_one {A} (suc k) (y ∷ xs) x there =
    let more : suc k + 1 ≡ suc (k + 1) = omega arith in
    ap (λ n. take n (y ∷ xs)) more ∙ ap (λ (l : List A). y ∷ l) (take_one k xs x there)

pub take_all_legs : {A : Type 0} (xs : List A) → take (length xs) xs ≡ xs
take_all_legs [] = refl
take_all_legs (x ∷ xs) = ap (λ l. x ∷ l) (take_all_legs xs)

pub first_all : {A : Type 0} (numbers : List ℕ) (legs : List (ℕ × A)) (k : ℕ) (to : List ℕ) → k ≡ length legs → AreFirst numbers (take k (map (λ (l : ℕ × A). l.0) legs)) to
    → AreFirst numbers (map (λ (l : ℕ × A). l.0) legs) to
first_all {A} numbers legs k to all first =
    let long : k ≡ length (map (λ (l : ℕ × A). l.0) legs) = all ∙ sym (length-map legs (λ (l : ℕ × A). l.0)) in
    subst (λ ls. AreFirst numbers ls to) (ap (λ n. take n (map (λ (l : ℕ × A). l.0) legs)) long ∙ take_all_legs (map (λ (l : ℕ × A). l.0) legs)) first

pub item_at : {X : Type 0} (xs : List X) (i : ℕ) (x : Bor X) → IsItemAt xs i (Some x) → slice_get xs i ≡ Some x.now
item_at xs i x is = slice_get_read xs (length xs) i x.now refl is.3.0 is.1

pub no_less : (a b : ℕ) → false ≡ nat_lt a b → a < b → ⊥
no_less a b is less = grind (arith, common_steps)

pub same_legs : {A : Type 0} (f : A → MapBetween) (ls : List (ℕ × A)) → map (λ (l : Leg). l.0) (map (λ (l : ℕ × A). (l.0, f l.1)) ls) ≡ map (λ (l : ℕ × A). l.0) ls
same_legs f [] = refl
same_legs f (l ∷ ls) = ap (λ k. l.0 ∷ k) (same_legs f ls)

-- the receiver of a number
goes_so : (names : List Name) (receivers : List ReceiverValue) (numbers : List ℕ) (leg n : ℕ) → AreNumbers names receivers numbers → slice_get numbers leg ≡ Some n
    → GoesTo names receivers leg n
goes_so names [] [] leg n all there = absurd (cc)
goes_so names [] (m ∷ numbers) leg n all there = absurd all
goes_so names (r ∷ receivers) [] leg n all there = absurd all
goes_so names (r ∷ receivers) (m ∷ numbers) zero n all there =
    record { receiver = r; there = refl; named = subst (λ x. IsNumber names r x) (cc (there)) all.0 }
goes_so names (r ∷ receivers) (m ∷ numbers) (suc leg) n all there =
    let below = goes_so names receivers numbers leg n all.1 there in record { receiver = below.receiver; there = below.there; named = below.named }

all_go : (names : List Name) (receivers : List ReceiverValue) (numbers legs to : List ℕ) → AreNumbers names receivers numbers → AreFirst numbers legs to
    → AllZip (GoesTo names receivers) legs to
all_go names receivers numbers [] [] all first = tt
all_go names receivers numbers [] (n ∷ to) all first = absurd first
all_go names receivers numbers (l ∷ legs) [] all first = absurd first
all_go names receivers numbers (l ∷ legs) (n ∷ to) all first = (goes_so names receivers numbers l n all first.0, all_go names receivers numbers legs to all first.1)

pub goes_by : (p : PlanState) (c : ConformingHeld) (route : RouteHeld) (to : List ℕ) → c.plan ≡ p.plan → routed (plan_value c.plan) c.tree.message ≡ Ok (route_value route)
    → spelled c.plan.text ≡ Ok (plan_value c.plan) → IsMessage c.tree.message → Conforms (profile_value route.profile) c.tree.message
    → AreFirst p.numbers (map (λ l. l.0) route.legs) to → GoesBy p to (written c.tree.message)
goes_by p c route to same routed_so spells is_message conforms first names all = record {
  plan = plan_value p.plan;
  spells = subst (λ (q : PlanHeld). spelled q.text ≡ Ok (plan_value q)) same spells;
  message = c.tree.message;
  is_message = is_message;
  written_so = refl;
  route = route_value route;
  routed_so = subst (λ (q : PlanHeld). routed (plan_value q) c.tree.message ≡ Ok (route_value route)) same routed_so;
  conforms = conforms;
  receivers = subst (λ legs. AllZip (GoesTo names p.plan.receivers) legs to) (sym (same_legs map_between route.legs))
      (all_go names p.plan.receivers p.numbers (map (λ l. l.0) route.legs) to all first);
}

-- ---- a leg goes to a receiver of the plan

nat_same : (n : ℕ) → nat_eq n n ≡ true
nat_same n = grind (arith, common_steps)

or_first : (b c : Bool) → b ≡ true → (b || c) ≡ true
or_first true c same = refl
or_first false c same = absurd (cc (same))

or_rest : (b c : Bool) → c ≡ true → (b || c) ≡ true
or_rest true c same = refl
or_rest false c same = same

any_at : {A : Type 0} (f : A → MapBetween) (ls : List (ℕ × A)) (k r : ℕ) → slice_get (map (λ (l : ℕ × A). l.0) ls) k ≡ Some r
    → list_any (λ (l : Leg). nat_eq r l.0) (map (λ (l : ℕ × A). (l.0, f l.1)) ls) ≡ true
any_at f [] k r there = absurd (cc)
any_at f (x ∷ ls) zero r there =
    let is : x.0 ≡ r = cc (there) in
    let same : nat_eq r x.0 ≡ true = subst (λ n. nat_eq r n ≡ true) (sym is) (nat_same r) in
    or_first (nat_eq r x.0) _ same
any_at f (x ∷ ls) (suc k) r there = or_rest (nat_eq r x.0) _ (any_at f ls k r there)

pub is_receiver : (c : ConformingHeld) (route : RouteHeld) (k r : ℕ) → IsWithin (plan_value c.plan) → routed (plan_value c.plan) c.tree.message ≡ Ok (route_value route)
    → slice_get (map (λ l. l.0) route.legs) k ≡ Some r → r < length c.plan.receivers
is_receiver c route k r within routed_so there =
    of_receiver c r within (record { route = route_value route; routed_so = routed_so; goes = any_at map_between route.legs k r there })

-- ---- the plan in force

pub routed_now : (before : List (List ℕ)) (p : PlanState) (to bytes : List ℕ) → IsPlan before p → GoesBy p to bytes
    → InJournal (IsRouted IsRoutedBy p.place to bytes) before p.history
routed_now before p to bytes is goes faithful entries spells text more there =
    let stands = is.stands faithful entries spells in
    let log : List Event = events_of entries in
    let same : p.plan.text ≡ text = cc (stands.there, there) in
    subst (λ t. IsRoutedBy (names (log ++ more)) t to bytes) same
    (goes (names (log ++ more)) (numbers_later log more p.plan.receivers p.numbers stands.named))

-- ---- lawful logs

-- a place in a list with one more is the last, or one of the others
data IsPlaced {A : Type 0} (log : List A) (x : A) (place : ℕ) (e : A) : Type 0 where
  last : x ≡ e → take place (log ++ x ∷ []) ≡ log → IsPlaced log x place e
  before : slice_get log place ≡ Some e → take place (log ++ x ∷ []) ≡ take place log → IsPlaced log x place e

placed : {A : Type 0} (log : List A) (x : A) (place : ℕ) (e : A) → slice_get (log ++ x ∷ []) place ≡ Some e → IsPlaced log x place e
placed [] x zero e there = last (cc (there)) refl
placed [] x (suc place) e there = absurd (cc (there))
placed (y ∷ log) x zero e there = before there refl
placed {A} (y ∷ log) x (suc place) e there = by (placed log x place e there)
  where
    by : IsPlaced log x place e → IsPlaced (y ∷ log) x (suc place) e
    by (last is front) = last is (ap (λ (l : List A). y ∷ l) front)
    by (before is front) = before is (ap (λ (l : List A). y ∷ l) front)

pub routed_at : (log : List Event) → Lawful IsRoutedBy log → (place number : ℕ) (to bytes : List ℕ) → slice_get log place ≡ Some (Accepted number to bytes)
    → IsRoutedBy (names (take place log)) (plan (take place log)) to bytes
routed_at [] no_event place number to bytes there = absurd (cc)
routed_at _ (one_more log x lawful may) place number to bytes there = by (placed log x place (Accepted number to bytes) there) (λ t. routed_at log lawful place number to bytes t)
  where
    by : IsPlaced log x place (Accepted number to bytes) → (slice_get log place ≡ Some (Accepted number to bytes) → IsRoutedBy (names (take place log)) (plan (take place log)) to bytes)
        → IsRoutedBy (names (take place (log ++ x ∷ []))) (plan (take place (log ++ x ∷ []))) to bytes
    by (last is front) below =
        let now : MayFollow IsRoutedBy log (Accepted number to bytes) = subst (MayFollow IsRoutedBy log) is may in
        subst (λ l. IsRoutedBy (names l) (plan l) to bytes) (sym front) now.routed
    by (before is front) below = subst (λ l. IsRoutedBy (names l) (plan l) to bytes) (sym front) (below is)
