-- A state and its log, event by event; what a state decides.
use Rattle.std.proofs.Common.{◌≡◌, ℕ, zero, suc, Bool, true, false, List, [], ◌∷◌, ◌++◌, length, map, Option, Some, None, slice_get, refl, ap, sym, ◌∙◌, subst, arith}
use Rattle.std.specs.Prelude.{◌&&◌, ◌||◌, nat_eq}
use Rattle.std.specs.List.{list_all, AllByRecursion}
use Rattle.std.proofs.lemmas.List.{append-nil, length-append}
use Rattle.std.proofs.lemmas.List.Sums.{fold-append}
use Rattle.std.proofs.lemmas.List.Folds.{list_any-append, list_all-append}
use Rattle.gw_due.specs.Events.{Event, Planned, Accepted, Again, Passed, Named, Margin, Retired}
use Rattle.gw_due.specs.Due.{plan, plan_by, last_by, margin_by, oldest_by, Name, names, names_by}
use Rattle.gw_due.specs.Lawful.{Lawful, no_event, one_more, MayFollow, is_named, agrees}
use Rattle.gw_due.specs.State.{Receiver, State, receiver_by, receivers_by, plan_place, after, nothing, state_of, is_known}
use Rattle.gw_due.specs.Says.{Says, SaysOf, IsPlanAt}
use Rattle.gw_due.proofs.Telling.{names_then, or_false, all_step, named_says, new_says, stranger, stranger_step}
use Rattle.gw_due.proofs.Naming.{has_name, names_stay, known_names, agree_names, pair, known_more, agree_more}

-- ---- the parts of a state

get_more : {A : Type 0} (xs ys : List A) (i : ℕ) (x : A) → slice_get xs i ≡ Some x → slice_get (xs ++ ys) i ≡ Some x
get_more [] ys i x is = absurd cc
get_more (y ∷ xs) ys zero x is = is
get_more (y ∷ xs) ys (suc i) x is = get_more xs ys i x is

get_last : {A : Type 0} (xs : List A) (x : A) → slice_get (xs ++ x ∷ []) (length xs) ≡ Some x
get_last [] x = refl
get_last (y ∷ xs) x = get_last xs x

plan_stays : (place : Option ℕ) (log : List Event) (e : Event) → plan (log ++ e ∷ []) ≡ plan log → IsPlanAt place log → IsPlanAt place (log ++ e ∷ [])
plan_stays None log e same is = same ∙ is
plan_stays (Some place) log e same is = get_more log (e ∷ []) place (Planned (plan log)) is ∙ ap (λ t. Some (Planned t)) (sym same)

plan_then : (log : List Event) (e : Event) → plan (log ++ e ∷ []) ≡ plan_by (plan log) e
plan_then log e = fold-append plan_by [] log (e ∷ [])

plan_step : (log : List Event) (e : Event) (s : State) → s.next ≡ length log → IsPlanAt s.plan log → IsPlanAt (plan_place s.next s.plan e) (log ++ e ∷ [])
plan_step log (Planned text) s next is =
    ap (slice_get (log ++ Planned text ∷ [])) next ∙ get_last log (Planned text) ∙ ap (λ t. Some (Planned t)) (sym (plan_then log (Planned text)))
plan_step log (Accepted number to bytes) s next is = plan_stays s.plan log (Accepted number to bytes) (plan_then log (Accepted number to bytes)) is
plan_step log (Again r place) s next is = plan_stays s.plan log (Again r place) (plan_then log (Again r place)) is
plan_step log (Passed r place how) s next is = plan_stays s.plan log (Passed r place how) (plan_then log (Passed r place how)) is
plan_step log (Named r name address) s next is = plan_stays s.plan log (Named r name address) (plan_then log (Named r name address)) is
plan_step log (Margin number) s next is = plan_stays s.plan log (Margin number) (plan_then log (Margin number)) is
plan_step log (Retired segment) s next is = plan_stays s.plan log (Retired segment) (plan_then log (Retired segment)) is

-- the state has the names that the log gave
pub record HasNames (log : List Event) (rs : List Receiver) : Type 0 where
  pub known : (n : ℕ) → is_known rs n ≡ is_named (names log) n
  pub agree : (n : ℕ) (name : List ℕ) → list_all (has_name n name) rs ≡ list_all (agrees n name) (names log)

no_name : (log : List Event) (e : Event) (at : ℕ) (rs : List Receiver) → names_by e ≡ [] → HasNames log rs → HasNames (log ++ e ∷ []) (map (receiver_by at e) rs)
no_name log e at rs none has =
    let same : names (log ++ e ∷ []) ≡ names log = names_then log e ∙ ap (λ l. names log ++ l) none ∙ append-nil (names log) in
    let now : List Receiver = map (receiver_by at e) rs in
    record {
      known = λ n. known_names n now ∙ ap (λ l. is_named l n) (names_stay at e rs) ∙ sym (known_names n rs) ∙ has.known n ∙ sym (ap (λ l. is_named l n) same);
      agree = λ n name. agree_names n name now ∙ ap (λ l. list_all (agrees n name) l) (names_stay at e rs) ∙ sym (agree_names n name rs) ∙ has.agree n name
          ∙ sym (ap (λ l. list_all (agrees n name) l) same);
    }

and_end : (b : Bool) → (b && true) ≡ b
and_end true = refl
and_end false = refl

name_step : (log : List Event) (e : Event) (at : ℕ) (rs : List Receiver) (Routes : (names : List Name) (plan to bytes : List ℕ) → Type 0) → MayFollow Routes log e
    → HasNames log rs → HasNames (log ++ e ∷ []) (receivers_by at e rs)
name_step log (Planned text) at rs Routes may has = no_name log (Planned text) at rs refl has
name_step log (Accepted number to bytes) at rs Routes may has = no_name log (Accepted number to bytes) at rs refl has
name_step log (Again r place) at rs Routes may has = no_name log (Again r place) at rs refl has
name_step log (Passed r place how) at rs Routes may has = no_name log (Passed r place how) at rs refl has
name_step log (Margin number) at rs Routes may has = no_name log (Margin number) at rs refl has
name_step log (Retired segment) at rs Routes may has = no_name log (Retired segment) at rs refl has
name_step log (Named m name address) at rs Routes may has =
    let e : Event = Named m name address in
    record {
      known = λ n. known_more m name address n rs
          ∙ ap (λ b. b || nat_eq m n) (has.known n) ∙ ap (λ b. is_named (names log) n || b) (sym (or_false (nat_eq m n)))
          ∙ sym (ap (λ l. is_named l n) (names_then log e) ∙ list_any-append (λ x. nat_eq x.number n) (names log) (names_by e));
      agree = λ n other. agree_more m name address n other rs (has.agree m name ∙ may)
          ∙ ap (λ b. b && agrees n other (pair m name address)) (has.agree n other) ∙ ap (λ b. list_all (agrees n other) (names log) && b) (sym (and_end (agrees n other (pair m name address))))
          ∙ sym (ap (λ l. list_all (agrees n other) l) (names_then log e) ∙ list_all-append (agrees n other) (names log) (names_by e));
    }

same_each : (f : Receiver → Receiver) → ((r : Receiver) → f r ≡ r) → (rs : List Receiver) → map f rs ≡ rs
same_each f same [] = refl
same_each f same (r ∷ rs) = ap (λ x. x ∷ map f rs) (same r) ∙ ap (λ l. r ∷ l) (same_each f same rs)

module _ (Routes : (names : List Name) (plan to bytes : List ℕ) → Type 0) where
  abbrev AllSay : List Event → List Receiver → Type 0
  AllSay log rs = AllByRecursion (SaysOf log) rs

  receivers_step : (log : List Event) (e : Event) (rs : List Receiver) → MayFollow Routes log e → Lawful Routes log → HasNames log rs
      → AllSay log rs → AllSay (log ++ e ∷ []) (receivers_by (length log) e rs)
  receivers_step log (Planned text) rs may lawful has says = all_step Routes log (Planned text) rs may lawful says
  receivers_step log (Accepted number to bytes) rs may lawful has says = all_step Routes log (Accepted number to bytes) rs may lawful says
  receivers_step log (Again r place) rs may lawful has says = all_step Routes log (Again r place) rs may lawful says
  receivers_step log (Passed r place how) rs may lawful has says = all_step Routes log (Passed r place how) rs may lawful says
  receivers_step log (Margin number) rs may lawful has says = all_step Routes log (Margin number) rs may lawful says
  receivers_step log (Retired segment) rs may lawful has says = all_step Routes log (Retired segment) rs may lawful says
  receivers_step log (Named n name address) rs may lawful has says =
      let e : Event = Named n name address in
      let each : AllSay (log ++ e ∷ []) rs =
      subst (AllSay (log ++ e ∷ [])) (same_each (receiver_by (length log) e) (λ r. refl) rs) (all_step Routes log e rs may lawful says) in
      named_says Routes (log ++ e ∷ []) n name address rs
      (λ unknown.
      let unnamed : is_named (names log) n ≡ false = sym (has.known n) ∙ unknown in
      new_says Routes n name address (log ++ e ∷ []) (stranger_step Routes n log e may unnamed (stranger Routes n log lawful unnamed)))
      each

  pub record Stands (log : List Event) (s : State) : Type 0 where
    pub says : Says log s
    pub has : HasNames log s.receivers

  step : (log : List Event) (e : Event) (s : State) → MayFollow Routes log e → Lawful Routes log → Stands log s → Stands (log ++ e ∷ []) (after s e)
  step log e s may lawful stands =
      let says = stands.says in
      record {
        says = record {
          next = omega (arith, says.next, length-append log (e ∷ []));
          plan = plan_step log e s says.next says.plan;
          last = ap (λ l. last_by l e) says.last ∙ sym (fold-append last_by None log (e ∷ []));
          margin = ap (λ m. margin_by m e) says.margin ∙ sym (fold-append margin_by 0 log (e ∷ []));
          oldest = ap (λ m. oldest_by m e) says.oldest ∙ sym (fold-append oldest_by 0 log (e ∷ []));
          receivers = subst (λ at. AllSay (log ++ e ∷ []) (receivers_by at e s.receivers)) (sym says.next) (receivers_step log e s.receivers may lawful stands.has says.receivers);
        };
        has = name_step log e s.next s.receivers Routes may stands.has;
      }

  pub stands : (log : List Event) → Lawful Routes log → Stands log (state_of log)
  stands [] no_event = record {
    says = record { next = refl; plan = refl; last = refl; margin = refl; oldest = refl; receivers = tt };
    has = record { known = λ n. refl; agree = λ n name. refl };
  }
  stands _ (one_more log e lawful may) =
      subst (Stands (log ++ e ∷ [])) (sym (fold-append after nothing log (e ∷ []))) (step log e (state_of log) may lawful (stands log lawful))
