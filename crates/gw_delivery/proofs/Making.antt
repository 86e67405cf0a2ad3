-- What is made of what is due, as the log goes on.
use Rattle.std.proofs.Common.{◌≡◌, ◌⊎◌, inl, inr, ℕ, zero, suc, ◌+◌, ◌≤◌, List, [], ◌∷◌, ◌++◌, length, drop, slice_get, refl, ap, sym, ◌∙◌, subst, arith}
use Rattle.std.specs.Prelude.{Result, Ok, Err, IfOk}
use Rattle.std.proofs.lemmas.Option.{slice_get_within}
use mathlib.Core.List.{IsPrefix}
use Rattle.gw_due.specs.Events.{Event, Accepted, Again}
use Rattle.gw_due.specs.Due.{due_from, plan_at}
use Rattle.gw_due.proofs.Growing.{due_append, plan_stays}
use Rattle.gw_journal.specs.declared.event.Event as happened
use Rattle.gw_ledger.specs.Finding.{InJournal, IsNext}
use Rattle.gw_ledger.specs.Ledgers.{events_of}
use Rattle.gw_ledger.proofs.Passing.{get_front}
use Rattle.gw_delivery.specs.Seen.{IsEventAt, IsUnder, IsUnderIn, UnderState}
use Rattle.gw_delivery.specs.Made.{IsAgainAt, IsDueAt, IsMade, IsMadeAt, IsMadeThere, for_once, once_more}
use Rattle.gw_delivery.specs.Waiting.{IsNextFor, NextState}
use Rattle.gw_delivery.proofs.Seeing.{event_stays, later, under_stays}

-- ---- what stays as a log goes on

record Stood (log : List Event) (at : ℕ) (content : List ℕ) : Type 0 where
  number : ℕ
  to : List ℕ
  there : IsEventAt at (Accepted number to content) log

stood : (log : List Event) (place at : ℕ) (content : List ℕ) → IsDueAt log place at content → Stood log at content
stood log place _ _ (for_once number to content there) = record { number = number; to = to; there = there }
stood log place _ _ (once_more receiver at number to content here there) = record { number = number; to = to; there = there }

due_stays : (log more : List Event) (place at : ℕ) (content : List ℕ) → IsDueAt log place at content → IsDueAt (log ++ more) place at content
due_stays log more place _ _ (for_once number to content there) =
    for_once number to content (event_stays place (Accepted number to content) log more there)
due_stays log more place _ _ (once_more receiver at number to content here there) =
    once_more receiver at number to content (event_stays place (Again receiver at) log more here) (event_stays at (Accepted number to content) log more there)

pub made_stays : (name : List ℕ) (place : ℕ) (bytes : List ℕ) (log more : List Event) → IsMadeAt name place bytes log → IsMadeAt name place bytes (log ++ more)
made_stays name place bytes log more is =
    let s = stood log place is.at is.content is.due in
    let within = slice_get_within log is.at (Accepted s.number s.to is.content) s.there in
    record {
      at = is.at;
      content = is.content;
      due = due_stays log more place is.at is.content is.due;
      made = subst (λ t. IsMade t name is.content bytes) (sym (plan_stays is.at log more within)) is.made;
    }

in_order : (a b : ℕ) → (a ≤ b) ⊎ (b ≤ a)
in_order zero b = inl (omega arith)
in_order (suc a) zero = inr (omega arith)
in_order (suc a) (suc b) = step (in_order a b) where
  step : (a ≤ b) ⊎ (b ≤ a) → (suc a ≤ suc b) ⊎ (suc b ≤ suc a)
  step (inl le) = inl (omega (arith, le))
  step (inr le) = inr (omega (arith, le))

drop_within : {A : Type 0} (n : ℕ) (xs ys : List A) → n ≤ length xs → drop n (xs ++ ys) ≡ drop n xs ++ ys
drop_within zero xs ys le = refl
drop_within (suc n) [] ys le = absurd (omega arith)
drop_within (suc n) (x ∷ xs) ys le = drop_within n xs ys (omega arith)

drop_past : {A : Type 0} (n : ℕ) (xs : List A) → length xs ≤ n → drop n xs ≡ []
drop_past zero [] le = refl
drop_past zero (x ∷ xs) le = absurd (omega arith)
drop_past (suc n) [] le = refl
drop_past (suc n) (x ∷ xs) le = drop_past n xs (omega arith)

pub next_stays : (n from place : ℕ) (log more : List Event) → IsNext n from place log → IsNext n from place (log ++ more)
next_stays n from place log more next = by_order (in_order from (length log)) where
  by_order : (from ≤ length log) ⊎ (length log ≤ from) → IsNext n from place (log ++ more)
  by_order (inl le) =
      ap (λ l. slice_get (due_from n from l) 0) (drop_within from log more le)
      ∙ ap (λ l. slice_get l 0) (due_append n from (drop from log) more)
      ∙ get_front (due_from n from (drop from log)) (due_from n (from + length (drop from log)) more) 0 place next
  by_order (inr le) = absurd (cc (next, ap (due_from n from) (drop_past from log le)))

-- ---- of journals

pub next_for : (before : List (List ℕ)) (n : NextState) (found made : List happened.Event)
    → InJournal (IsNext n.receiver n.from n.place) before found → IsPrefix found n.history
    → InJournal (IsMadeAt n.name n.place n.bytes) before made → IsPrefix made n.history → IsNextFor before n
next_for before n found made is p makes q = record {
  found = later (IsNext n.receiver n.from n.place) before found n.history (next_stays n.receiver n.from n.place) is p;
  made = later (IsMadeAt n.name n.place n.bytes) before made n.history (made_stays n.name n.place n.bytes) makes q;
}

pub once : (name : List ℕ) (place : ℕ) (bytes : List ℕ) (log : List Event) → IsMadeThere name place bytes log → IsMadeAt name place bytes log
once name place bytes log is = record {
  at = place;
  content = is.content;
  due = for_once is.number is.to is.content is.there;
  made = is.made;
}

pub again : (name : List ℕ) (place at : ℕ) (bytes : List ℕ) (log : List Event) → IsAgainAt place at log → IsMadeThere name at bytes log → IsMadeAt name place bytes log
again name place at bytes log here is = record {
  at = at;
  content = is.content;
  due = once_more here.receiver at is.number is.to is.content here.there is.there;
  made = is.made;
}

pub again_stays : (place at : ℕ) (log more : List Event) → IsAgainAt place at log → IsAgainAt place at (log ++ more)
again_stays place at log more is = record { receiver = is.receiver; there = event_stays place (Again is.receiver at) log more is.there }

pub there_ok : {X E : Type 0} (items : X → List ℕ) (before : List (List ℕ)) (u : UnderState) (place : ℕ) (history : List happened.Event) (name content : List ℕ)
    (number : ℕ) (to : List ℕ) (r : Result X E) → IsUnderIn before u → place ≡ u.at → IsPrefix u.history history
    → InJournal (IsEventAt place (Accepted number to content)) before history → IfOk r (λ b. IsMade u.text name content (items b))
    → IfOk r (λ b. InJournal (IsMadeThere name place (items b)) before history)
there_ok items before u place history name content number to (Err e) is same p stands made = tt
there_ok items before u place history name content number to (Ok b) is same p stands made = λ faithful entries spells.
    let under = later (IsUnder u.at u.text) before u.history history (under_stays u.at u.text) is p faithful entries spells in
    record {
      number = number;
      to = to;
      content = content;
      there = stands faithful entries spells;
      made = subst (λ k. IsMade (plan_at k (events_of entries)) name content (items b)) (sym same)
          (subst (λ t. IsMade t name content (items b)) (sym under.plan) made);
    }

pub once_in : (name : List ℕ) (place : ℕ) (bytes : List ℕ) (before : List (List ℕ)) (history : List happened.Event)
    → InJournal (IsMadeThere name place bytes) before history → InJournal (IsMadeAt name place bytes) before history
once_in name place bytes before history is faithful entries spells = once name place bytes (events_of entries) (is faithful entries spells)

pub again_in : (name : List ℕ) (place at : ℕ) (bytes : List ℕ) (before : List (List ℕ)) (old history : List happened.Event)
    → InJournal (IsAgainAt place at) before old → IsPrefix old history → InJournal (IsMadeThere name at bytes) before history
    → InJournal (IsMadeAt name place bytes) before history
again_in name place at bytes before old history here p is faithful entries spells =
    again name place at bytes (events_of entries) (later (IsAgainAt place at) before old history (again_stays place at) here p faithful entries spells)
    (is faithful entries spells)
