-- A worker's rounds.
use Rattle.std.proofs.Common.{◌≡◌, ◌≤◌, ◌<◌, ◌+◌, ℕ, Bool, true, false, List, [], ◌∷◌, ◌++◌, Option, None, Some, length, refl, sym, ap, subst, ◌∙◌, arith}
use Rattle.std.proofs.Common.{append_assoc, append-nil, length-append}
use Rattle.gw_gate.specs.Journal.{WasTaken, WasKept}
use Rattle.gw_gate.specs.Parts.{TranslatedSeen}
use Rattle.gw_gate.specs.Replies.{Puts, ReplySeen, IsKept, IsRepeat, IsStranger, IsFull}
use Rattle.gw_crew.specs.Notes.{NoteSeen, WasFull, WasIdle, Added, Notes}
use Rattle.gw_crew.specs.Works.{Rounds, no_round, kept, dropped, waited, Ends, idle, full, full_in_hand, stopped, InHand, job, Worked, Works}
use Rattle.gw_crew.specs.own.Turns.{Finishes, is_kept, is_dropped, is_full, is_stopped, Turn, keeps, drops, waits, ends, Adds, put_reply}
use Rattle.gw_stream.specs.declared.counts.Counts.{Counts}
use Rattle.gw_stream.specs.Counted.{nothing}
use Rattle.gw_crew.proofs.Going.{goes_to}

-- ---- one round

-- a job was taken, and then ended so
turn_of : (at n r : ℕ) (k : Option ℕ) (s : Bool) (more : List NoteSeen) → Finishes n r k s more → Turn k s (Added at (WasTaken n r) ∷ more)
turn_of at n r k s more (is_kept later t to) =
    subst (λ q. Turn (Some 1) false (Added at (WasTaken n q) ∷ Added later (WasKept n t) ∷ [])) to (keeps at later n t)
turn_of at n r k s more is_dropped = drops at n r
turn_of at n r k s more is_full = ends false (Added at (WasTaken n r) ∷ WasFull ∷ []) (full_in_hand at n r)
turn_of at n r k s more is_stopped = ends true (Added at (WasTaken n r) ∷ []) (stopped at n r)

pub turns_so : (old mid new : List NoteSeen) (at n r : ℕ) (k : Option ℕ) (s : Bool) → mid ≡ old ++ Added at (WasTaken n r) ∷ []
    → Adds (Finishes n r k s) mid new → Adds (Turn k s) old new
turns_so old mid new at n r k s took done = record {
  more = Added at (WasTaken n r) ∷ done.more;
  holds = turn_of at n r k s done.more done.holds;
  noted = done.noted ∙ ap (λ l. l ++ done.more) took ∙ append_assoc old (Added at (WasTaken n r) ∷ []) done.more;
}

-- ---- all rounds

pub worked_none : (old : List NoteSeen) → Worked old old 0
worked_none old = record { notes = []; rounds = no_round; noted = sym (append-nil old) }

-- what a round does that goes on
pub record Onward (notes : List NoteSeen) (k x : ℕ) (s : Bool) (more : List NoteSeen) : Type 0 where
  pub rounds : Rounds notes k → Rounds (notes ++ more) (k + x)
  pub running : s ≡ false
  pub some : 0 < length more
  pub few : x ≤ 1

-- and one that doesn't
abbrev pub Next : List NoteSeen → ℕ → Option ℕ → Bool → List NoteSeen → Type 0
Next notes k None s more = Ends s more
Next notes k (Some x) s more = Onward notes k x s more

pub next_of : (notes : List NoteSeen) (k : ℕ) (o : Option ℕ) (s : Bool) (more : List NoteSeen) → Turn o s more → Next notes k o s more
next_of notes k o s more (keeps at later n t) = record { rounds = kept notes k at later n t; running = refl; some = omega arith; few = omega arith }
next_of notes k o s more (drops at n r) = record {
  rounds = λ was. subst (Rounds (notes ++ Added at (WasTaken n r) ∷ [])) (let e : k ≡ k + 0 = omega arith in e) (dropped notes k at n r was);
  running = refl;
  some = omega arith;
  few = omega arith;
}
next_of notes k o s more waits = record {
  rounds = λ was. subst (Rounds (notes ++ WasIdle ∷ [])) (let e : k ≡ k + 0 = omega arith in e) (waited notes k was);
  running = refl;
  some = omega arith;
  few = omega arith;
}
next_of notes k o s more (ends stop last is) = is

-- the rounds go on
pub worked_more : (old mid new : List NoteSeen) (k x : ℕ) (s : Bool) → Worked old mid k → Adds (Turn (Some x) s) mid new → Worked old new (k + x)
worked_more old mid new k x s was turn = record {
  notes = was.notes ++ turn.more;
  rounds = (next_of was.notes k (Some x) s turn.more turn.holds).rounds was.rounds;
  noted = turn.noted ∙ ap (λ l. l ++ turn.more) was.noted ∙ append_assoc old was.notes turn.more;
}

-- each round leaves a note
pub longer : (mid new : List NoteSeen) (x : ℕ) (s : Bool) → Adds (Turn (Some x) s) mid new → length mid < length new
longer mid new x s turn =
    let some = (next_of [] 0 (Some x) s turn.more turn.holds).some in
    let both = ap length turn.noted ∙ length-append mid turn.more in
    omega (arith, some, both)

pub works_so : (old mid new : List NoteSeen) (k : ℕ) (s : Bool) (counts : Counts) → Worked old mid k → counts ≡ record nothing { put = k } → Adds (Turn None s)
    mid new → Works s old new counts
works_so old mid new k s counts was counted turn = record {
  mid = mid;
  kept = k;
  worked = was;
  last = turn.more;
  ends = next_of [] 0 None s turn.more turn.holds;
  noted = turn.noted;
  counted = counted;
}

-- fewer results than notes
rounds_few : (notes : List NoteSeen) (k : ℕ) → Rounds notes k → k + k ≤ length notes
rounds_few notes k no_round = omega arith
rounds_few notes k (kept before j at later n t was) =
    let few = rounds_few before j was in let both = length-append before (Added at (WasTaken n t.receiver) ∷ Added later (WasKept n t) ∷ []) in omega
    (arith, few, both)
rounds_few notes k (dropped before j at n r was) =
    let few = rounds_few before j was in let both = length-append before (Added at (WasTaken n r) ∷ []) in omega (arith, few, both)
rounds_few notes k (waited before j was) = let few = rounds_few before j was in let both = length-append before (WasIdle ∷ []) in omega (arith, few, both)

pub worked_few : (old mid : List NoteSeen) (k : ℕ) → Worked old mid k → k + k ≤ length mid
worked_few old mid k was =
    let few = rounds_few was.notes k was.rounds in let both = ap length was.noted ∙ length-append old was.notes in omega (arith, few, both)

-- ---- what the functions of a worker tell

pub put_so : (n r : ℕ) (t : TranslatedSeen) (given : ReplySeen) (k : Option ℕ) (old new : List NoteSeen) → t.receiver ≡ r → k ≡ put_reply given
    → Notes (Puts n t) given old new → Adds (Finishes n r k false) old new
put_so n r t given k old new to is noted = subst (λ x. Adds (Finishes n r x false) old new) (sym is) (by given noted)
  where
    by : (given : ReplySeen) → Notes (Puts n t) given old new → Adds (Finishes n r (put_reply given) false) old new
    by IsKept noted = record { more = Added noted.at (WasKept n t) ∷ []; holds = is_kept noted.at t to; noted = noted.notes }
    by (IsRepeat u) noted = record { more = []; holds = is_dropped; noted = noted.notes }
    by (IsStranger u) noted = record { more = []; holds = is_dropped; noted = noted.notes }
    by (IsFull e) noted = record { more = WasFull ∷ []; holds = is_full; noted = noted.notes }
    by given noted = absurd noted.answers

-- notes that a round added, by whether its pause was stopped
pub adds : (Holds : Bool → List NoteSeen → Type 0) (s b : Bool) (old new more : List NoteSeen) → s ≡ b → Holds b more → new ≡ old ++ more
    → Adds (Holds s) old new
adds Holds s b old new more is holds noted = record { more = more; holds = subst (λ x. Holds x more) (sym is) holds; noted = noted }

pub hand_so : (old mid new : List NoteSeen) (at n r : ℕ) → mid ≡ old ++ Added at (WasTaken n r) ∷ [] → new ≡ mid → Adds (InHand (Some (n, r))) old new
hand_so old mid new at n r took is = record { more = Added at (WasTaken n r) ∷ []; holds = job at n r; noted = is ∙ took }

-- for a worker's round
pub ruleset rounds = (idle, full, ends, waits, goes_to, adds, hand_so, turns_so)
