-- What a step answers, by the row of its event.
use Rattle.std.proofs.Common.{◌≡◌, ◌<◌, ◌&&◌, ◌∙◌, ℕ, Bool, true, false, if◌then◌else◌, List, [], ◌∷◌, ◌++◌, Option, None, Some, is_some, length, refl, sym, ap, subst, arith}
use Rattle.std.specs.Prelude.{nat_le, IsTrue}
use Rattle.std.proofs.lemmas.Grind.{common_steps}
use Rattle.std.proofs.lemmas.Option.{none-some}
use Rattle.gw_gate.specs.declared.event.Entry.{Entry}
use Rattle.gw_gate.specs.Journal.{EntrySeen, Journal, with_entry, Start}
use Rattle.gw_gate.specs.Replies.{EventSeen, Looks, Arrives, Refuses, Swaps, Takes, Puts, Reissues, Releases, Cuts, ReplySeen, IsCurrent, IsClosed, IsFull, reply_to, added, most, limited, reply, with_added, closed_by, or_next, takes_memory, Refused, noted, Noted}
use Rattle.gw_gate.specs.Entries.{entry_seen, entries_seen}
use Rattle.gw_gate.specs.own.Books.{journal_of}
use Rattle.gw_gate.proofs.Entering.{entered, as_long}
use Rattle.gw_gate.proofs.Releasing.{added_full}

roomy : (n : ℕ) → n < most → nat_le most n ≡ false
roomy n lt = grind (arith, common_steps)

crowded : (n : ℕ) → n ≡ most → nat_le most n ≡ true
crowded n is = grind (arith, common_steps)

-- the reply where the row adds nothing
open_reply : (j : Journal) (event : EventSeen) (given : ReplySeen) → reply_to j event ≡ given → added event given ≡ None → reply j event ≡ given
open_reply j event given row none =
    ap (limited most j event) row ∙ ap (λ o. if (is_some o && nat_le most (length j.entries)) then IsFull event else given) none

room_reply : (j : Journal) (event : EventSeen) (given : ReplySeen) (e : EntrySeen) → reply_to j event ≡ given → added event given ≡ Some e → length j.entries < most → reply j event ≡ given
room_reply j event given e row one lt =
    ap (limited most j event) row ∙ ap (λ o. if (is_some o && nat_le most (length j.entries)) then IsFull event else given) one
    ∙ ap (λ b. if b then IsFull event else given) (roomy (length j.entries) lt)

full_reply : (j : Journal) (event : EventSeen) (given : ReplySeen) (e : EntrySeen) → reply_to j event ≡ given → added event given ≡ Some e → length j.entries ≡ most → reply j event ≡ IsFull event
full_reply j event given e row one is =
    ap (limited most j event) row ∙ ap (λ o. if (is_some o && nat_le most (length j.entries)) then IsFull event else given) one
    ∙ ap (λ b. if b then IsFull event else given) (crowded (length j.entries) is)

note_none : (takes : Bool) → None ≡ noted takes None
note_none true = refl
note_none false = refl

some_memory : (event : EventSeen) (given : ReplySeen) (e : EntrySeen) → added event given ≡ Some e → IsTrue (takes_memory event given)
some_memory event given e one = by given one
  where
    by : (g : ReplySeen) → added event g ≡ Some e → IsTrue (takes_memory event g)
    by (IsCurrent version plan) one = refl
    by (IsClosed chapter) one = refl
    by g one = ap is_some one

-- the row adds nothing
pub plain : (takes : Bool) (j : Journal) (event : EventSeen) (given : ReplySeen) → reply_to j event ≡ given → added event given ≡ None → closed_by given ≡ None → Noted takes j event given None j
plain takes j event given row none stays =
    let r = open_reply j event given row none in
    let o : added event (reply j event) ≡ None = ap (added event) r ∙ none in
    record { replied = record { reply_is = sym r; new_is = sym (ap (or_next (with_added j (added event (reply j event)))) (ap closed_by r ∙ stays) ∙ ap (with_added j) o) }; note_is = note_none takes ∙ ap (noted takes) (sym o) }

no_entry : (event : EventSeen) (chapter : Journal) → added event (IsClosed chapter) ≡ None
no_entry Looks chapter = refl
no_entry (Arrives c) chapter = refl
no_entry (Refuses code) chapter = refl
no_entry (Swaps plan) chapter = refl
no_entry Takes chapter = refl
no_entry (Puts n t) chapter = refl
no_entry (Reissues n r) chapter = refl
no_entry (Releases r) chapter = refl
no_entry Cuts chapter = refl

-- what adds an entry closes nothing
stays_open : (event : EventSeen) (given : ReplySeen) (e : EntrySeen) → added event given ≡ Some e → closed_by given ≡ None
stays_open event (IsClosed chapter) e one = absurd (none-some e (sym (no_entry event chapter) ∙ one))
stays_open event given e one = refl

module _ (p : Start) (items : List Entry) (old : Journal) (view : journal_of p (entries_seen items) ≡ old) where
  long : length old.entries ≡ length items
  long = ap (λ j. length j.entries) (sym view) ∙ as_long items

  -- it would add an entry, and there is no room for it
  pub full : (takes : Bool) (event : EventSeen) (given : ReplySeen) (e : EntrySeen) → reply_to old event ≡ given → added event given ≡ Some e → length items ≡ most → Noted takes old event (IsFull event) None old
  full takes event given e row one is =
      let r = full_reply old event given e row one (long ∙ is) in
      let o : added event (reply old event) ≡ None = ap (added event) r ∙ added_full event in
      record { replied = record { reply_is = sym r; new_is = sym (ap (or_next (with_added old (added event (reply old event)))) (ap closed_by r) ∙ ap (with_added old) o) }; note_is = note_none takes ∙ ap (noted takes) (sym o) }

  -- it would add an entry, and memory is wanting
  pub short : (mid : List Entry) (event : EventSeen) (given : ReplySeen) (e : EntrySeen) → reply_to old event ≡ given → added event given ≡ Some e → length items < most → mid ≡ items → Refused old event event (journal_of p (entries_seen mid))
  short mid event given e row one lt same =
      let r = room_reply old event given e row one (let l = long in omega arith) in
      record {
        back_is = refl;
        new_is = ap (λ l. journal_of p (entries_seen l)) same ∙ view;
        short = subst (λ g. IsTrue (takes_memory event g)) (sym r) (some_memory event given e one);
      }

  -- it added its entry
  pub done : (takes : Bool) (mid more : List Entry) (e : Entry) (event : EventSeen) (given : ReplySeen) (note : Option EntrySeen) → reply_to old event ≡ given → added event given ≡ Some (entry_seen e) → length items < most → mid ≡ items → more ≡ mid ++ e ∷ []
      → note ≡ noted takes (Some (entry_seen e)) → Noted takes old event given note (journal_of p (entries_seen more))
  done takes mid more e event given n row one lt same is told =
      let r = room_reply old event given (entry_seen e) row one (let l = long in omega arith) in
      let o : added event (reply old event) ≡ Some (entry_seen e) = ap (added event) r ∙ one in
      record {
        replied = record {
          reply_is = sym r;
          new_is = ap (journal_of p) (entered items more e (is ∙ ap (λ l. l ++ e ∷ []) same)) ∙ ap (λ j. with_entry j (entry_seen e)) view ∙ sym (ap (or_next (with_added old (added event (reply old event)))) (ap closed_by r ∙ stays_open event given (entry_seen e) one) ∙ ap (with_added old) o);
        };
        note_is = told ∙ ap (noted takes) (sym o);
      }
