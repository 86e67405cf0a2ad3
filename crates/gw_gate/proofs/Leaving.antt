-- How a function of the books that makes an entry is left.
use Rattle.std.proofs.Common.{◌≡◌, [], ◌≢◌, ◌+◌, ◌∙◌, ℕ, true, false, Bool, if◌then◌else◌, List, ◌∷◌, ◌++◌, Option, Some, length, refl, sym, ap, subst, arith}
use Rattle.gw_gate.specs.declared.event.Entry.{Entry}
use Rattle.gw_gate.specs.Parts.{PlanSeen, ConformingSeen, is_under, same_receivers}
use Rattle.gw_gate.specs.Journal.{EntrySeen, Journal, current, next_number, next_arrival, Start}
use Rattle.gw_gate.specs.Replies.{EventSeen, ReplySeen, Arrives, IsAccepted, IsStale, Refuses, IsRefused, Swaps, IsSwapped, IsUnlike, reply_to, added, most, noted, Noted, Refused}
use Rattle.gw_gate.specs.Entries.{entry_seen, entries_seen}
use Rattle.gw_gate.specs.own.Books.{BooksSeen, Fits, journal_of}
use Rattle.gw_gate.proofs.Answering.{short, done}
use Rattle.gw_gate.proofs.Accounts.{room_left}

-- room was made, and nothing else changed
pub fits_again : (p : Start) (items mid : List Entry) (b : BooksSeen) → mid ≡ items → Fits p (entries_seen items) b → Fits p (entries_seen mid) b
fits_again p items mid b same was = subst (λ l. Fits p (entries_seen l) b) (sym same) was

pub left_short : (p : Start) (items mid : List Entry) (b : BooksSeen) (old : Journal) (event : EventSeen) (given : ReplySeen) (e : EntrySeen) → Fits p (entries_seen items) b → journal_of p (entries_seen items) ≡ old → length items ≢ most → mid ≡ items
    → reply_to old event ≡ given → added event given ≡ Some e → Refused old event event (journal_of p (entries_seen mid))
left_short p items mid b old event given e was view room same row one = short p items old view mid event given e row one (room_left p items b was room) same

-- the same, where no room was made
pub left_back : (p : Start) (items : List Entry) (b : BooksSeen) (old : Journal) (event : EventSeen) (given : ReplySeen) (e : EntrySeen) → Fits p (entries_seen items) b → journal_of p (entries_seen items) ≡ old → length items ≢ most
    → reply_to old event ≡ given → added event given ≡ Some e → Refused old event event old
left_back p items b old event given e was view room row one = subst (Refused old event event) view (left_short p items items b old event given e was view room refl row one)

pub left_done : (p : Start) (items mid more : List Entry) (b : BooksSeen) (old : Journal) (takes : Bool) (event : EventSeen) (given : ReplySeen) (e : Entry) (note : Option EntrySeen) → Fits p (entries_seen items) b → journal_of p (entries_seen items) ≡ old → length items ≢ most
    → mid ≡ items → more ≡ mid ++ e ∷ [] → note ≡ noted takes (Some (entry_seen e)) → reply_to old event ≡ given → added event given ≡ Some (entry_seen e) → Noted takes old event given note (journal_of p (entries_seen more))
left_done p items mid more b old takes event given e note was view room same is told row one = done p items old view takes mid more e event given note row one (room_left p items b was room) same is told

-- ---- the rows of an arrival, a refusal and a swap

pub accept_row : (j : Journal) (c : ConformingSeen) → is_under c (current j).number (current j).plan ≡ true → reply_to j (Arrives c) ≡ IsAccepted (next_number j) (next_arrival j)
accept_row j c under = ap (λ u. if u then IsAccepted (next_number j) (next_arrival j) else IsStale (current j).number c) under

pub refuse_is : (p : Start) (h : List EntrySeen) (b : BooksSeen) (code : ℕ) → Fits p h b → reply_to (journal_of p h) (Refuses code) ≡ IsRefused (b.arrivals + 1)
refuse_is p h b code was =
    let k = was.arrivals.count_is in
    let count : next_arrival (journal_of p h) ≡ b.arrivals + 1 = omega (arith, k) in
    ap IsRefused count

pub swap_is : (p : Start) (h : List EntrySeen) (b : BooksSeen) (q : PlanSeen) → Fits p h b → same_receivers q p.plan ≡ true → reply_to (journal_of p h) (Swaps q) ≡ IsSwapped (b.version + 1)
swap_is p h b q was alike =
    ap (λ s. if s then IsSwapped ((current (journal_of p h)).number + 1) else IsUnlike q) alike ∙ ap (λ v. IsSwapped (v + 1)) (sym was.plans.version_is)

pub unlike_is : (p : Start) (h : List EntrySeen) (q : PlanSeen) → same_receivers q p.plan ≡ false → reply_to (journal_of p h) (Swaps q) ≡ IsUnlike q
unlike_is p h q other = ap (λ s. if s then IsSwapped ((current (journal_of p h)).number + 1) else IsUnlike q) other
