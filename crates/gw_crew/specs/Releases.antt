-- What a reply to Release gives, and what is noted of it.
use Rattle.std.specs.Prelude.{◌≡◌, ℕ, List, [], ◌∷◌, ◌++◌}
use Rattle.std.specs.Arc.{arc_value}
use Rattle.gw_gate.specs.Journal.{WasOut}
use Rattle.gw_gate.specs.Parts.{TranslatedSeen}
use Rattle.gw_gate.specs.Replies.{ReplySeen, IsOut, IsNothing}
use Rattle.gw_gate.specs.Seen.{translated_seen}
use Rattle.gw_crew.specs.declared.couriers.ReleaseReply as courier
use Rattle.gw_crew.specs.Notes.{NoteSeen, WasFull, WasNothing, Added}

pub data ReleaseReplySeen : Type 0 where
  IsGiven : (n : ℕ) → (translated : TranslatedSeen) → ReleaseReplySeen
  NoneKept : ReleaseReplySeen
  NoSpace : ReleaseReplySeen

abbrev pub release_reply_seen : courier.ReleaseReply → ReleaseReplySeen
release_reply_seen (courier.TheVariants.Out n t) = IsGiven n (translated_seen (arc_value t))
release_reply_seen courier.TheVariants.Nothing = NoneKept
release_reply_seen courier.TheVariants.Full = NoSpace

abbrev pub release_reply : ReplySeen → ReleaseReplySeen
release_reply (IsOut n t) = IsGiven n t
release_reply IsNothing = NoneKept
release_reply given = NoSpace

-- what is noted of it
abbrev pub release_notes : ℕ → ℕ → ReleaseReplySeen → List NoteSeen
release_notes at r (IsGiven n t) = Added at (WasOut n r t) ∷ []
release_notes at r NoneKept = WasNothing r ∷ []
release_notes at r NoSpace = WasFull ∷ []

pub record GaveOut (r : ℕ) (given : ReleaseReplySeen) (old new : List NoteSeen) : Type 0 where
  pub at : ℕ
  pub noted : new ≡ old ++ release_notes at r given
