-- What the replies to a Cut give and leave.
use Rattle.std.proofs.Common.{◌≡◌, List, Option, Ok, sym, subst, ◌∙◌, append-nil}
use Rattle.gw_gate.specs.Journal.{Journal}
use Rattle.gw_gate.specs.Replies as event
use Rattle.gw_gate.specs.Replies.{ReplySeen, IsPending, IsClosed, closed_by}
use Rattle.gw_crew.specs.Cutting.{Cuts, closed, pending}
use Rattle.gw_crew.specs.Notes.{NoteSeen, Notes}

pub cuts_so : (given : ReplySeen) (o : Option Journal) (old new : List NoteSeen) → o ≡ closed_by given → Notes event.Cuts given old new → Cuts old (Ok o) new
cuts_so IsPending o old new is noted = subst (λ x. Cuts old (Ok x) new) (sym is) (pending new noted)
cuts_so (IsClosed chapter) o old new is noted = subst (λ x. Cuts old (Ok x) new) (sym is) (closed chapter new noted)
cuts_so given o old new is noted = absurd noted.answers

pub same_so : (given : ReplySeen) (old new : List NoteSeen) → Notes event.Cuts given old new → new ≡ old
same_so IsPending old new noted = noted.notes ∙ append-nil old
same_so (IsClosed chapter) old new noted = noted.notes ∙ append-nil old
same_so given old new noted = absurd noted.answers
