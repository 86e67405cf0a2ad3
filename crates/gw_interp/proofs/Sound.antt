-- What a map makes of a message that conforms to the source conforms to the target.
use Rattle.std.proofs.Common.{◌≡◌, ℕ, true, List, [], ◌∷◌, refl, sym, ap, ◌∙◌, subst}
use Rattle.std.specs.Prelude.{cond}
use Rattle.std.specs.List.{AllByRecursion}
use Rattle.gw_er7.specs.Message.{SegmentValue}
use Rattle.gw_profile.specs.Shapes.{FieldValue, Forest, ProfileValue}
use Rattle.gw_profile.specs.WellFormed.{table_names}
use Rattle.gw_validate.specs.Breaches.{Meets}
use Rattle.gw_profile.specs.Names.{stands}
use Rattle.gw_validate.specs.Conforming.{Seq, listed, Conforms}
use Rattle.gw_validate.specs.Trees.{Tree}
use Rattle.gw_validate.specs.Broken.{IsTreeOf}
use Rattle.gw_resolve.specs.Resolved.{Resolved}
use Rattle.gw_check.specs.Levels.{sources}
use Rattle.gw_interp.specs.Meaning.{IsImage, walked, Means}
use Rattle.gw_interp.proofs.FieldSound.{field_sound}
use Rattle.gw_interp.proofs.LevelsSound.{FieldsSound}
use Rattle.gw_interp.proofs.Known.{walked_known}
use Rattle.gw_interp.proofs.Named.{seq_each, each_stands}
use Rattle.gw_interp.proofs.Typed.{Allows, seq_of}

-- every segment of a list that can be cut for a profile has a name of the profile
all_listed : (f : Forest) (l : List SegmentValue) → AllByRecursion (λ s. stands f s.name ≡ true) l → listed f l ≡ l
all_listed f [] h = refl
all_listed f (s ∷ l) h = ap (λ b. cond b (s ∷ listed f l) (listed f l)) h.0 ∙ ap (λ m. s ∷ m) (all_listed f l h.1)

-- a segment with the texts of rules for which nothing fails meets its shape
abbrev MeetsShape : ProfileValue → List FieldValue → SegmentValue → Type 0
MeetsShape profile shape s = Meets profile shape s.at

fields_sound : (from to : ProfileValue) (names : List (List ℕ)) (m : List SegmentValue) → FieldsSound from to (table_names from.tables) names m IsImage (MeetsShape to)
fields_sound from to names m es os holder low name rules fields s h rising lawful rules_lawful none image =
    (image.named, field_sound (sources from es) (walked m os) (walked_known from (table_names from.tables) m es os h) to holder rules fields none names name lawful rules_lawful s image)

pub sound : (source target : ProfileValue) (map : Resolved) → Allows source target map → (m : List SegmentValue) (tree : Tree) → Conforms source m → IsTreeOf source m tree → (made : List SegmentValue) → Means target map m tree made → Conforms target made
sound source target map allowed m tree conforms is made means =
    let seq = seq_of source target map allowed m tree conforms is IsImage (MeetsShape target) (fields_sound source target (table_names target.tables) m) made means in
    let same = all_listed target.nodes made (seq_each _ (λ name. stands target.nodes name ≡ true) target.nodes (each_stands target.nodes) made seq) in
    subst (Seq (λ s. s.name) (MeetsShape target) target.nodes) (sym same) seq
