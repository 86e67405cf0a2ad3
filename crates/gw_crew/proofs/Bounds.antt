-- No more notes than a slice can have.
use Rattle.std.proofs.Common.{◌≡◌, ◌<◌, ◌-◌, ◌^◌, ℕ, List, length, arith, ap, ◌∙◌, sym}
use Rattle.std.proofs.lemmas.List.{length-map}
use Rattle.gw_crew.specs.declared.note.Note.{Note}
use Rattle.gw_crew.specs.Notes.{NoteSeen}
use Rattle.gw_crew.specs.Seen.{note_seen, notes_seen}

pub noted_few : (notes : List Note) (seen : List NoteSeen) → notes_seen notes ≡ seen → length notes < 18446744073709551616 → length seen < 18446744073709551616
noted_few notes seen is few = let same = sym (ap length is) ∙ length-map notes note_seen in omega (arith, few, same)

pub falls : (a b : ℕ) → a < b → a < 18446744073709551616 → 2 ^ 64 - b < 2 ^ 64 - a
falls a b more few = omega (arith, more, few)
