-- What a byte is among fields. The reader's own words.
use Rattle.std.specs.Prelude.{◌≡◌, ◌<◌, ℕ, ◌==◌, ◌||◌, if◌then◌else◌, List, length, slice_index_or, refl}
use Rattle.std.specs.Coded.{Coded, code_by, coded×, coded_ℕ}
use Rattle.gw_er7.specs.declared.delimiters.Delimiters.{Delimiters}
use Rattle.gw_er7.specs.declared.classes.Class.{Class}
use Rattle.gw_er7.specs.declared.classes.Class.TheVariants.{Text, Field, Repetition, Component, Subcomponent, Escape}
use Rattle.gw_er7.specs.Text.{is_special}

-- delimiters are stored as their five bytes
abbrev pub delimiters_code : Coded Delimiters
delimiters_code =
    code_by (ℕ × (ℕ × (ℕ × (ℕ × ℕ)))) (coded× coded_ℕ (coded× coded_ℕ (coded× coded_ℕ (coded× coded_ℕ coded_ℕ))))
    (λ d. (d.field, (d.component, (d.repetition, (d.escape, d.subcomponent))))) (λ p. record { field = p.0; component = p.1.0; repetition = p.1.1.0; escape = p.1.1.1.0; subcomponent = p.1.1.1.1 }) (λ _. refl)

-- a separator, or else a byte that doesn't stand for itself, or else one that does
abbrev pub class_of : Delimiters → ℕ → Class
class_of d b =
    if b == d.field then Field else if b == d.repetition then Repetition else if b == d.component then Component else if b == d.subcomponent then Subcomponent
    else if is_special b || b == d.escape then Escape else Text

-- the table has the class of each byte
pub record AreClasses (d : Delimiters) (table : List Class) : Type 0 where
  pub long : length table ≡ 256
  pub each : (b : ℕ) → b < 256 → slice_index_or table b Text ≡ class_of d b
