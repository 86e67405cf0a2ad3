-- Journals that were closed.
use Rattle.std.specs.Prelude.{◌≡◌, false}
use Rattle.gw_gate.specs.Journal.{Journal}
use Rattle.gw_gate.specs.Chapters.{is_pending}
use Rattle.gw_gate.specs.Headline.{IsTranslated}
use Rattle.gw_gate.specs.Lawful.{IsLawful}
use Rattle.gw_gate.specs.Meaning.{Makes}

-- it is lawful, and nothing was pending
pub record IsChapter (j : Journal) : Type 0 where
  pub lawful : IsLawful (IsTranslated Makes) j
  pub done : is_pending j ≡ false
