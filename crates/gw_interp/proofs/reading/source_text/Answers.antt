use Rattle.std.proofs.Common.{sym, subst}
use Rattle.gw_resolve.specs.Seen.{source as seen_source}
use Rattle.gw_interp.specs.Meaning.{InFirst, SourceMeans}
use Rattle.gw_interp.specs.own.Sourced.{walks}
use Rattle.gw_interp.proofs.reading.source_text.Goals as goal

pub returns-in-OfField : goal.returns-in-OfField
returns-in-OfField c = λ m a.
    subst (λ s. SourceMeans (walks m c.args.reading.now) (seen_source s) c.first_text.result.now) (sym c.in-OfField.is)
    (subst (λ t. InFirst t c.in-OfField.from.field c.in-OfField.at.comp c.in-OfField.at.sub c.first_text.result.now) (c.segment_at-segment.ensures m a) c.first_text.ensures.means)
