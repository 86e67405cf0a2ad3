-- Texts that are borrowed from a message.
use Rattle.std.specs.Prelude.{◌≡◌, ◌<◌, ℕ, List, length, slice_index_or}
use Rattle.gw_er7.specs.declared.spans.ShortSpan.{ShortSpan}
use Rattle.gw_er7.specs.declared.spans.LongSpan.{LongSpan}
use Rattle.gw_er7.specs.declared.spans.TextSpan.{TextSpan}
use Rattle.gw_er7.specs.View.{Held, AreWithin}
use Rattle.gw_er7.specs.own.Spans.{AreOf, short_span, long_span}

-- some of the spans, and the same as a slice where they are of one of these widths
pub record AreBorrowed (bytes : List ℕ) (from to : ℕ) (short : List ShortSpan) (long : List LongSpan) (spans : List TextSpan) : Type 0 where
  pub within : AreWithin bytes from to spans
  pub shorts : AreOf short_span from to short spans
  pub longs : AreOf long_span from to long spans

-- the text of this number
pub record IsNumbered (values : List Held) (i : ℕ) (value : Held) : Type 0 where
  pub within : i < length values
  pub is : (other : Held) → slice_index_or values i other ≡ value
