-- What was read is written as bytes that read as it again.
use Rattle.std.proofs.Common.{◌≡◌, ℕ, suc, ◌<◌, List, [], ◌∷◌, length, ap, arith}
use Rattle.gw_er7.specs.declared.delimiters.Delimiters.{Delimiters}
use Rattle.gw_er7.specs.declared.fault.ReadFault.TheVariants.{TooManySegments}
use Rattle.gw_er7.specs.Content.{Line, lines, delimiters_of, header_line}
use Rattle.gw_er7.specs.Message.{SegmentValue, IsMessage}
use Rattle.gw_er7.specs.Reading.{ReadsOthers, ReadsLines, Reads}
use Rattle.gw_er7.specs.Written.{written}
use Rattle.gw_er7.proofs.Again.{reads_again}

others : (d : Delimiters) (ls : List Line) (ss : List SegmentValue) → ReadsOthers d ls ss → length ss ≡ length ls
others d [] ss is = ap length is
others d (l ∷ ls) [] is = absurd is
others d (l ∷ ls) (s ∷ ss) is = ap suc (others d ls ss is.1)

-- a segment for each line
each_line : (d : Delimiters) (ls : List Line) (ss : List SegmentValue) → ReadsLines d ls ss → length ss ≡ length ls
each_line d [] ss is = absurd is
each_line d (l ∷ ls) [] is = absurd is
each_line d (l ∷ ls) (s ∷ ss) is = ap suc (others d ls ss is.1)

-- what was read has no more segments than a message
pub few : (content : List ℕ) (m : List SegmentValue) → Reads content m → 10000 < length m → ⊥
few content m reads many =
    let same : length m ≡ length (lines content) = each_line (delimiters_of (header_line (lines content))) (lines content) m reads.segments in
    reads.readable TooManySegments (omega (arith, many, same))

pub again : (content : List ℕ) (m : List SegmentValue) → Reads content m → IsMessage m → Reads (written m) m
again content m reads is =
    let some : 10000 < length m → ⊥ = few content m reads in
    reads_again m is (omega (arith, some))
