-- A run over a stream, block by block.
use Rattle.std.proofs.Common.{◌≡◌, ◌<◌, ◌≤◌, ◌+◌, ℕ, List, Option, Err, length, [], ◌∷◌, ◌++◌, arith, rules, subst, sym, ap, ◌∙◌, refl, IfSome, Some, None}
use Rattle.std.proofs.Common.{append_assoc, append-nil, length-append}
use Rattle.std.proofs.lemmas.List.{length-map}
use Rattle.std.proofs.KnownBytes.{Consumes-trans, Consumes-whole}
use Rattle.std.specs.Io.KnownBytes.{Consumes, IsAtEnd}
use Rattle.std.specs.List.{flat_map}
use Rattle.gw_mllp.specs.Stream.{Blocks, Has, Held, IsFed, Stands, Overlong, Between, Within, Tail, LongAfter, Part, spelled, content_of}
use Rattle.gw_stream.specs.declared.counts.Counts.{Counts}
use Rattle.gw_stream.specs.declared.fault.RunFault.{RunFault}
use Rattle.gw_stream.specs.declared.fault.RunFault.TheVariants.{Frame, Memory, Read, Turns, Write}
use Rattle.gw_stream.specs.Reading.{ReadTimes, ReadsTooOften}
use Rattle.gw_stream.specs.Streams.{Ends, HasFirst}
use Rattle.gw_stream.specs.Streams as streams
use Rattle.gw_stream.specs.Walked.{Place, Walks, Goes, EndsAt, Stops, memory, read, too_long, truncated, turns}

-- ---- a stream has no more blocks than bytes

parts_few : (parts : List Part) → length parts ≤ length (flat_map spelled parts)
parts_few [] = omega arith
parts_few (p ∷ parts) =
    let e : length (flat_map spelled (p ∷ parts)) ≡ length (spelled p) + length (flat_map spelled parts) = length-append (spelled p) (flat_map spelled parts) in
    let f : length (spelled p) ≡ length p.gap + length (11 ∷ p.content ++ 28 ∷ 13 ∷ []) = length-append p.gap (11 ∷ p.content ++ 28 ∷ 13 ∷ []) in
    let ih = parts_few parts in
    omega arith

blocks_few : (stream : List ℕ) (blocks : List (List ℕ)) (left : Option (List ℕ)) → Blocks stream blocks left → length blocks ≤ length stream
blocks_few stream blocks left p =
    let e : length stream ≡ length (flat_map spelled p.parts) + length p.rest = ap length p.whole ∙ length-append (flat_map spelled p.parts) p.rest in
    let f : length blocks ≡ length p.parts = ap length p.contents ∙ length-map p.parts content_of in
    let g = parts_few p.parts in
    omega arith

-- a stream that has these blocks has as many bytes
pub has_few : (stream : List ℕ) (blocks : List (List ℕ)) (tail : Tail) → Has stream blocks tail → length blocks ≤ length stream
has_few stream blocks Between p = blocks_few stream blocks None p.0
has_few stream blocks (Within t) p = blocks_few stream blocks (Some t) p.0
has_few stream blocks Overlong p =
    let e : length stream ≡ length p.front + length p.more = ap length p.whole ∙ length-append p.front p.more in
    let f = blocks_few p.front blocks (Some p.left) p.cut in
    omega arith

-- each block takes a byte of those that were read
pub walk_few : (left : Option (List ℕ)) (reads : ℕ) (here : Place) (given : List (List ℕ)) → Walks left reads here given → length given ≤ 16384000000
walk_few left reads here given w =
    let blocks = has_few w.taken (given ++ here.blocks.decoder.waiting) here.blocks.decoder.tail w.stands in
    let both : length (given ++ here.blocks.decoder.waiting) ≡ length given + length here.blocks.decoder.waiting =
    length-append given here.blocks.decoder.waiting in
    let few = w.few in
    let most = w.most in
    omega arith

-- ---- steps

counts_more : (times before between after : ℕ) → ReadTimes times before between → ReadTimes 1 between after → ReadTimes (times + 1) before after
counts_more times before between after many one small = let there = many (omega arith) in let more = one (omega arith) in omega arith

-- a piece is read and taken
pub goes_read : (here there : Place) (piece : List ℕ) → Consumes here.left there.left piece → 0 < length piece → length piece ≤ 16384
    → here.blocks.turns < 1000000
    → IsFed piece here.blocks.decoder there.blocks.decoder → there.blocks.turns ≡ here.blocks.turns + 1 → ReadTimes 1 here.reads there.reads
    → Goes here there []
goes_read here there piece eats some short early feeds turn once left reads given w =
    let long : length (w.taken ++ piece) ≡ length w.taken + length piece = length-append w.taken piece in
    let many = w.many in
    let few = w.few in
    let walks : Walks left reads there given = record {
      taken = w.taken ++ piece;
      takes = Consumes-trans left here.left there.left w.taken piece w.takes eats;
      many = omega arith;
      few = omega arith;
      most = omega arith;
      stands = feeds w.taken given w.stands;
      counted = subst (λ n. ReadTimes n reads there.reads) (sym turn) (counts_more here.blocks.turns reads here.reads there.reads w.counted once);
    } in
    subst (Walks left reads there) (sym (append-nil given)) walks

pub goes_nowhere : (here : Place) → Goes here here []
goes_nowhere here left reads given w = subst (Walks left reads here) (sym (append-nil given)) w

-- ---- ends

-- nothing waits
pub stands_all : (stream : List ℕ) (blocks : List (List ℕ)) (h : Held) → Stands stream blocks h → h.waiting ≡ [] → Has stream blocks h.tail
stands_all stream blocks h stands none = subst (λ l. Has stream l h.tail) (ap (λ l. blocks ++ l) none ∙ append-nil blocks) stands

-- the source is at its end
pub ends_at : (here : Place) (after : Option (List ℕ)) (tail : Tail) → here.blocks.decoder.waiting ≡ [] → here.blocks.decoder.tail ≡ tail
    → Consumes here.left after [] → IsAtEnd after → EndsAt here tail
ends_at here after tail none is eats end left reads given w =
    let has : Has w.taken given tail = subst (λ t. Has w.taken given t) is (stands_all w.taken given here.blocks.decoder w.stands none) in
    Consumes-whole left after w.taken (λ stream. Has stream given tail)
    (subst (Consumes left after) (append-nil w.taken) (Consumes-trans left here.left after w.taken [] w.takes eats)) end has

-- what holds of what was taken, and of whatever comes behind it, holds of the stream
consumed : (P : List ℕ → Type 0) (left rest : Option (List ℕ)) (taken : List ℕ) → Consumes left rest taken → ((more : List ℕ) → P (taken ++ more))
    → IfSome left P
consumed P None rest taken takes each = tt
consumed P (Some stream) None taken takes each = absurd takes
consumed P (Some stream) (Some more) taken takes each = subst P (sym takes) (each more)

-- where what was taken is too long, the stream is
pub long_whole : (left rest : Option (List ℕ)) (taken : List ℕ) (given : List (List ℕ)) → Consumes left rest taken → LongAfter taken given
    → IfSome left (λ stream. LongAfter stream given)
long_whole left rest taken given takes long =
    consumed (λ stream. LongAfter stream given) left rest taken takes (λ more. record {
      front = long.front;
      more = long.more ++ more;
      whole = ap (λ l. l ++ more) long.whole ∙ append_assoc long.front long.more more;
      left = long.left;
      cut = long.cut;
      long = long.long;
    })

pub ends_long : (here : Place) → here.blocks.decoder.waiting ≡ [] → here.blocks.decoder.tail ≡ Overlong → EndsAt here Overlong
ends_long here none over left reads given w =
    long_whole left here.left w.taken given w.takes (subst (Has w.taken given) over (stands_all w.taken given here.blocks.decoder w.stands none))

-- ---- a run that stops in between

first_of : (stream more : List ℕ) (blocks others : List (List ℕ)) (tail : Tail) → Has stream (blocks ++ others) tail → HasFirst (stream ++ more) blocks
first_of stream more blocks others Between p = record { front = stream; more = more; whole = refl; others = others; left = None; cut = p.0 }
first_of stream more blocks others (Within t) p = record { front = stream; more = more; whole = refl; others = others; left = Some t; cut = p.0 }
first_of stream more blocks others Overlong p = record {
  front = p.front;
  more = p.more ++ more;
  whole = ap (λ l. l ++ more) p.whole ∙ append_assoc p.front p.more more;
  others = others;
  left = Some p.left;
  cut = p.cut;
}

pub first_whole : (left rest : Option (List ℕ)) (taken : List ℕ) (blocks others : List (List ℕ)) (tail : Tail) → Consumes left rest taken
    → Has taken (blocks ++ others) tail
    → IfSome left (λ stream. HasFirst stream blocks)
first_whole left rest taken blocks others tail takes has =
    consumed (λ stream. HasFirst stream blocks) left rest taken takes (λ more. first_of taken more blocks others tail has)

-- what was given first are the first blocks of the stream
pub walk_first : (left : Option (List ℕ)) (reads : ℕ) (here : Place) (given done others : List (List ℕ)) → Walks left reads here given
    → given ≡ done ++ others → IfSome left (λ stream. HasFirst stream done)
walk_first left reads here given done others w is =
    first_whole left here.left w.taken done (others ++ here.blocks.decoder.waiting) here.blocks.decoder.tail w.takes
    (subst (λ l. Has w.taken l here.blocks.decoder.tail)
    (ap (λ l. l ++ here.blocks.decoder.waiting) is ∙ append_assoc done others here.blocks.decoder.waiting) w.stands)

pub long_enough : (left rest : Option (List ℕ)) (taken : List ℕ) (most : ℕ) → Consumes left rest taken → most ≤ length taken
    → IfSome left (λ stream. most ≤ length stream)
long_enough left rest taken most takes many =
    consumed (λ stream. most ≤ length stream) left rest taken takes (λ more. omega (arith, length-append taken more))

-- after 1,000,000 reads the stream has as many bytes
pub walk_turns : (left : Option (List ℕ)) (reads : ℕ) (here : Place) (given : List (List ℕ)) → Walks left reads here given → 1000000 ≤ here.blocks.turns
    → IfSome left (λ stream. 1000000 ≤ length stream)
walk_turns left reads here given w all = let many = w.many in long_enough left here.left w.taken 1000000 w.takes (omega arith)

pub walk_counted : (left : Option (List ℕ)) (reads : ℕ) (here : Place) (given : List (List ℕ)) → Walks left reads here given → 1000000 ≤ here.blocks.turns
    → ReadTimes 1000000 reads here.reads
walk_counted left reads here given w all =
    let most = w.most in
    let is : here.blocks.turns ≡ 1000000 = omega arith in
    subst (λ n. ReadTimes n reads here.reads) is w.counted

-- ---- faults

-- how a run ends that stops so, by what is known of it at each end
pub stop_ends : (All : Tail → Counts → Type 0) (Part : RunFault → Type 0) (here there : Place) (c : Counts) (fault : RunFault)
    → ((tail : Tail) → EndsAt here tail → All tail c) → Part Memory → Part Read → Part Turns → Stops here there fault → Ends All Part (Err fault)
stop_ends All Part here there c _ all on_memory on_read on_turns memory = streams.memory on_memory
stop_ends All Part here there c _ all on_memory on_read on_turns read = streams.read on_read
stop_ends All Part here there c _ all on_memory on_read on_turns (too_long ends) = streams.too_long c (all Overlong ends)
stop_ends All Part here there c _ all on_memory on_read on_turns (truncated t ends) = streams.truncated t c (all (Within t) ends)
stop_ends All Part here there c _ all on_memory on_read on_turns (turns goes more) = streams.turns on_turns

pub stops_turns : (left : Option (List ℕ)) (reads : ℕ) (here there : Place) (given : List (List ℕ)) (fault : RunFault) → Walks left reads here given
    → Stops here there fault → fault ≡ Turns → ReadsTooOften left reads there.reads
stops_turns left reads here there given _ w (turns goes all) is =
    let walks = goes left reads given w in
    record { counted = walk_counted left reads there (given ++ []) walks all; many = walk_turns left reads there (given ++ []) walks all }
stops_turns left reads here there given _ w stops is = search rules

pub stops_within : (here there : Place) (t : List ℕ) (fault : RunFault) → fault ≡ Frame 3 → EndsAt here (Within t) → Stops here there fault
stops_within here there t fault is ends = subst (Stops here there) (sym is) (truncated t ends)

-- a fault of reading isn't one of writing
pub stops_not_write : (here there : Place) (fault : RunFault) → Stops here there fault → fault ≡ Write → ⊥
stops_not_write here there _ memory is = search rules
stops_not_write here there _ stops is = search rules
