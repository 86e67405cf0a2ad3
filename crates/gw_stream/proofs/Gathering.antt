-- A stream that is settled block by block, with its answers gathered.
use Rattle.std.proofs.Common.{◌≡◌, ◌<◌, ◌≤◌, ◌+◌, ℕ, zero, suc, take, List, Option, Bool, true, false, Err, length, [], ◌∷◌, ◌++◌, map, arith, rules}
use Rattle.std.proofs.Common.{subst, sym, ap, ◌∙◌, refl, length-append, append_assoc, append-nil}
use Rattle.std.proofs.KnownBytes.{Appends-nil, Appends-trans}
use Rattle.std.proofs.lemmas.Grind.{flat_map-append}
use Rattle.std.proofs.lemmas.List.{length-map, length_push, map-append}
use Rattle.std.specs.Io.KnownBytes.{Appends}
use Rattle.gw_mllp.specs.Stream.{Tail, block}
use Rattle.gw_stream.specs.declared.counts.Counts.{Counts}
use Rattle.gw_stream.specs.declared.fault.RunFault.{RunFault}
use Rattle.gw_stream.specs.declared.fault.RunFault.TheVariants.{Memory, Read, Write, Withheld}
use Rattle.gw_stream.specs.declared.judge.Outcome.{Outcome}
use Rattle.gw_stream.specs.Answers.{IsSettled, Message}
use Rattle.gw_stream.specs.Counted.{nothing, with_answer, IsTotal}
use Rattle.gw_stream.specs.Exchanges.{AllExchanged, Begins, Closes, Exchange, Exchanges, SomeExchanged, as_it_is, blocks_of, content_of, more, none, not_yet, secured, secured_last, withheld}
use Rattle.gw_stream.specs.own.Gathered.{Gathers, Progress, SentAtLast, cut, held, sent}
use Rattle.gw_stream.specs.Sent.{SendsPart}
use Rattle.gw_stream.specs.Streams.{Ends}
use Rattle.gw_stream.specs.Streams as streams
use Rattle.gw_stream.specs.Walked as stops
use Rattle.gw_stream.specs.Walked.{EndsAt, Goes, Place, Stops, Walks}
use Rattle.gw_stream.proofs.Counting.{answers_next, one_more, total_one}
use Rattle.gw_stream.proofs.Walking.{goes_nowhere, stop_ends, walk_few, walk_first}

blocks_next : (done : List Exchange) (e : Exchange) → blocks_of (done ++ e ∷ []) ≡ blocks_of done ++ block e.answer.content
blocks_next done e = flat_map-append (λ x. block x.answer.content) done (e ∷ []) ∙ ap (λ l. blocks_of done ++ l) (append-nil (block e.answer.content))

module _ {S : Type 0} (Secures Withholds : S → S → Type 0) (old new : S) where
  pub sent_so : (before after : Option (List ℕ)) (bytes : List ℕ) (failed : Bool) → failed ≡ false → Secures old new → Appends before after bytes
      → SentAtLast Secures Withholds old new before after bytes failed Memory
  sent_so before after bytes failed is secures all = subst (λ b. SentAtLast Secures Withholds old new before after bytes b Memory) (sym is) (sent secures all)

  pub cut_so : (before after : Option (List ℕ)) (bytes : List ℕ) (failed : Bool) → failed ≡ true → Secures old new → SendsPart before after bytes
      → SentAtLast Secures Withholds old new before after bytes failed Write
  cut_so before after bytes failed is secures part = subst (λ b. SentAtLast Secures Withholds old new before after bytes b Write) (sym is) (cut secures part)

  pub held_so : (before after : Option (List ℕ)) (bytes : List ℕ) (failed : Bool) → failed ≡ false → Withholds old new → after ≡ before
      → SentAtLast Secures Withholds old new before after bytes failed Withheld
  held_so before after bytes failed is holds same = subst (λ b. SentAtLast Secures Withholds old new before after bytes b Withheld) (sym is) (held holds same)

  pub last_not_read : (before after : Option (List ℕ)) (bytes : List ℕ) (failed : Bool) (fault : RunFault)
      → SentAtLast Secures Withholds old new before after bytes failed fault → fault ≡ Read → ⊥
  last_not_read before after bytes _ _ (sent secures all) is = search rules
  last_not_read before after bytes _ _ (cut secures part) is = search rules
  last_not_read before after bytes _ _ (held holds same) is = search rules

pub stops_not_withheld : (here there : Place) (fault : RunFault) → Stops here there fault → fault ≡ Withheld → ⊥
stops_not_withheld here there _ stops.memory is = search rules
stops_not_withheld here there _ stops.read is = search rules
stops_not_withheld here there _ (stops.too_long ends) is = search rules
stops_not_withheld here there _ (stops.truncated t ends) is = search rules
stops_not_withheld here there _ (stops.turns goes many) is = search rules

take_front : {A : Type 0} (n : ℕ) (xs ys : List A) → n ≤ length xs → take n (xs ++ ys) ≡ take n xs
take_front zero [] ys le = refl
take_front zero (x ∷ xs) ys le = refl
take_front (suc n) [] ys le = absurd (omega arith)
take_front (suc n) (x ∷ xs) ys le = ap (λ l. x ∷ l) (take_front n xs ys (omega arith))

take_all : {A : Type 0} (xs : List A) → take (length xs) xs ≡ xs
take_all [] = refl
take_all (x ∷ xs) = ap (λ l. x ∷ l) (take_all xs)

module _ {S : Type 0} (Settles : S → S → ℕ → Option Message → Outcome → Type 0) (Secures : S → S → Type 0) (Breaks : S → S → Option Message → Type 0)
    (Withholds : S → S → Type 0) (old : S) (left : Option (List ℕ)) (reads : ℕ) (before : Option (List ℕ)) where
  -- ---- steps

  pub gathers_begin : (here : Place) (g : List ℕ) (c : Counts) → Walks left reads here [] → g ≡ [] → c ≡ nothing
      → Progress Settles Secures old old left reads here before before g c
  gathers_begin here g c walks empty is = record {
    done = [];
    kept = 0;
    each = none;
    within = omega arith;
    walks = walks;
    sent = [];
    written = Appends-nil before;
    out = refl;
    whole = sym empty;
    counted = is;
    number = ap (λ x. x.answered) is;
    total = subst IsTotal (sym is) refl;
  }

  pub gathers_go : (mid new : S) (here there : Place) (content : List ℕ) (after : Option (List ℕ)) (g g' : List ℕ) (c c' : Counts)
      → Progress Settles Secures old mid left reads here before after g c → Goes here there (content ∷ []) → Gathers Settles mid new content g g' c c'
      → Progress Settles Secures old new left reads there before after g' c'
  gathers_go mid new here there content after g g' c c' p goes made =
      let e : Exchange = record { content = content; answer = made.answer } in
      record {
        done = p.done ++ e ∷ [];
        kept = p.kept;
        within = omega (arith, p.within, length-append p.done (e ∷ []));
        each = more mid new p.kept p.done content made.answer p.each (subst (λ n. IsSettled (Settles mid new (n + 1)) content made.answer) p.number made.settled);
        walks = subst (Walks left reads there) (sym (map-append content_of p.done (e ∷ []))) (goes left reads (map content_of p.done) p.walks);
        sent = p.sent;
        written = p.written;
        out = p.out ∙ ap blocks_of (sym (take_front p.kept p.done (e ∷ []) p.within));
        whole = blocks_next p.done e ∙ ap (λ l. l ++ block made.answer.content) p.whole ∙ append_assoc p.sent g (block made.answer.content)
            ∙ ap (λ l. p.sent ++ l) (sym made.gathered);
        counted = made.counted ∙ ap (with_answer made.answer.code) p.counted ∙ sym (answers_next p.done e nothing);
        number = ap (λ x. x.answered) made.counted ∙ one_more made.answer.code c ∙ ap (λ n. n + 1) p.number ∙ sym (length_push p.done e);
        total = subst IsTotal (sym made.counted) (total_one made.answer.code c p.total);
      }

  -- all was secured, and what was gathered went out
  pub gathers_sent : (mid new : S) (here there : Place) (after after' : Option (List ℕ)) (g g' : List ℕ) (c : Counts)
      → Progress Settles Secures old mid left reads here before after g c → Secures mid new → Goes here there [] → Appends after after' g → g' ≡ []
      → Progress Settles Secures old new left reads there before after' g' c
  gathers_sent mid new here there after after' g g' c p secures goes all empty = record {
    done = p.done;
    kept = length p.done;
    within = omega arith;
    each = secured mid new p.kept p.done p.each secures;
    walks = subst (Walks left reads there) (append-nil (map content_of p.done)) (goes left reads (map content_of p.done) p.walks);
    sent = p.sent ++ g;
    written = Appends-trans before after after' p.sent g p.written all;
    out = sym p.whole ∙ ap blocks_of (sym (take_all p.done));
    whole = p.whole ∙ sym (ap (λ l. (p.sent ++ g) ++ l) empty ∙ append-nil (p.sent ++ g));
    counted = p.counted;
    number = p.number;
    total = p.total;
  }

  -- ---- ends

  pub all_of : (new : S) (here : Place) (after : Option (List ℕ)) (g : List ℕ) (c : Counts) (tail : Tail)
      → (p : Progress Settles Secures old new left reads here before after g c) → p.kept ≡ length p.done → g ≡ [] → EndsAt here tail → AllExchanged Settles Secures left old new before after tail c
  all_of new here after g c tail p all empty ends = record {
    done = p.done;
    each = subst (λ k. Exchanges Settles Secures old k p.done new) all p.each;
    cut = ends left reads (map content_of p.done) p.walks;
    bytes = subst (Appends before after) (sym (p.whole ∙ ap (λ l. p.sent ++ l) empty ∙ append-nil p.sent)) p.written;
    counted = p.counted;
  }

  -- so many were secured, of whose answers a beginning went out, and the next contents are perhaps begun
  some_of : (mid last new : S) (here there : Place) (others : List (List ℕ)) (after after' : Option (List ℕ)) (g : List ℕ) (c : Counts) (kept : ℕ)
      → (p : Progress Settles Secures old mid left reads here before after g c) → Goes here there others → Begins Settles Breaks (c.answered + 1) mid others last
      → Closes Secures Withholds p.kept (length p.done) last new kept → SendsPart before after' (blocks_of (take kept p.done))
      → SomeExchanged Settles Secures Breaks Withholds left old new before after'
  some_of mid last new here there others after after' g c kept p goes begins closes part =
      let given = map content_of p.done ++ others in
      record {
        done = p.done;
        mid = mid;
        kept = p.kept;
        each = p.each;
        others = others;
        last = last;
        begins = subst (λ n. Begins Settles Breaks (n + 1) mid others last) p.number begins;
        secured_in_all = kept;
        closes = closes;
        first = walk_first left reads there given given [] (goes left reads (map content_of p.done) p.walks) (sym (append-nil given));
        bytes = part;
      }

  -- what was sent with a part of what was gathered is a beginning of all answers
  sent_with : (mid : S) (here : Place) (after after' : Option (List ℕ)) (g : List ℕ) (c : Counts)
      → (p : Progress Settles Secures old mid left reads here before after g c) → SendsPart after after' g → SendsPart before after' (blocks_of (take (length p.done) p.done))
  sent_with mid here after after' g c p part =
      subst (λ done. SendsPart before after' (blocks_of done)) (sym (take_all p.done)) (
        p.sent ++ part.0,
        Appends-trans before after after' p.sent part.0 p.written part.1,
        (part.2.0, p.whole ∙ ap (λ l. p.sent ++ l) part.2.1 ∙ sym (append_assoc p.sent part.0 part.2.0)),
      )

  -- what was sent before is all that was secured before
  sent_before : (mid : S) (here : Place) (after : Option (List ℕ)) (g : List ℕ) (c : Counts)
      → (p : Progress Settles Secures old mid left reads here before after g c) → SendsPart before after (blocks_of (take p.kept p.done))
  sent_before mid here after g c p = (p.sent, p.written, ([], sym p.out ∙ sym (append-nil p.sent)))

  -- a writer failed between two contents
  pub gathers_unsent : (mid new : S) (here : Place) (after after' : Option (List ℕ)) (g : List ℕ) (c : Counts)
      → Progress Settles Secures old mid left reads here before after g c → Secures mid new → SendsPart after after' g
      → Ends (AllExchanged Settles Secures left old new before after') (λ fault. SomeExchanged Settles Secures Breaks Withholds left old new before after') (Err Write)
  gathers_unsent mid new here after after' g c p secures part =
      streams.write (some_of mid mid new here here [] after after' g c (length p.done) p (goes_nowhere here) (not_yet []) (secured_last secures)
      (sent_with mid here after after' g c p part))

  -- what was settled is withheld
  pub gathers_withheld : (mid new : S) (here : Place) (after : Option (List ℕ)) (g : List ℕ) (c : Counts)
      → Progress Settles Secures old mid left reads here before after g c → Withholds mid new
      → Ends (AllExchanged Settles Secures left old new before after) (λ fault. SomeExchanged Settles Secures Breaks Withholds left old new before after) (Err Withheld)
  gathers_withheld mid new here after g c p holds =
      streams.withheld (some_of mid mid new here here [] after after g c p.kept p (goes_nowhere here) (not_yet []) (withheld holds)
      (sent_before mid here after g c p))

  -- a content was not answered
  pub gathers_cut : (mid last new : S) (here there : Place) (content : List ℕ) (after after' : Option (List ℕ)) (g g' : List ℕ) (c : Counts) (failed : Bool)
      (fault : RunFault) → Progress Settles Secures old mid left reads here before after g c → Goes here there (content ∷ [])
      → Begins Settles Breaks (c.answered + 1) mid (content ∷ []) last → g' ≡ g → SentAtLast Secures Withholds last new after after' g' failed fault
      → Ends (AllExchanged Settles Secures left old new before after') (λ e. SomeExchanged Settles Secures Breaks Withholds left old new before after') (Err fault)
  gathers_cut mid last new here there content after after' g g' c _ _ p goes begins same (sent secures all) =
      let whole = subst (Appends after after') same all in
      streams.memory (some_of mid last new here there (content ∷ []) after after' g c (length p.done) p goes begins (secured_last secures)
      (sent_with mid here after after' g c p (g, whole, ([], sym (append-nil g)))))
  gathers_cut mid last new here there content after after' g g' c _ _ p goes begins same (cut secures part) =
      streams.write (some_of mid last new here there (content ∷ []) after after' g c (length p.done) p goes begins (secured_last secures)
      (sent_with mid here after after' g c p (subst (SendsPart after after') same part)))
  gathers_cut mid last new here there content after after' g g' c _ _ p goes begins same (held holds stays) =
      subst (λ w. Ends (AllExchanged Settles Secures left old new before w) (λ e. SomeExchanged Settles Secures Breaks Withholds left old new before w) (Err Withheld))
      (sym stays)
      (streams.withheld (some_of mid last new here there (content ∷ []) after after g c p.kept p goes begins (withheld holds)
      (sent_before mid here after g c p)))

  -- the stream has no block more
  pub gathers_stop : (new : S) (here there : Place) (after : Option (List ℕ)) (g : List ℕ) (c : Counts) (fault : RunFault)
      → (p : Progress Settles Secures old new left reads here before after g c) → p.kept ≡ length p.done → g ≡ [] → Stops here there fault
      → Ends (AllExchanged Settles Secures left old new before after) (λ e. SomeExchanged Settles Secures Breaks Withholds left old new before after) (Err fault)
  gathers_stop new here there after g c fault p all empty stops =
      let idle = some_of new new new here here [] after after g c p.kept p (goes_nowhere here) (not_yet []) (as_it_is refl) (sent_before new here after g c p) in
      stop_ends (AllExchanged Settles Secures left old new before after) (λ e. SomeExchanged Settles Secures Breaks Withholds left old new before after) here there c fault
      (λ tail ends. all_of new here after g c tail p all empty ends) idle idle idle stops

  -- all was secured and went out, and the stream ends there, or has no block more
  pub all_sent : (mid new : S) (here : Place) (after after' : Option (List ℕ)) (g g' : List ℕ) (c : Counts) (tail : Tail)
      → Progress Settles Secures old mid left reads here before after g c → Secures mid new → Appends after after' g → g' ≡ [] → EndsAt here tail
      → AllExchanged Settles Secures left old new before after' tail c
  unfolding gathers_sent
  all_sent mid new here after after' g g' c tail p secures all empty ends =
      all_of new here after' g' c tail (gathers_sent mid new here here after after' g g' c p secures (goes_nowhere here) all empty) refl empty ends

  pub stop_sent : (mid new : S) (here there : Place) (after after' : Option (List ℕ)) (g g' : List ℕ) (c : Counts) (fault : RunFault)
      → Progress Settles Secures old mid left reads here before after g c → Secures mid new → Appends after after' g → g' ≡ [] → Stops here there fault
      → Ends (AllExchanged Settles Secures left old new before after') (λ e. SomeExchanged Settles Secures Breaks Withholds left old new before after') (Err fault)
  unfolding gathers_sent
  stop_sent mid new here there after after' g g' c fault p secures all empty stops =
      gathers_stop new here there after' g' c fault (gathers_sent mid new here here after after' g g' c p secures (goes_nowhere here) all empty) refl empty stops

  -- no number passes what a machine can hold: a block that is given now is not the last that a run can have
  pub gathers_room : (mid : S) (here there : Place) (content : List ℕ) (after : Option (List ℕ)) (g : List ℕ) (c : Counts)
      → Progress Settles Secures old mid left reads here before after g c → Goes here there (content ∷ []) → c.answered < 16384000000
  gathers_room mid here there content after g c p goes =
      let given = map content_of p.done in
      let few = walk_few left reads there (given ++ content ∷ []) (goes left reads given p.walks) in
      let both : length (given ++ content ∷ []) ≡ length given + 1 = length-append given (content ∷ []) in
      let same : length given ≡ length p.done = length-map p.done content_of in
      let counted = p.number in
      omega arith
