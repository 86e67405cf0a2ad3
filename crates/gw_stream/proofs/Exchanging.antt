-- Exchanges, seen through what their judge keeps.
use Rattle.std.proofs.Common.{ℕ, ◌+◌, List, Option, length, Result, ap, sym, subst}
use Rattle.gw_mllp.specs.Stream.{Tail}
use Rattle.gw_stream.specs.declared.counts.Counts.{Counts}
use Rattle.gw_stream.specs.declared.fault.RunFault.{RunFault}
use Rattle.gw_stream.specs.declared.judge.Outcome.{Outcome}
use Rattle.gw_stream.specs.Answers.{Answer, IsSettled, Message}
use Rattle.gw_stream.specs.Exchanges.{AllExchanged, Begins, Closes, Exchange, Exchanges, SomeExchanged, as_it_is, begun, more, none, not_yet, secured, secured_last, unanswered, withheld}
use Rattle.gw_stream.specs.Streams.{Ends, at_end, memory, read, too_long, truncated, turns, write}
use Rattle.gw_stream.specs.Streams as streams

module _ {S T : Type 0} (P : S → S → ℕ → Option Message → Outcome → Type 0) (Q : T → T → ℕ → Option Message → Outcome → Type 0)
    (PSecures : S → S → Type 0) (QSecures : T → T → Type 0)
    (PBreaks : S → S → Option Message → Type 0) (QBreaks : T → T → Option Message → Type 0)
    (PWithholds : S → S → Type 0) (QWithholds : T → T → Type 0) (see : S → T) (Keeps : S → Type 0)
    (step : (s t : S) (n : ℕ) (what : Option Message) (o : Outcome) → Keeps s → P s t n what o → Keeps t × Q (see s) (see t) n what o)
    (secure : (s t : S) → Keeps s → PSecures s t → Keeps t × QSecures (see s) (see t))
    (stop : (s t : S) (what : Option Message) → Keeps s → PBreaks s t what → Keeps t × QBreaks (see s) (see t) what)
    (withhold : (s t : S) → Keeps s → PWithholds s t → Keeps t × QWithholds (see s) (see t)) where
  settled_seen : (s t : S) (n : ℕ) (content : List ℕ) (a : Answer) → Keeps s → IsSettled (P s t n) content a
      → Keeps t × IsSettled (Q (see s) (see t) n) content a
  settled_seen s t n content a keeps is =
      let both = step s t n is.what is.outcome keeps is.settles in
      (both.0, record { what = is.what; is_read = is.is_read; outcome = is.outcome; settles = both.1; code = is.code; spelled = is.spelled })

  exchanges_seen : (s : S) (kept : ℕ) (done : List Exchange) (t : S) → Keeps s → Exchanges P PSecures s kept done t
      → Keeps t × Exchanges Q QSecures (see s) kept done (see t)
  exchanges_seen s _ _ _ keeps none = (keeps, none)
  exchanges_seen s _ _ _ keeps (more mid to kept done content answer before is) =
      let first = exchanges_seen s kept done mid keeps before in
      let one = settled_seen mid to (length done + 1) content answer first.0 is in
      (one.0, more (see mid) (see to) kept done content answer first.1 one.1)
  exchanges_seen s _ _ _ keeps (secured mid to kept done before is) =
      let first = exchanges_seen s kept done mid keeps before in
      let both = secure mid to first.0 is in
      (both.0, secured (see mid) (see to) kept done first.1 both.1)

  begins_seen : (n : ℕ) (s : S) (others : List (List ℕ)) (t : S) → Keeps s → Begins P PBreaks n s others t
      → Keeps t × Begins Q QBreaks n (see s) others (see t)
  begins_seen n s _ _ keeps (not_yet others) = (keeps, not_yet others)
  begins_seen n s _ _ keeps (begun content others what to is breaks) =
      let both = stop s to what keeps breaks in (both.0, begun content others what (see to) is both.1)
  begins_seen n s _ _ keeps (unanswered content others what outcome to is settles) =
      let both = step s to n what outcome keeps settles in (both.0, unanswered content others what outcome (see to) is both.1)

  closes_seen : (kept all : ℕ) (s t : S) (k : ℕ) → Keeps s → Closes PSecures PWithholds kept all s t k
      → Keeps t × Closes QSecures QWithholds kept all (see s) (see t) k
  closes_seen kept all s t _ keeps (as_it_is same) = (subst Keeps (sym same) keeps, as_it_is (ap see same))
  closes_seen kept all s t _ keeps (secured_last is) = let both = secure s t keeps is in (both.0, secured_last both.1)
  closes_seen kept all s t _ keeps (withheld is) = let both = withhold s t keeps is in (both.0, withheld both.1)

  module _ (stream : Option (List ℕ)) (s t : S) (before after : Option (List ℕ)) (keeps : Keeps s) where
    all_seen : (tail : Tail) (counts : Counts) → AllExchanged P PSecures stream s t before after tail counts
        → Keeps t × AllExchanged Q QSecures stream (see s) (see t) before after tail counts
    all_seen tail counts all =
        let each = exchanges_seen s (length all.done) all.done t keeps all.each in
        (each.0, record { done = all.done; each = each.1; cut = all.cut; bytes = all.bytes; counted = all.counted })

    some_seen : SomeExchanged P PSecures PBreaks PWithholds stream s t before after → Keeps t × SomeExchanged Q QSecures QBreaks QWithholds stream (see s) (see t) before after
    some_seen some =
        let each = exchanges_seen s some.kept some.done some.mid keeps some.each in
        let begins = begins_seen (length some.done + 1) some.mid some.others some.last each.0 some.begins in
        let closes = closes_seen some.kept (length some.done) some.last t some.secured_in_all begins.0 some.closes in (
          closes.0,
          record {
            done = some.done;
            mid = see some.mid;
            kept = some.kept;
            each = each.1;
            others = some.others;
            last = see some.last;
            begins = begins.1;
            secured_in_all = some.secured_in_all;
            closes = closes.1;
            first = some.first;
            bytes = some.bytes;
          },
        )

    pub ends_seen : (result : Result Counts RunFault)
        → Ends (AllExchanged P PSecures stream s t before after) (λ fault. SomeExchanged P PSecures PBreaks PWithholds stream s t before after) result
        → Keeps t × Ends (AllExchanged Q QSecures stream (see s) (see t) before after)
        (λ fault. SomeExchanged Q QSecures QBreaks QWithholds stream (see s) (see t) before after) result
    ends_seen _ (at_end counts all) = let it = all_seen _ counts all in (it.0, at_end counts it.1)
    ends_seen _ (truncated tail counts all) = let it = all_seen _ counts all in (it.0, truncated tail counts it.1)
    ends_seen _ (too_long counts all) = let it = all_seen _ counts all in (it.0, too_long counts it.1)
    ends_seen _ (memory some) = let it = some_seen some in (it.0, memory it.1)
    ends_seen _ (read some) = let it = some_seen some in (it.0, read it.1)
    ends_seen _ (write some) = let it = some_seen some in (it.0, write it.1)
    ends_seen _ (turns some) = let it = some_seen some in (it.0, turns it.1)
    ends_seen _ (streams.withheld some) = let it = some_seen some in (it.0, streams.withheld it.1)
