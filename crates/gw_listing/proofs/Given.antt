-- What a walk has given.
use Rattle.std.proofs.Common.{◌≡◌, ℕ, zero, suc, ◌+◌, ◌<◌, ◌≤◌, ◌^◌, true, false, List, [], ◌∷◌, ◌++◌, length, drop, refl, sym, ◌∙◌, ap, subst, arith, append_assoc, length-append, length-drop}
use Rattle.std.specs.Prelude.{T, IsTrue}
use Rattle.std.proofs.lemmas.List.{append-nil}
use Rattle.gw_log.specs.Disk.{Files, AreEnds}
use Rattle.gw_log.specs.File.{Has, IsUnsynced, blocks}
use Rattle.gw_log.proofs.Batches.{has_unsynced, has_lone}
use Rattle.gw_log.proofs.Sound.{has_stands}
use Rattle.gw_log.specs.State.{ReaderState, IsRead}
use Rattle.gw_log.specs.Chain.{Head, Origin, IsLog, Holds, LogState, AreBefore, AreSome, IsEnded, spelled, none, more}
use Rattle.gw_log.proofs.Founding.{least_is}
use Rattle.gw_listing.specs.Walks.{some, AreListed, AreAllListed, AreClosed, AreBeforeClosed, WalkState, IsListed, IsAtEnd}

-- ---- records with a byte

pub some-append : (these those : List (List ℕ)) → some (these ++ those) ≡ some these ++ some those
some-append [] those = refl
some-append ([] ∷ these) those = some-append these those
some-append ((byte ∷ bytes) ∷ these) those = ap (λ (l : List (List ℕ)). (byte ∷ bytes) ∷ l) (some-append these those)

pub some-one : (r : List ℕ) → 0 < length r → some (r ∷ []) ≡ r ∷ []
some-one [] lt = absurd (omega (arith, lt))
some-one (byte ∷ bytes) lt = refl

pub some_all : (these : List (List ℕ)) → AreSome these → some these ≡ these
some_all [] all = refl
some_all ([] ∷ these) all = absurd (all.0 refl)
some_all ((byte ∷ bytes) ∷ these) all = ap (λ (l : List (List ℕ)). (byte ∷ bytes) ∷ l) (some_all these all.1)

-- ---- a file

at_most_one : (bytes : List ℕ) → length bytes ≤ 1 → IsUnsynced bytes
at_most_one [] le = tt
at_most_one (gate ∷ []) le = tt
at_most_one (gate ∷ byte ∷ bytes) le = absurd (omega (arith, le))

-- a file of which all is read but its last byte
pub has_read : {D : Type 0} (seen : D → Files) (r : ReaderState D) (records : List (List ℕ)) (upto : ℕ) → IsRead seen r records → IsTrue r.is_open
    → upto + 1 ≡ length (seen r.disk r.number) → upto ≤ r.at → Has records (seen r.disk r.number)
has_read seen r records upto read all_open is at_end =
    has_unsynced records (drop r.at (seen r.disk r.number)) (seen r.disk r.number) read.short
    (at_most_one (drop r.at (seen r.disk r.number)) (let size = length-drop r.at (seen r.disk r.number) in omega (arith, size, is, at_end))) (read.whole all_open)

-- ---- files

pub one_list : ((file : List ℕ) (these those : List (List ℕ)) → Has these file → Has those file → these ≡ those)
    → (files : Files) (first count : ℕ) (these those : List (List ℕ)) → AreListed files first count these → AreListed files first count those → these ≡ those
one_list one_way files first zero these those a b = a ∙ sym b
one_list one_way files first (suc count) these those a b =
    let fronts = one_list one_way files first count a.front b.front a.before b.before in
    let same = one_way (files (first + count)) (a.head ∷ a.these) (b.head ∷ b.these) a.has b.has in
    a.all ∙ ap (λ (l : List (List ℕ)). l ++ some a.these) fronts
    ∙ ap (λ (l : List (List ℕ)). b.front ++ some (drop 1 l)) same ∙ sym b.all

-- at the end of a file
pub all_given : {D : Type 0} (seen : D → Files) (w : WalkState D) (records : List (List ℕ)) → IsListed seen w records → IsAtEnd w
    → AreAllListed (seen w.reader.disk) w.first w.number records
all_given seen w records is at_end =
    let file = seen w.reader.disk in
    let has : Has (w.head ∷ is.these) (file w.reader.number) = has_read seen w.reader (w.head ∷ is.these) w.upto is.read is.all_open
    (is.upto ∙ ap (λ n. length (file n)) (sym is.number)) at_end in (
      suc is.count,
      (let c = is.counted in omega (arith, c)),
      record {
        front = is.front;
        head = w.head;
        these = is.these;
        before = is.files;
        has = subst (λ n. Has (w.head ∷ is.these) (file n)) (is.number ∙ is.counted) has;
        all = is.all;
      },
    )

-- before the first record of a file
pub begun : {D : Type 0} (seen : D → Files) (honest : D → Type 0) (disk next : D) (r : ReaderState D) (number size upto : ℕ)
    → r ≡ record { disk = next; number = number; at = 0; upto = upto; is_open = true } → (honest next → size ≡ length (seen disk number)) → seen next ≡ seen disk → size < 2 ^ 62
    → honest r.disk → IsRead seen r []
begun seen honest disk next r number size upto is sized same small fair =
    let n : length (seen next number) ≡ size = ap (λ f. length (f number)) same ∙ sym (sized (subst (λ s. honest s.disk) is fair)) in
    let read : IsRead seen record { disk = next; number = number; at = 0; upto = upto; is_open = true } [] =
    record { whole = λ _. refl; short = tt; here = refl; small = omega (arith, n, small) } in
    subst (λ s. IsRead seen s []) (sym is) read

-- ---- a walk

-- one record more
pub next_listed : {D : Type 0} (seen : D → Files) (w : WalkState D) (r : ReaderState D) (place : ℕ) (before : List (List ℕ)) (bytes : List ℕ) (listed : IsListed seen w before)
    → IsRead seen r (w.head ∷ (listed.these ++ bytes ∷ [])) → IsTrue r.is_open → seen r.disk ≡ seen w.reader.disk → r.number ≡ w.reader.number → 0 < length bytes → place ≡ w.place + 1
    → w.ended ≡ false
    → IsListed seen (record w { reader = r; place = place }) (before ++ bytes ∷ [])
next_listed seen w r place before bytes listed read all_open same is long next fresh =
    let size : length (before ++ bytes ∷ []) ≡ length before + 1 = length-append before (bytes ∷ []) in
    let its = listed.place in record {
      count = listed.count;
      front = listed.front;
      these = listed.these ++ bytes ∷ [];
      files = subst (λ f. AreListed f w.first listed.count listed.front) (sym same) listed.files;
      closed = subst (λ f. AreClosed f w.first listed.count) (sym same) listed.closed;
      read = read;
      all_open = all_open;
      ended = λ (t : T w.ended). absurd (subst T fresh t);
      number = is ∙ listed.number;
      counted = listed.counted;
      upto = listed.upto ∙ ap (λ f. length (f w.number)) (sym same);
      all = ap (λ (l : List (List ℕ)). l ++ bytes ∷ []) listed.all ∙ append_assoc listed.front (some listed.these) (bytes ∷ [])
          ∙ ap (λ (l : List (List ℕ)). listed.front ++ l) (sym (some-append listed.these (bytes ∷ []) ∙ ap (λ (l : List (List ℕ)). some listed.these ++ l) (some-one bytes long)));
      place = omega (arith, next, its, size);
    }

-- the record that ends a file
pub end_listed : {D : Type 0} (seen : D → Files) (w : WalkState D) (r : ReaderState D) (before : List (List ℕ)) (bytes : List ℕ) (listed : IsListed seen w before)
    → IsRead seen r (w.head ∷ (listed.these ++ bytes ∷ [])) → IsTrue r.is_open → seen r.disk ≡ seen w.reader.disk → r.number ≡ w.reader.number → length bytes ≡ 0
    → IsListed seen (record w { reader = r; ended = true }) before
end_listed seen w r before (byte ∷ bytes) listed read all_open same is empty = absurd (omega (arith, empty))
end_listed seen w r before [] listed read all_open same is empty = record {
  count = listed.count;
  front = listed.front;
  these = listed.these ++ [] ∷ [];
  files = subst (λ f. AreListed f w.first listed.count listed.front) (sym same) listed.files;
  closed = subst (λ f. AreClosed f w.first listed.count) (sym same) listed.closed;
  read = read;
  all_open = all_open;
  ended = λ (t : T true). record { front = w.head ∷ listed.these; is = refl };
  number = is ∙ listed.number;
  counted = listed.counted;
  upto = listed.upto ∙ ap (λ f. length (f w.number)) (sym same);
  all = listed.all ∙ ap (λ (l : List (List ℕ)). listed.front ++ l) (sym (some-append listed.these ([] ∷ []) ∙ append-nil (some listed.these)));
  place = listed.place;
}

-- a file of which the record that ends it was read, and behind which a closed gate stands
ended_file : {D : Type 0} (seen : D → Files) (w : WalkState D) (records : List (List ℕ)) (is : IsListed seen w records) → T w.ended
    → drop w.reader.at (seen w.reader.disk w.number) ≡ 0 ∷ []
    → seen w.reader.disk (w.first + is.count) ≡ blocks (w.head ∷ is.these) ++ 0 ∷ []
ended_file seen w records is t gate =
    let file = seen w.reader.disk in
    let here : drop w.reader.at (file w.reader.number) ≡ 0 ∷ [] = subst (λ n. drop w.reader.at (file n) ≡ 0 ∷ []) (sym is.number) gate in
    let whole : file w.reader.number ≡ blocks (w.head ∷ is.these) ++ 0 ∷ [] =
    is.read.whole is.all_open ∙ ap (λ (l : List ℕ). blocks (w.head ∷ is.these) ++ l) here in
    subst (λ n. file n ≡ blocks (w.head ∷ is.these) ++ 0 ∷ []) (is.number ∙ is.counted) whole

-- the next file
pub turn_listed : {D : Type 0} (seen : D → Files) (w : WalkState D) (r : ReaderState D) (upto number : ℕ) (head : List ℕ) (before : List (List ℕ)) → IsListed seen w before
    → w.ended ≡ true → drop w.reader.at (seen w.reader.disk w.number) ≡ 0 ∷ []
    → IsRead seen r (head ∷ []) → IsTrue r.is_open → seen r.disk ≡ seen w.reader.disk → r.number ≡ number → number ≡ w.number + 1 → upto + 1 ≡ length (seen r.disk number)
    → IsListed seen record { reader = r; upto = upto; id = w.id; first = w.first; start = w.start; number = number; last = w.last; place = w.place; head = head; ended = false } before
turn_listed seen w r upto number head before listed ended gate read all_open same is next all =
    let t : T w.ended = subst T (sym ended) tt in
    let whole = ended_file seen w before listed t gate in
    let files : AreListed (seen w.reader.disk) w.first (suc listed.count) before = record {
      front = listed.front;
      head = w.head;
      these = listed.these;
      before = listed.files;
      has = has_lone (w.head ∷ listed.these) 0 (seen w.reader.disk (w.first + listed.count)) listed.read.short whole;
      all = listed.all;
    } in
    let closed : AreClosed (seen w.reader.disk) w.first (suc listed.count) =
    (listed.closed, record { records = w.head ∷ listed.these; sealed = listed.ended t; short = listed.read.short; rest = whole }) in record {
      count = suc listed.count;
      front = before;
      these = [];
      files = subst (λ f. AreListed f w.first (suc listed.count) before) (sym same) files;
      closed = subst (λ f. AreClosed f w.first (suc listed.count)) (sym same) closed;
      read = read;
      all_open = all_open;
      ended = λ (t : T false). absurd t;
      number = is;
      counted = (let c = listed.counted in omega (arith, next, c));
      upto = all;
      all = sym (append-nil before);
      place = listed.place;
    }

-- the files before
pub each_ended : {D : Type 0} (seen : D → Files) (w : WalkState D) (records : List (List ℕ)) → IsListed seen w records → AreBeforeClosed seen w
each_ended seen w records is = (is.count, is.counted, is.closed)

-- ---- a log

ended_has : (h : Head) (these : List (List ℕ)) (file : List ℕ) → IsEnded h these file → Has (spelled h ∷ (these ++ [] ∷ [])) file
ended_has h these file is = has_lone (spelled h ∷ (these ++ [] ∷ [])) 0 file is.short is.whole

some_ended : (these : List (List ℕ)) → AreSome these → some (these ++ [] ∷ []) ≡ these
some_ended these all = some-append these ([] ∷ []) ∙ append-nil (some these) ∙ some_all these all

-- of the files before the last
before_listed : (id : ℕ) (files : Files) (last : Head) (first0 count number first before : ℕ) (acc records : List (List ℕ))
    → AreListed files first0 count acc → number ≡ first0 + count → AreBefore id files last number first before records
    → (k : ℕ) × (last.number ≡ first0 + k) × AreListed files first0 k (acc ++ records)
before_listed id files last first0 count number first before acc records listed is (none n f b follows) =
    (count, follows.its_number ∙ is, subst (AreListed files first0 count) (sym (append-nil acc)) listed)
before_listed id files last first0 count number first before acc records listed is (more n f b h these those follows ended rest) =
    let file = ended_has h these (files number) ended in
    let next : AreListed files first0 (suc count) (acc ++ these) = record {
      front = acc;
      head = spelled h;
      these = these ++ [] ∷ [];
      before = listed;
      has = subst (λ m. Has (spelled h ∷ (these ++ [] ∷ [])) (files m)) is file;
      all = ap (λ (l : List (List ℕ)). acc ++ l) (sym (some_ended these ended.some));
    } in
    let done = before_listed id files last first0 (suc count) (number + 1) (first + length these) (length (files number)) (acc ++ these) those next (omega (arith, is)) rest in
    (done.0, done.1, subst (AreListed files first0 done.0) (append_assoc acc these those) done.2)

-- a log that is open
pub held_listed : {D : Type 0} (seen : D → Files) (may_leave : D → Files → Type 0) (s : LogState D) (from : Origin) (head : Head) (records : List (List ℕ))
    → Holds seen may_leave s from head records → AreAllListed (seen s.segment.disk) from.number s.segment.number records
held_listed seen may_leave s from head records holds =
    let files = seen s.segment.disk in
    let front = before_listed s.id files head from.number 0 from.number from.first from.before [] holds.front refl (omega arith) holds.ended in
    let at : s.segment.number ≡ from.number + front.0 = sym holds.number ∙ front.1 in (
      suc front.0,
      omega (arith, at),
      record {
        front = holds.front;
        head = spelled head;
        these = holds.these;
        before = front.2;
        has = has_stands seen may_leave s.segment (spelled head ∷ holds.these) holds.stands (files (from.number + front.0)) (ap (λ n. files n) (sym at));
        all = holds.all ∙ ap (λ (l : List (List ℕ)). holds.front ++ l) (sym (some_all holds.these holds.some));
      },
    )

-- what the folder was a log of
pub open_listed : {D : Type 0} (seen : D → Files) (may_leave : D → Files → Type 0) (id first its_id its_first its_last : ℕ) (disk looked walked : D) (s : LogState D)
    (from : Origin) (head : Head) (records : List (List ℕ)) → its_id ≡ id → its_first ≡ first → its_last ≡ s.segment.number → seen looked ≡ seen disk → seen walked ≡ seen s.segment.disk
    → (last : ℕ) → AreEnds first last (seen disk) → (IsLog id (seen looked) from head records → Holds seen may_leave s from head records) → IsLog its_id (seen disk) from head records
    → (its_first ≡ from.number) × AreAllListed (seen walked) its_first its_last records
open_listed seen may_leave id first its_id its_first its_last disk looked walked s from head records is_id is_first is_last same kept last ends held log =
    let mine : IsLog id (seen disk) from head records = subst (λ i. IsLog i (seen disk) from head records) is_id log in
    let start : its_first ≡ from.number = is_first ∙ sym (least_is id (seen disk) from head records mine first last ends) in
    let holds = held (subst (λ f. IsLog id f from head records) (sym same) mine) in
    let all : AreAllListed (seen walked) its_first its_last records =
    subst (λ n. AreAllListed (seen walked) its_first n records) (sym is_last)
    (subst (λ n. AreAllListed (seen walked) n s.segment.number records) (sym start)
    (subst (λ f. AreAllListed f from.number s.segment.number records) (sym kept) (held_listed seen may_leave s from head records holds))) in
    (start, all)
