-- What is sent to writers, in order.
use Rattle.std.proofs.Common.{◌≡◌, ◌<◌, ◌||◌, ◌↔◌, ℕ, zero, suc, Result, Ok, Err, OnErr, IsErrOf, IsTrue, ◌+◌, take, drop, Bool, true, false}
use Rattle.std.proofs.Common.{List, Option, None, get_or, set, length, [], ◌∷◌, ◌++◌, map, arith, subst, sym, ap, ◌∙◌, refl, append_assoc, append-nil}
use Rattle.std.proofs.KnownBytes.{Appends-nil, Appends-trans}
use Rattle.std.proofs.Math.Bool.{or-false}
use Rattle.std.proofs.lemmas.Bool.{cond_both, eqb-true, eqb-false, false_from_ne_true, or_parts}
use Rattle.std.proofs.lemmas.List.{get_or-map, get_or-set_other, get_or-set_same, length-map, map-append, map-set, take_more, take-append-drop}
use Rattle.std.proofs.lemmas.Result.{on_ok_weaker, on_err_weaker}
use Rattle.std.specs.Io.KnownBytes.{Appends}
use Rattle.std.specs.List.{list_any}
use Rattle.std.specs.Prelude.{slice_index_or, slice_set, ◌==◌, if◌then◌else◌}
use Rattle.gw_stream.specs.declared.fault.RunFault.{RunFault}
use Rattle.gw_stream.specs.Posts.{Whom, sender, receiver, is_same, Post, bytes_to, Known, held_by, Sends, IsBeginning, none, part, whole, SendsSome}
use Rattle.gw_stream.specs.Posts.{all_held, SendsOut, SendsSomeOut}
use Rattle.gw_stream.specs.Sent.{BeginsWith, SendsPart}

-- ---- posts, one after another

bytes_more : (whom : Whom) (ps qs : List Post) → bytes_to whom (ps ++ qs) ≡ bytes_to whom ps ++ bytes_to whom qs
bytes_more whom [] qs = refl
bytes_more whom (p ∷ ps) qs =
    let front : List ℕ = if is_same whom p.whom then p.bytes else [] in
    ap (λ l. front ++ l) (bytes_more whom ps qs) ∙ sym (append_assoc front (bytes_to whom ps) (bytes_to whom qs))

pub sends_none : (k : Known) → Sends [] k k
sends_none k whom = Appends-nil (held_by k whom)

pub sends_join : (ps qs : List Post) (a b c : Known) → Sends ps a b → Sends qs b c → Sends (ps ++ qs) a c
sends_join ps qs a b c p q whom =
    subst (Appends (held_by a whom) (held_by c whom)) (sym (bytes_more whom ps qs))
    (Appends-trans (held_by a whom) (held_by b whom) (held_by c whom) (bytes_to whom ps) (bytes_to whom qs) (p whom) (q whom))

begins_more : (sent ps qs : List Post) → IsBeginning sent ps → IsBeginning sent (ps ++ qs)
begins_more _ _ qs (none ps) = none (ps ++ qs)
begins_more _ _ qs (part p ps front is) = part p (ps ++ qs) front is
begins_more _ _ qs (whole p sent ps begins) = whole p sent (ps ++ qs) (begins_more sent ps qs begins)

begins_behind : (ps sent qs : List Post) → IsBeginning sent qs → IsBeginning (ps ++ sent) (ps ++ qs)
begins_behind [] sent qs begins = begins
begins_behind (p ∷ ps) sent qs begins = whole p (ps ++ sent) (ps ++ qs) (begins_behind ps sent qs begins)

pub some_behind : (ps qs : List Post) (a b c : Known) → Sends ps a b → SendsSome qs b c → SendsSome (ps ++ qs) a c
some_behind ps qs a b c p q = record { sent = ps ++ q.sent; begins = begins_behind ps q.sent qs q.begins; sends = sends_join ps q.sent a b c p q.sends }

pub some_more : (ps qs : List Post) (a b : Known) → SendsSome ps a b → SendsSome (ps ++ qs) a b
some_more ps qs a b p = record { sent = p.sent; begins = begins_more p.sent ps qs p.begins; sends = p.sends }

-- bytes that were sent in part
cut : (whom : Whom) (bytes front : List ℕ) → BeginsWith bytes front
    → IsBeginning (record { whom = whom; bytes = front } ∷ []) (record { whom = whom; bytes = bytes } ∷ [])
cut whom bytes front is = part (record { whom = whom; bytes = bytes }) [] front is

-- ---- the receivers' writers

-- one writer's bytes grow
at_set : (olds : List (Option (List ℕ))) (r t : ℕ) (new : Option (List ℕ)) (bytes : List ℕ) → r < length olds
    → Appends (slice_index_or olds r None) new bytes
    → Appends (slice_index_or olds t None) (slice_index_or (slice_set olds r new) t None) (if t == r then bytes else [])
at_set olds r t new bytes lt grows =
    cond_both (t == r) bytes [] (Appends (get_or olds t None) (get_or (set olds r new) t None))
    (λ is. subst (λ (k : ℕ). Appends (get_or olds k None) (get_or (set olds r new) k None) bytes) (sym (eqb-true t r is))
    (rw (get_or-set_same olds r new None lt) grows))
    (λ isnt. rw (get_or-set_other olds r t new None (eqb-false t r isnt)) (Appends-nil (get_or olds t None)))

out_at : (olds : List (Option (List ℕ))) (r : ℕ) (new : Option (List ℕ)) (bytes : List ℕ) → r < length olds → Appends (slice_index_or olds r None) new bytes
    → SendsOut (record { whom = receiver r; bytes = bytes } ∷ []) olds (slice_set olds r new)
out_at olds r new bytes lt grows to_sender sender = Appends-nil to_sender
out_at olds r new bytes lt grows to_sender (receiver t) =
    subst (Appends (slice_index_or olds t None) (slice_index_or (slice_set olds r new) t None)) (sym (append-nil (if t == r then bytes else [])))
    (at_set olds r t new bytes lt grows)

-- the bytes that the writer of this number holds grew
pub sends_to : {W : Type 0} (held : W → Option (List ℕ)) (outs : List W) (r : ℕ) (d new : W) (bytes : List ℕ) → r < length outs
    → Appends (held (slice_index_or outs r d)) (held new) bytes
    → SendsOut (record { whom = receiver r; bytes = bytes } ∷ []) (map held outs) (map held (slice_set outs r new))
sends_to held outs r d new bytes lt grows =
    let within : r < length (map held outs) = subst (λ n. r < n) (sym (length-map outs held)) lt in
    subst (SendsOut (record { whom = receiver r; bytes = bytes } ∷ []) (map held outs)) (sym (map-set held outs r new))
    (out_at (map held outs) r (held new) bytes within (subst (λ k. Appends k (held new) bytes) (sym (get_or-map held outs r d None lt)) grows))

pub sends_some_to : {W : Type 0} (held : W → Option (List ℕ)) (outs : List W) (r : ℕ) (d new : W) (bytes : List ℕ) → r < length outs
    → SendsPart (held (slice_index_or outs r d)) (held new) bytes
    → SendsSomeOut (record { whom = receiver r; bytes = bytes } ∷ []) (map held outs) (map held (slice_set outs r new))
sends_some_to held outs r d new bytes lt p to_sender = record {
  sent = record { whom = receiver r; bytes = p.0 } ∷ [];
  begins = cut (receiver r) bytes p.0 p.2;
  sends = sends_to held outs r d new p.0 lt p.1 to_sender;
}

-- ---- the posts of a list, up to an item and from it on

posts_taken : {A : Type 0} (f : A → Post) (xs : List A) (i : ℕ) (x : A) → i < length xs → x ≡ slice_index_or xs i x
    → map f (take (i + 1) xs) ≡ map f (take i xs) ++ f x ∷ []
posts_taken f xs i x lt is = ap (map f) (take_more xs i x lt ∙ ap (λ y. take i xs ++ y ∷ []) (sym is)) ∙ map-append f (take i xs) (x ∷ [])

pub out_next : {A : Type 0} (f : A → Post) (xs : List A) (i : ℕ) (x : A) (a b c : List (Option (List ℕ))) → i < length xs → x ≡ slice_index_or xs i x
    → SendsOut (map f (take i xs)) a b → SendsOut (f x ∷ []) b c → SendsOut (map f (take (i + 1) xs)) a c
out_next f xs i x a b c lt is p q held =
    subst (λ l. Sends l (all_held held a) (all_held held c)) (sym (posts_taken f xs i x lt is))
    (sends_join (map f (take i xs)) (f x ∷ []) (all_held held a) (all_held held b) (all_held held c) (p held) (q held))

pub some_out_next : {A : Type 0} (f : A → Post) (xs : List A) (i : ℕ) (x : A) (a b c : List (Option (List ℕ))) → i < length xs → x ≡ slice_index_or xs i x
    → SendsOut (map f (take i xs)) a b → SendsSomeOut (f x ∷ []) b c → SendsSomeOut (map f xs) a c
some_out_next f xs i x a b c lt is p q held =
    let rest = map f (drop (i + 1) xs) in
    let all : (map f (take i xs) ++ f x ∷ []) ++ rest ≡ map f xs =
    ap (λ l. l ++ rest) (sym (posts_taken f xs i x lt is)) ∙ sym (map-append f (take (i + 1) xs) (drop (i + 1) xs))
    ∙ ap (map f) (take-append-drop (i + 1) xs) in
    subst (λ l. SendsSome l (all_held held a) (all_held held c)) all
    (some_more (map f (take i xs) ++ f x ∷ []) rest (all_held held a) (all_held held c)
    (some_behind (map f (take i xs)) (f x ∷ []) (all_held held a) (all_held held b) (all_held held c) (p held) (q held)))

-- ---- which writers failed

-- the one that was written to, alone
pub any_set : {W : Type 0} (failed : W → Bool) (outs : List W) (r : ℕ) (new : W) → list_any failed outs ≡ false → r < length outs
    → list_any failed (slice_set outs r new) ≡ failed new
any_set failed [] r new works lt = absurd (omega arith)
any_set failed (w ∷ ws) zero new works lt = ap (λ b. failed new || b) (or_parts (failed w) _ works).1 ∙ or-false (failed new)
any_set failed (w ∷ ws) (suc r) new works lt =
    ap (λ b. b || list_any failed (slice_set ws r new)) (or_parts (failed w) _ works).0
    ∙ any_set failed ws r new (or_parts (failed w) _ works).1 (omega arith)

-- ---- the receivers first, and then the sender

sends_to_sender : (outs : List (Option (List ℕ))) (old new : Option (List ℕ)) (bytes : List ℕ) → Appends old new bytes
    → Sends (record { whom = sender; bytes = bytes } ∷ []) (all_held old outs) (all_held new outs)
sends_to_sender outs old new bytes grows sender = subst (Appends old new) (sym (append-nil bytes)) grows
sends_to_sender outs old new bytes grows (receiver r) = Appends-nil (slice_index_or outs r None)

pub sender_last : (ps : List Post) (olds news : List (Option (List ℕ))) (old new : Option (List ℕ)) (bytes : List ℕ) → SendsOut ps olds news
    → Appends old new bytes
    → Sends (ps ++ record { whom = sender; bytes = bytes } ∷ []) (all_held old olds) (all_held new news)
sender_last ps olds news old new bytes out grows =
    sends_join ps (record { whom = sender; bytes = bytes } ∷ []) (all_held old olds) (all_held old news) (all_held new news) (out old)
    (sends_to_sender news old new bytes grows)

pub sender_in_part : (ps : List Post) (olds news : List (Option (List ℕ))) (old new : Option (List ℕ)) (bytes : List ℕ) → SendsOut ps olds news
    → SendsPart old new bytes
    → SendsSome (ps ++ record { whom = sender; bytes = bytes } ∷ []) (all_held old olds) (all_held new news)
sender_in_part ps olds news old new bytes out p =
    some_behind ps (record { whom = sender; bytes = bytes } ∷ []) (all_held old olds) (all_held old news) (all_held new news) (out old)
    (record { sent = record { whom = sender; bytes = p.0 } ∷ []; begins = cut sender bytes p.0 p.2; sends = sends_to_sender news old new p.0 p.1 })

-- for what was sent to the receivers and then to the sender
pub ruleset outcome = (on_ok_weaker, on_err_weaker, sender_last, sender_in_part)

pub none_failed : (a b : Bool) → a ≡ false → b ≡ false → IsTrue (a || b) → ⊥
none_failed a b p q is = cc

-- ---- what was sent in order is, for each, a beginning of what is meant for it

part_for : (is_for : Bool) (front bytes rest : List ℕ) → BeginsWith bytes front
    → BeginsWith ((if is_for then bytes else []) ++ rest) ((if is_for then front else []) ++ [])
part_for true front bytes rest is =
    (is.0 ++ rest, ap (λ l. l ++ rest) is.1 ∙ append_assoc front is.0 rest ∙ ap (λ l. l ++ (is.0 ++ rest)) (sym (append-nil front)))
part_for false front bytes rest is = (rest, refl)

pub for_each : (sent posts : List Post) (whom : Whom) → IsBeginning sent posts → BeginsWith (bytes_to whom posts) (bytes_to whom sent)
for_each _ _ whom (none posts) = (bytes_to whom posts, refl)
for_each _ _ whom (part post posts front is) = part_for (is_same whom post.whom) front post.bytes (bytes_to whom posts) is
for_each _ _ whom (whole post sent posts begins) =
    let others = for_each sent posts whom begins in
    let front : List ℕ = if is_same whom post.whom then post.bytes else [] in
    (others.0, ap (λ l. front ++ l) others.1 ∙ sym (append_assoc front (bytes_to whom sent) others.0))

pub err_gives : {T E P : Type 0} (r : Result T E) → P → OnErr r P
err_gives (Ok x) p = tt
err_gives (Err e) p = p

-- what was done well wasn't done by a device that failed
pub not_failed : {T : Type 0} (r : Result T RunFault) (x : T) (fault : RunFault) (failed : Bool) → r ≡ Ok x → IsErrOf r fault ↔ IsTrue failed → failed ≡ false
not_failed r x fault failed is exactly = false_from_ne_true failed (λ t. let z : ⊥ = cc (exactly.1 t) in z)
