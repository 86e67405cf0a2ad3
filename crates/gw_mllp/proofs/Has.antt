-- Where a stream has come to, by the whole stream and by the open block alone.
use Rattle.std.proofs.Common.{◌≡◌, ℕ, ◌<◌, List, [], ◌++◌, None, Some, sym, ap, subst, ◌∙◌, append_assoc, inl, inr}
use Rattle.std.proofs.lemmas.Bool.{cases_lt}
use Rattle.std.proofs.lemmas.List.{append-nil}
use Rattle.gw_mllp.specs.Stream.{Tail, Between, Within, Overlong, Blocks, IsLong, Has, Held, Stands, content_len}
use Rattle.gw_mllp.specs.Taken.{Taken, Adds}
use Rattle.gw_mllp.proofs.Fronts.{not_long}

-- an open block that is too long
is_long : (stream t : List ℕ) (blocks : List (List ℕ)) → Blocks stream blocks (Some t) → 1048576 < content_len t → IsLong stream
is_long stream t blocks cut long = (blocks, record { front = stream; more = []; whole = sym (append-nil stream); left = t; cut = cut; long = long })

pub Taken-from_has : (stream : List ℕ) (blocks : List (List ℕ)) (tail : Tail) → Has stream blocks tail → Taken stream blocks tail
Taken-from_has stream blocks Between h = h.0
Taken-from_has stream blocks (Within t) h =
    elim (cases_lt 1048576 (content_len t)) as (λ _. Taken stream blocks (Within t)) [
      | inl lt ↦ absurd (h.1 (is_long stream t blocks h.0 lt))
      | inr le ↦ (h.0, le)
    ]
Taken-from_has stream blocks Overlong h = h

pub Has-from_taken : (stream : List ℕ) (blocks : List (List ℕ)) (tail : Tail) → Taken stream blocks tail → Has stream blocks tail
Has-from_taken stream blocks Between h = (h, not_long stream blocks None h tt)
Has-from_taken stream blocks (Within t) h = (h.0, not_long stream blocks (Some t) h.0 h.1)
Has-from_taken stream blocks Overlong h = h

-- what a piece does to what a decoder holds
pub Stands-fed : (held held' : Held) (piece : List ℕ) → Adds held.waiting held.tail piece held'.waiting held'.tail
    → (stream : List ℕ) (given : List (List ℕ)) → Stands stream given held → Stands (stream ++ piece) given held'
Stands-fed held held' piece adds stream given stands =
    let made = adds.made in
    let before = given ++ held.waiting in
    let old : Taken stream (before ++ []) held.tail = subst (λ (x : List (List ℕ)). Taken stream x held.tail) (sym (append-nil before)) (Taken-from_has stream before held.tail stands) in
    let new : Taken (stream ++ piece) (before ++ made) held'.tail = adds.goes stream before old in
    let whole : before ++ made ≡ given ++ held'.waiting = append_assoc given held.waiting made ∙ ap (λ (x : List (List ℕ)). given ++ x) (sym adds.waits) in
    Has-from_taken (stream ++ piece) (given ++ held'.waiting) held'.tail (subst (λ (x : List (List ℕ)). Taken (stream ++ piece) x held'.tail) whole new)
