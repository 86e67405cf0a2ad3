-- No message that conforms has fewer segments than the least one.
use Rattle.std.proofs.Common.{◌≡◌, ℕ, zero, suc, ◌+◌, ◌*◌, ◌≤◌, Bool, List, [], ◌∷◌, length, sym, ap, ◌∙◌, arith, length-append}
use Rattle.std.specs.Prelude.{filter, min}
use Rattle.gw_er7.specs.Message.{SegmentValue}
use Rattle.std.proofs.Math.Nat.{suc-mul}
use Rattle.std.proofs.lemmas.List.{append-nil}
use Rattle.gw_profile.specs.declared.node.Node.{Node, Seg, Group}
use Rattle.gw_profile.specs.declared.node.SegNode.{SegNode}
use Rattle.gw_profile.specs.declared.node.GroupNode.{GroupNode}
use Rattle.gw_profile.specs.Seen.{segment_value, forest, node_forest}
use Rattle.gw_profile.specs.Shapes.{FieldValue, Forest, nothing, segment, group, ProfileValue}
use Rattle.gw_profile.specs.Names.{stands}
use Rattle.gw_validate.specs.Breaches.{Meets}
use Rattle.gw_validate.specs.Cuts.{Many}
use Rattle.gw_validate.specs.Conforming.{listed, One, Seq, Conforms}
use Rattle.gw_sample.specs.own.Least.{one_of, several_of, least}
use Rattle.gw_sample.proofs.Added.{least_before, group_least}
use Rattle.gw_sample.proofs.Counting.{product_capped}

one_long : {I : Type 0} (named : I → List ℕ) (meets : List FieldValue → I → Type 0) (name : List ℕ) (shape : List FieldValue) (l : List I) → One named meets name shape l → 1 ≤ length l
one_long named meets name shape [] h = absurd h
one_long named meets name shape (i ∷ l) h = omega arith

-- so many lists, each as long at least
many_long : {I A : Type 0} (P : List I → Type 0) (x : List A) → ((l : List I) → P l → length x ≤ length l) → (j k : ℕ) → j ≤ k → (l : List I) → Many P k l → length (several_of j x) ≤ length l
many_long P x h zero k le l many = omega arith
many_long P x h (suc j) zero le l many = absurd (omega (arith, le))
many_long P x h (suc j) (suc k) le l many =
    let front = h many.front many.here in
    let back = many_long P x h j k (omega (arith, le)) many.back many.there in
    omega (arith, front, back, ap length many.joined, length-append many.front many.back, length-append x (several_of j x))

seq_long : {I : Type 0} (named : I → List ℕ) (meets : List FieldValue → I → Type 0) (f : Forest) (l : List I) → Seq named meets f l → length (least f) ≤ length l
seq_long named meets nothing l h = omega arith
seq_long named meets (segment s rest) l h =
    let front = many_long (One named meets s.name s.fields) (one_of s ∷ []) (λ k one. one_long named meets s.name s.fields k one) s.card.min h.here.0 h.here.1 h.front h.here.3 in
    let back = seq_long named meets rest h.back h.there in
    omega (arith, front, back, ap length h.joined, length-append h.front h.back, length-append (several_of s.card.min (one_of s ∷ [])) (least rest))
seq_long named meets (group g nodes rest) l h =
    let front = many_long (Seq named meets nodes) (least nodes) (λ k fits. seq_long named meets nodes k fits) g.card.min h.here.0 h.here.1 h.front h.here.3 in
    let back = seq_long named meets rest h.back h.there in
    omega (arith, front, back, ap length h.joined, length-append h.front h.back, length-append (several_of g.card.min (least nodes)) (least rest))

filter_short : {X : Type 0} (p : X → Bool) (l : List X) → length (filter p l) ≤ length l
filter_short p [] = omega arith
filter_short p (x ∷ l) = let more = filter_short p l in grind (arith, more)

pub none_shorter : (p : ProfileValue) (m : List SegmentValue) → Conforms p m → length (least p.nodes) ≤ length m
none_shorter p m h =
    let some = seq_long (λ (s : SegmentValue). s.name) (λ shape s. Meets p shape s.at) p.nodes (listed p.nodes m) h in
    omega (arith, some, filter_short (λ (s : SegmentValue). stands p.nodes s.name) m)

-- ---- how many they are, up to one more than a message has

several_long : {A : Type 0} (k : ℕ) (l : List A) → length (several_of k l) ≡ k * length l
several_long zero l = omega arith
several_long (suc k) l =
    let rest = several_long k l in
    let more = suc-mul k (length l) in
    omega (arith, rest, more, length-append l (several_of k l))

pub segments_counted : (node : Node) (s : SegNode) (result : ℕ) → node ≡ Seg s → result ≡ min s.card.min 10001 → result ≡ min (length (least (node_forest node nothing))) 10001
segments_counted node s result is e =
    let n : length (least (node_forest node nothing)) ≡ s.card.min =
    ap (λ (m : Node). length (least (node_forest m nothing))) is ∙ ap length (append-nil (several_of s.card.min (one_of (segment_value s) ∷ [])))
    ∙ (let long = several_long s.card.min (one_of (segment_value s) ∷ []) in omega (arith, long)) in
    e ∙ ap (λ (m : ℕ). min m 10001) (sym n)

pub group_counted : (node : Node) (g : GroupNode) (nodes : List Node) (each result : ℕ) → node ≡ Group g → nodes ≡ g.nodes.items → each ≡ min (length (least (forest nodes))) 10001
    → result ≡ min (g.card.min * each) 10001 → result ≡ min (length (least (node_forest node nothing))) 10001
group_counted node g nodes each result is items e r =
    let n : length (least (node_forest node nothing)) ≡ g.card.min * length (least (forest nodes)) =
    ap length (group_least node g nodes is items) ∙ several_long g.card.min (least (forest nodes)) in
    let p = product_capped 10001 g.card.min (length (least (forest nodes))) each (omega arith) e in
    r ∙ p ∙ ap (λ (m : ℕ). min m 10001) (sym n)

-- the segments of the least message
abbrev pub segments_in : Forest → ℕ
segments_in f = length (least f)

pub segments_before : (n : Node) (rest : Forest) → segments_in (node_forest n rest) ≡ segments_in (node_forest n nothing) + segments_in rest
segments_before n rest = ap length (least_before n rest) ∙ length-append (least (node_forest n nothing)) (least rest)
