use Rattle.std.proofs.Common.{◌≡◌, ◌++◌, ◌∷◌, [], ℕ, List, None, refl, sym, ap, subst, ◌∙◌, arith}
use Rattle.std.specs.Ordering.{nat_cmp}
use Rattle.std.specs.Cmp.Lexicographic.{slice_cmp}
use Rattle.std.specs.FinMap as texts
use Rattle.std.specs.FinMap.{get-empty}
use Rattle.gw_er7.specs.declared.place.Place.{Place}
use Rattle.gw_er7.specs.Names.{header_name}
use Rattle.gw_er7.specs.Message.{SegmentValue, numbers, IsEntry, IsMessage}
use Rattle.gw_er7.specs.Building.{IsBegun, MayPut, with_last}
use Rattle.gw_er7.proofs.Lasts.{kept_put}
use Rattle.gw_er7.proofs.Builds.{begun, begun_header, begun_named, entry_at, canonical_of}
use Rattle.gw_tests.proofs.translations.far.Goals as goal

abbrev sender : Place
sender = record { field = 10; rep = 1; comp = 1; sub = 1 }

abbrev away : Place
away = record { field = 3; rep = 1; comp = 1000000000000; sub = 1000000000000 }

abbrev pid : List ℕ
pid = 80 ∷ 73 ∷ 68 ∷ []

abbrev put_in : List ℕ → List ℕ → SegmentValue → SegmentValue
put_in key text s = record s { at = texts.insert s.at key text }

none_at : (name key : List ℕ) → texts.get (begun name).at key ≡ None
none_at name key = get-empty (slice_cmp nat_cmp) key

sender_entry : IsEntry 3 (numbers sender, 55 ∷ [])
sender_entry = entry_at 3 10 1 1 1 (55 ∷ []) (omega arith) (omega arith) (omega arith) (omega arith) (omega arith) (canonical_of (55 ∷ []) refl) (omega arith)

away_entry : IsEntry 1 (numbers away, 65 ∷ [])
away_entry = entry_at 1 3 1 1000000000000 1000000000000 (65 ∷ []) (omega arith) (omega arith) (omega arith) (omega arith) (omega arith) (canonical_of (65 ∷ []) refl) (omega arith)

abbrev header : SegmentValue
header = put_in (numbers sender) (55 ∷ []) (begun header_name)

header_message : IsMessage (header ∷ [])
header_message = (record { segment = kept_put (begun header_name) (numbers sender) (55 ∷ []) begun_header.0.segment sender_entry; name = refl }, tt)

one : (a b : List SegmentValue) → a ≡ [] → b ≡ a ++ begun header_name ∷ [] → b ≡ begun header_name ∷ []
one a b ea eb = eb ∙ ap (λ (x : List SegmentValue). x ++ begun header_name ∷ []) ea

put_one : (b c : List SegmentValue) → b ≡ begun header_name ∷ [] → c ≡ with_last (put_in (numbers sender) (55 ∷ [])) b → c ≡ header ∷ []
put_one b c eb ec = ec ∙ ap (with_last (put_in (numbers sender) (55 ∷ []))) eb

pub begin-requires : goal.begin-requires
begin-requires c = subst (λ (ss : List SegmentValue). IsBegun (ss ++ begun header_name ∷ [])) (sym c.new-builder.ensures) begun_header

pub put-requires : goal.put-requires
put-requires c = subst (λ (ss : List SegmentValue). MayPut (numbers sender) (55 ∷ []) ss) (sym (one _ _ c.new-builder.ensures c.in_ok-begin.ensures.ok)) (none_at header_name (numbers sender), sender_entry)

pub begin-requires-2 : goal.begin-requires-2
begin-requires-2 c =
    let list = put_one _ _ (one _ _ c.new-builder.ensures c.in_ok-begin.ensures.ok) c.in_ok-put.ensures.ok in
    subst (λ (ss : List SegmentValue). IsBegun (ss ++ begun pid ∷ [])) (sym list) (begun_named (header ∷ []) pid header_message refl refl)

pub put-requires-2 : goal.put-requires-2
put-requires-2 c =
    let list = put_one _ _ (one _ _ c.new-builder.ensures c.in_ok-begin.ensures.ok) c.in_ok-put.ensures.ok in
    let more = c.in_ok-begin-2.ensures.ok ∙ ap (λ (ss : List SegmentValue). ss ++ begun pid ∷ []) list in
    subst (λ (ss : List SegmentValue). MayPut (numbers c.far_away.result) (65 ∷ []) ss) (sym more)
    (subst (λ (p : Place). MayPut (numbers p) (65 ∷ []) (header ∷ begun pid ∷ [])) (sym c.far_away.ensures) (none_at pid (numbers away), away_entry))
