use Rattle.std.proofs.Common.{◌≡◌, ◌++◌, ◌∷◌, [], ℕ, List, None, refl, sym, ap, subst, ◌∙◌, arith}
use Rattle.std.specs.Cmp.Lexicographic.{nat_list_cmp_total, slice_cmp}
use Rattle.std.specs.Ordering.{nat_cmp}
use Rattle.std.specs.FinMap as texts
use Rattle.std.specs.FinMap.{get-empty, get-insert}
use Rattle.gw_er7.specs.declared.place.Place.{Place}
use Rattle.gw_er7.specs.Names.{header_name}
use Rattle.gw_er7.specs.Message.{SegmentValue, numbers, IsEntry, IsMessage}
use Rattle.gw_er7.specs.Building.{IsBegun, MayPut, with_last}
use Rattle.gw_er7.proofs.Lasts.{kept_put}
use Rattle.gw_er7.proofs.Builds.{begun, begun_header, begun_named, entry_at, canonical_of}
use Rattle.gw_tests.proofs.messages.built.Goals as goal

abbrev third : List ℕ
third = 3 ∷ 1 ∷ 1 ∷ 1 ∷ []

abbrev fifth : List ℕ
fifth = 5 ∷ 1 ∷ 1 ∷ 1 ∷ []

abbrev lab : List ℕ
lab = 76 ∷ 65 ∷ 66 ∷ []

abbrev pid : List ℕ
pid = 80 ∷ 73 ∷ 68 ∷ []

abbrev value : List ℕ
value = 97 ∷ 35 ∷ 98 ∷ 92 ∷ 70 ∷ 92 ∷ 99 ∷ []

abbrev put_in : List ℕ → List ℕ → SegmentValue → SegmentValue
put_in key text s = record s { at = texts.insert s.at key text }

none_at : (name key : List ℕ) → texts.get (begun name).at key ≡ None
none_at name key = get-empty (slice_cmp nat_cmp) key

header_entry : IsEntry 3 (third, lab)
header_entry = entry_at 3 3 1 1 1 lab (omega arith) (omega arith) (omega arith) (omega arith) (omega arith) (canonical_of lab refl) (omega arith)

header : IsMessage (put_in third lab (begun header_name) ∷ [])
header = (record { segment = kept_put (begun header_name) third lab begun_header.0.segment header_entry; name = refl }, tt)

abbrev first : SegmentValue
first = put_in third lab (begun header_name)

abbrev at : ℕ → Place
at f = record { field = f; rep = 1; comp = 1; sub = 1 }

second : (a b c : List SegmentValue) (p : Place) → a ≡ [] → b ≡ a ++ begun header_name ∷ [] → p ≡ at 3 → c ≡ with_last (put_in (numbers p) lab) b → c ≡ first ∷ []
second a b c p ea eb ep ec = ec ∙ ap (λ (q : Place). with_last (put_in (numbers q) lab) b) ep ∙ ap (with_last (put_in third lab)) (eb ∙ ap (λ (x : List SegmentValue). x ++ begun header_name ∷ []) ea)

third_list : (b c : List SegmentValue) (p : Place) → b ≡ first ∷ begun pid ∷ [] → p ≡ at 5 → c ≡ with_last (put_in (numbers p) (120 ∷ [])) b → c ≡ first ∷ put_in fifth (120 ∷ []) (begun pid) ∷ []
third_list b c p eb ep ec = ec ∙ ap (λ (q : Place). with_last (put_in (numbers q) (120 ∷ [])) b) ep ∙ ap (with_last (put_in fifth (120 ∷ []))) eb

pid_begun : IsBegun (first ∷ begun pid ∷ [])
pid_begun = begun_named (first ∷ []) pid header refl refl

fifth_entry : IsEntry 1 (fifth, 120 ∷ [])
fifth_entry = entry_at 1 5 1 1 1 (120 ∷ []) (omega arith) (omega arith) (omega arith) (omega arith) (omega arith) (canonical_of (120 ∷ []) refl) (omega arith)

value_entry : IsEntry 1 (third, value)
value_entry = entry_at 1 3 1 1 1 value (omega arith) (omega arith) (omega arith) (omega arith) (omega arith) (canonical_of value refl) (omega arith)

free : texts.get (put_in fifth (120 ∷ []) (begun pid)).at third ≡ None
free = get-insert nat_list_cmp_total (begun pid).at fifth (120 ∷ []) third ∙ none_at pid third

pub begin-requires : goal.begin-requires
begin-requires c = subst (λ (ss : List SegmentValue). IsBegun (ss ++ begun header_name ∷ [])) (sym c.new-builder.ensures) begun_header

pub put-requires : goal.put-requires
put-requires c =
    let list : c.begin.new.self ≡ begun header_name ∷ [] = c.in_ok-begin.ensures.ok ∙ ap (λ (x : List SegmentValue). x ++ begun header_name ∷ []) c.new-builder.ensures in
    subst (λ (ss : List SegmentValue). MayPut (numbers c.place.result) lab ss) (sym list)
    (subst (λ (p : Place). MayPut (numbers p) lab (begun header_name ∷ [])) (sym c.place.ensures) (none_at header_name third, header_entry))

pub begin-requires-2 : goal.begin-requires-2
begin-requires-2 c =
    let list = second _ _ _ _ c.new-builder.ensures c.in_ok-begin.ensures.ok c.place.ensures c.in_ok-put.ensures.ok in
    subst (λ (ss : List SegmentValue). IsBegun (ss ++ begun pid ∷ [])) (sym list) pid_begun

pub put-requires-2 : goal.put-requires-2
put-requires-2 c =
    let list = second _ _ _ _ c.new-builder.ensures c.in_ok-begin.ensures.ok c.place.ensures c.in_ok-put.ensures.ok in
    let more = c.in_ok-begin-2.ensures.ok ∙ ap (λ (ss : List SegmentValue). ss ++ begun pid ∷ []) list in
    subst (λ (ss : List SegmentValue). MayPut (numbers c.place-2.result) (120 ∷ []) ss) (sym more)
    (subst (λ (p : Place). MayPut (numbers p) (120 ∷ []) (first ∷ begun pid ∷ [])) (sym c.place-2.ensures) (none_at pid fifth, fifth_entry))

pub put-requires-3 : goal.put-requires-3
put-requires-3 c =
    let list = second _ _ _ _ c.new-builder.ensures c.in_ok-begin.ensures.ok c.place.ensures c.in_ok-put.ensures.ok in
    let more = c.in_ok-begin-2.ensures.ok ∙ ap (λ (ss : List SegmentValue). ss ++ begun pid ∷ []) list in
    let last = third_list _ _ _ more c.place-2.ensures c.in_ok-put-2.ensures.ok in
    subst (λ (ss : List SegmentValue). MayPut (numbers c.place-3.result) value ss) (sym last)
    (subst (λ (p : Place). MayPut (numbers p) value (first ∷ put_in fifth (120 ∷ []) (begun pid) ∷ [])) (sym c.place-3.ensures) (free, value_entry))
