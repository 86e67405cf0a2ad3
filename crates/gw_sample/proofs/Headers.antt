-- The least message from its header on.
use Rattle.std.proofs.Common.{◌≡◌, ℕ, zero, suc, ◌<◌, ◌≤◌, List, [], ◌∷◌, ◌++◌, length, sym, ap, subst, ◌∙◌, arith, Result, Ok, Err}
use Rattle.std.specs.Prelude.{IfOk}
use Rattle.std.proofs.lemmas.List.{append-nil, append_assoc}
use Rattle.gw_er7.specs.Building.{IsBegun}
use Rattle.gw_er7.specs.Message.{SegmentValue, IsMessage, first_field}
use Rattle.gw_er7.proofs.Again.{reads_again}
use Rattle.gw_er7.proofs.Builds as builds
use Rattle.gw_profile.specs.Shapes as shapes
use Rattle.gw_profile.specs.Shapes.{Forest, nothing, segment, group, ProfileValue}
use Rattle.gw_profile.specs.WellFormed.{IsOther, Headed, EachSegment, LawfulSegment, WellFormed, table_names}
use Rattle.gw_validate.specs.Conforming.{Conforms}
use Rattle.gw_sample.specs.own.Least.{Key, keys_of, one_of, several_of, least, ArePlaces, MayFollow, MayHead, Adds, Fits}
use Rattle.gw_sample.proofs.Added.{made, one_lawful, header_message, follows}
use Rattle.gw_sample.proofs.LeastConforms.{least_conforms}
use Rattle.gw_sample.proofs.Places.{places_are}

-- ---- the message

module _ (s : shapes.SegmentValue) (rest : Forest) (may : MayHead s rest) where
  pub head_begins : IsBegun ([] ++ builds.begun s.name ∷ [])
  head_begins = subst (λ (name : List ℕ). IsBegun (builds.begun name ∷ [])) (sym may.header.name) builds.begun_header

  pub head_placed : (ks : List Key) → ks ≡ keys_of s.fields → ArePlaces (first_field s.name) ks
  head_placed ks e = subst (ArePlaces (first_field s.name)) (sym e) (places_are may.tables s may.lawful)

  head_is : (ks : List Key) (now : List SegmentValue) → ks ≡ keys_of s.fields → now ≡ made s.name ks ∷ [] → now ≡ one_of s ∷ []
  head_is ks now e f = f ∙ ap (λ (l : List Key). made s.name l ∷ []) e

  pub rest_follows : (ks : List Key) (now : List SegmentValue) → ks ≡ keys_of s.fields → now ≡ made s.name ks ∷ [] → MayFollow rest now
  rest_follows ks now e f = record {
    tables = may.tables;
    lawful = may.each;
    others = may.others;
    message = subst IsMessage (sym (head_is ks now e f)) (header_message may.tables s may.lawful may.header);
  }

  pub whole_added : (ks : List Key) (now new : List SegmentValue) → ks ≡ keys_of s.fields → now ≡ made s.name ks ∷ [] → Adds (least rest) now new → Adds (least (segment s rest)) [] new
  whole_added ks now new e f a = record {
    added =
        a.added ∙ ap (λ (l : List SegmentValue). l ++ least rest) (head_is ks now e f)
        ∙ ap (λ (n : ℕ). several_of n (one_of s ∷ []) ++ least rest) (sym (ap (λ card. card.min) may.header.card));
    message = a.message;
  }

pub some_segment : (m : List SegmentValue) → IsMessage m → 0 < length m
some_segment [] h = absurd h
some_segment (s ∷ m) h = omega arith

-- ---- of a profile

pub fits : (p : ProfileValue) (s : shapes.SegmentValue) (rest : Forest) (m : List SegmentValue) → WellFormed p → p.nodes ≡ segment s rest → length (least p.nodes) ≤ 10000
    → Adds (least (segment s rest)) [] m → Fits p m
fits p s rest m wf e few a =
    let is : m ≡ least p.nodes = a.added ∙ ap least (sym e) in
    record {
      conforms = subst (Conforms p) (sym is) (least_conforms p wf);
      again = reads_again m a.message (omega (arith, few, ap length is));
    }

pub if_ok : {A E : Type 0} (P Q : A → Type 0) (r : Result A E) → ((a : A) → P a → Q a) → IfOk r P → IfOk r Q
if_ok P Q (Ok a) so p = so a p
if_ok P Q (Err e) so p = tt

-- ---- the least message of a profile

several_follow : (k : ℕ) (l : List SegmentValue) → ((m : List SegmentValue) → IsMessage m → IsMessage (m ++ l)) → (m : List SegmentValue) → IsMessage m → IsMessage (m ++ several_of k l)
several_follow zero l each m is = subst IsMessage (sym (append-nil m)) is
several_follow (suc k) l each m is = subst IsMessage (append_assoc m l (several_of k l)) (several_follow k l each (m ++ l) (each m is))

least_follows : (tables : List (List ℕ)) (f : Forest) → EachSegment (LawfulSegment tables) f → EachSegment IsOther f → (m : List SegmentValue) → IsMessage m → IsMessage (m ++ least f)
least_follows tables nothing lawful others m is = subst IsMessage (sym (append-nil m)) is
least_follows tables (segment s rest) lawful others m is =
    let one : (n : List SegmentValue) → IsMessage n → IsMessage (n ++ one_of s ∷ []) = λ n it. follows n (one_of s) it (record { segment = one_lawful tables s lawful.0; name = others.0.0 }) in
    subst IsMessage (append_assoc m (several_of s.card.min (one_of s ∷ [])) (least rest))
    (least_follows tables rest lawful.1 others.1 (m ++ several_of s.card.min (one_of s ∷ [])) (several_follow s.card.min (one_of s ∷ []) one m is))
least_follows tables (group g nodes rest) lawful others m is =
    subst IsMessage (append_assoc m (several_of g.card.min (least nodes)) (least rest))
    (least_follows tables rest lawful.1 others.1 (m ++ several_of g.card.min (least nodes)) (several_follow g.card.min (least nodes) (least_follows tables nodes lawful.0 others.0) m is))

least_message : (tables : List (List ℕ)) (f : Forest) → Headed f → EachSegment (LawfulSegment tables) f → IsMessage (least f)
least_message tables nothing headed lawful = absurd headed
least_message tables (group g nodes rest) headed lawful = absurd headed
least_message tables (segment s rest) headed lawful =
    subst IsMessage (ap (λ (n : ℕ). several_of n (one_of s ∷ []) ++ least rest) (sym (ap (λ card. card.min) headed.0.card)))
    (least_follows tables rest lawful.1 headed.1 (one_of s ∷ []) (header_message tables s lawful.0 headed.0))

pub each_has_one : (p : ProfileValue) → WellFormed p → (m : List SegmentValue) × IsMessage m × Conforms p m
each_has_one p wf = (least p.nodes, least_message (table_names p.tables) p.nodes wf.headed wf.segments, least_conforms p wf)
