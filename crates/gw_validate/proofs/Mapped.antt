-- Lists that are cut, seen through another list.
use Rattle.std.proofs.Common.{◌≡◌, ℕ, zero, suc, List, [], ◌∷◌, ◌++◌, Option, refl, sym, ap, ◌∙◌, subst, map}
use Rattle.std.proofs.lemmas.List.{map-append}
use Rattle.gw_profile.specs.Shapes.{Forest, nothing, segment, group, FieldValue}
use Rattle.gw_profile.specs.Deterministic.{Name}
use Rattle.gw_validate.specs.Cuts.{Cut, Many, Times}
use Rattle.gw_validate.specs.Conforming.{One, Seq}

module _ {I J : Type 0} (g : I → J) where
  no_items : (l : List I) → map g l ≡ [] → l ≡ []
  no_items [] e = refl
  no_items (x ∷ l) e = absurd (cc)

  record Split (l : List I) (a b : List J) : Type 0 where
    front : List I
    back : List I
    joined : l ≡ front ++ back
    here : map g front ≡ a
    there : map g back ≡ b

  split : (l : List I) (a b : List J) → map g l ≡ a ++ b → Split l a b
  split l [] b e = record { front = []; back = l; joined = refl; here = refl; there = e }
  split [] (x ∷ a) b e = absurd (cc)
  split (y ∷ l) (x ∷ a) b e =
      let first : g y ≡ x = cc in
      let r = split l a b (cc) in
      record { front = y ∷ r.front; back = r.back; joined = ap (λ t. y ∷ t) r.joined; here = ap (λ t. g y ∷ t) r.here ∙ ap (λ z. z ∷ a) first; there = r.there }

  module _ (P Q : List J → Type 0) (P' Q' : List I → Type 0) where
    cut_back : ((l : List I) → P (map g l) → P' l) → ((l : List I) → Q (map g l) → Q' l) → (l : List I) → Cut P Q (map g l) → Cut P' Q' l
    cut_back p q l c =
        let r = split l c.front c.back c.joined in
        record { front = r.front; back = r.back; joined = r.joined; here = p r.front (subst P (sym r.here) c.here); there = q r.back (subst Q (sym r.there) c.there) }

    cut_forth : ((l : List I) → P' l → P (map g l)) → ((l : List I) → Q' l → Q (map g l)) → (l : List I) → Cut P' Q' l → Cut P Q (map g l)
    cut_forth p q l c =
        record { front = map g c.front; back = map g c.back; joined = ap (map g) c.joined ∙ map-append g c.front c.back; here = p c.front c.here; there = q c.back c.there }

  module _ (P : List J → Type 0) (P' : List I → Type 0) where
    many_back : ((l : List I) → P (map g l) → P' l) → (k : ℕ) (l : List I) → Many P k (map g l) → Many P' k l
    many_back p zero l h = no_items l h
    many_back p (suc k) l h = cut_back P (Many P k) P' (Many P' k) p (many_back p k) l h

    many_forth : ((l : List I) → P' l → P (map g l)) → (k : ℕ) (l : List I) → Many P' k l → Many P k (map g l)
    many_forth p zero l h = ap (map g) h
    many_forth p (suc k) l h = cut_forth P (Many P k) P' (Many P' k) p (many_forth p k) l h

    times_back : (low : ℕ) (high : Option ℕ) → ((l : List I) → P (map g l) → P' l) → (l : List I) → Times low high P (map g l) → Times low high P' l
    times_back low high p l h = (h.0, h.1, h.2, many_back p h.0 l h.3)

    times_forth : (low : ℕ) (high : Option ℕ) → ((l : List I) → P' l → P (map g l)) → (l : List I) → Times low high P' l → Times low high P (map g l)
    times_forth low high p l h = (h.0, h.1, h.2, many_forth p h.0 l h.3)

  module _ (named : J → Name) (meets : List FieldValue → J → Type 0) where
    one_back : (name : Name) (shape : List FieldValue) (l : List I) → One named meets name shape (map g l) → One (λ i. named (g i)) (λ sh i. meets sh (g i)) name shape l
    one_back name shape [] h = h
    one_back name shape (i ∷ []) h = h
    one_back name shape (i ∷ j ∷ l) h = h

    one_forth : (name : Name) (shape : List FieldValue) (l : List I) → One (λ i. named (g i)) (λ sh i. meets sh (g i)) name shape l → One named meets name shape (map g l)
    one_forth name shape [] h = h
    one_forth name shape (i ∷ []) h = h
    one_forth name shape (i ∷ j ∷ l) h = h

    pub seq_back : (f : Forest) (l : List I) → Seq named meets f (map g l) → Seq (λ i. named (g i)) (λ sh i. meets sh (g i)) f l
    seq_back nothing l h = no_items l h
    seq_back (segment sv rest) l h =
        cut_back _ _ _ _ (times_back _ _ sv.card.min sv.card.max (one_back sv.name sv.fields)) (seq_back rest) l h
    seq_back (group gv ch rest) l h =
        cut_back _ _ _ _ (times_back _ _ gv.card.min gv.card.max (seq_back ch)) (seq_back rest) l h

    pub seq_forth : (f : Forest) (l : List I) → Seq (λ i. named (g i)) (λ sh i. meets sh (g i)) f l → Seq named meets f (map g l)
    seq_forth nothing l h = ap (map g) h
    seq_forth (segment sv rest) l h =
        cut_forth _ _ _ _ (times_forth _ _ sv.card.min sv.card.max (one_forth sv.name sv.fields)) (seq_forth rest) l h
    seq_forth (group gv ch rest) l h =
        cut_forth _ _ _ _ (times_forth _ _ gv.card.min gv.card.max (seq_forth ch)) (seq_forth rest) l h
