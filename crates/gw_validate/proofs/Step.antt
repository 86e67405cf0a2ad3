-- What is left of a forest after one name.
use Rattle.std.proofs.Common.{◌≡◌, inl, inr, List, [], ◌∷◌, ◌++◌, refl, sym, ap, ◌∙◌, subst, arith}
use Rattle.gw_profile.specs.Shapes.{Forest, nothing, segment, group}
use Rattle.gw_validate.specs.Cuts.{Cut, Fits}
use Rattle.gw_validate.specs.own.Residual.{append}
use Rattle.gw_validate.proofs.Cuts.{passed, taken, starts, none, cut_left, cut_right, cut_map}
use Rattle.gw_profile.specs.Deterministic.{Name, First, Optional, Demands, Follows, Determined}

pub fits_join : (f g : Forest) (l : List Name) → Fits (append f g) l → Cut (Fits f) (Fits g) l
fits_join nothing g l h = record { front = []; back = l; joined = refl; here = refl; there = h }
fits_join (segment sv rest) g l h =
    cut_left _ _ _ l (cut_map _ _ _ l (fits_join rest g) h)
fits_join (group gv ch rest) g l h =
    cut_left _ _ _ l (cut_map _ _ _ l (fits_join rest g) h)

pub join_fits : (f g : Forest) (l : List Name) → Cut (Fits f) (Fits g) l → Fits (append f g) l
join_fits nothing g l h = subst (Fits g) (sym (h.joined ∙ ap (λ a. a ++ h.back) h.here)) h.there
join_fits (segment sv rest) g l h = cut_map _ _ _ l (join_fits rest g) (cut_right _ _ _ l h)
join_fits (group gv ch rest) g l h = cut_map _ _ _ l (join_fits rest g) (cut_right _ _ _ l h)

pub clash : (f : Forest) → Demands f → Optional f → ⊥
clash nothing d o = d
clash (segment sv rest) (inl d) o = omega (arith, o.0)
clash (segment sv rest) (inr d) o = clash rest d o.1
clash (group gv ch rest) (inl d) o = omega (arith, o.0)
clash (group gv ch rest) (inr d) o = clash rest d o.1

-- what can follow a joined forest
pub follows_join : (f g : Forest) (A : Name → Type 0) (x : Name) → Follows (append f g) A x → Follows f (Follows g A) x
follows_join nothing g A x h = inr (tt, h)
follows_join (segment sv rest) g A x (inl (inl p)) = inl (inl p)
follows_join (segment sv rest) g A x (inl (inr p)) =
    elim (follows_join rest g A x (inl p.1)) [ inl f ↦ inl (inr (p.0, f)) | inr o ↦ inr ((p.0, o.0), o.1) ]
follows_join (segment sv rest) g A x (inr o) =
    elim (follows_join rest g A x (inr (o.0.1, o.1))) [ inl f ↦ inl (inr (o.0.0, f)) | inr r ↦ inr ((o.0.0, r.0), r.1) ]
follows_join (group gv ch rest) g A x (inl (inl p)) = inl (inl p)
follows_join (group gv ch rest) g A x (inl (inr p)) =
    elim (follows_join rest g A x (inl p.1)) [ inl f ↦ inl (inr (p.0, f)) | inr o ↦ inr ((p.0, o.0), o.1) ]
follows_join (group gv ch rest) g A x (inr o) =
    elim (follows_join rest g A x (inr (o.0.1, o.1))) [ inl f ↦ inl (inr (o.0.0, f)) | inr r ↦ inr ((o.0.0, r.0), r.1) ]

follows_mono : (f : Forest) (A B : Name → Type 0) → ((x : Name) → B x → A x) → (x : Name) → Follows f B x → Follows f A x
follows_mono f A B m x (inl h) = inl h
follows_mono f A B m x (inr h) = inr (h.0, m x h.1)

-- fewer names behind keep a forest well formed
pub narrow : (f : Forest) (A B : Name → Type 0) → ((x : Name) → B x → A x) → Determined f A → Determined f B
narrow nothing A B m w = tt
narrow (segment sv rest) A B m w =
    (w.0, λ x b p q. w.1 x b p (follows_mono rest A B m x q), narrow rest A B m w.2)
narrow (group gv ch rest) A B m w =
    (w.0, w.1, λ x b p q. w.2 x b p (follows_mono rest A B m x q), narrow ch _ _ (λ x. elim [ inl h ↦ inl (follows_mono rest A B m x h) | inr h ↦ inr h ]) w.3, narrow rest A B m w.4)

pub well_joined : (f g : Forest) (A : Name → Type 0) → Determined f (Follows g A) → Determined g A → Determined (append f g) A
well_joined nothing g A w v = v
well_joined (segment sv rest) g A w v =
    (w.0, λ x b p q. w.1 x b p (follows_join rest g A x q), well_joined rest g A w.2 v)
well_joined (group gv ch rest) g A w v =
    (w.0, w.1, λ x b p q. w.2 x b p (follows_join rest g A x q), narrow ch _ _ (λ x. elim [ inl h ↦ inl (follows_join rest g A x h) | inr h ↦ inr h ]) w.3, well_joined rest g A w.4 v)

-- the empty list fits only where nothing is demanded
pub empty_fits : (f : Forest) (A : Name → Type 0) → Determined f A → Fits f [] → Optional f
empty_fits nothing A w h = tt
empty_fits (segment sv rest) A w h =
    let r = none (λ one. one ≡ sv.name ∷ []) (Fits rest) sv.card.min sv.card.max (λ e. cc) h in (r.0, empty_fits rest A w.2 r.1)
empty_fits (group gv ch rest) A w h =
    let r = none (Fits ch) (Fits rest) gv.card.min gv.card.max (λ e. clash ch w.1 (empty_fits ch _ w.3 e)) h in (r.0, empty_fits rest A w.4 r.1)

pub child_full : (ch : Forest) (A : Name → Type 0) → Demands ch → Determined ch A → Fits ch [] → ⊥
child_full ch A d w e = clash ch d (empty_fits ch A w e)

-- a list that fits begins with a name that can begin one
pub fits_first : (f : Forest) (A : Name → Type 0) → Determined f A → (x : Name) (w : List Name) → Fits f (x ∷ w) → First f x
fits_first nothing A wf x w h = absurd (cc)
fits_first (segment sv rest) A wf x w h =
    elim (starts (λ one. one ≡ sv.name ∷ []) (Fits rest) sv.card.min sv.card.max x w (λ e. cc) h) [
      | passed z r ↦ inr (z, fits_first rest A wf.2 x w r)
      | taken b p q e here c ↦ inl (b, cc)
    ]
fits_first (group gv ch rest) A wf x w h =
    elim (starts (Fits ch) (Fits rest) gv.card.min gv.card.max x w (child_full ch _ wf.1 wf.3) h) [
      | passed z r ↦ inr (z, fits_first rest A wf.4 x w r)
      | taken b p q e here c ↦ inl (b, fits_first ch _ wf.3 x p here)
    ]
