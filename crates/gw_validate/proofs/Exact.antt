-- One name of look-ahead decides.
use Rattle.gw_profile.specs.Shapes.{SegmentValue, GroupValue}
use Rattle.std.proofs.Common.{◌≡◌, ℕ, zero, suc, ◌-◌, ◌⊎◌, inl, inr, true, false, List, [], ◌∷◌, ◌++◌, Option, Some, None, refl, sym, ap, ◌∙◌, subst, arith}
use Rattle.std.specs.Str.{bytes_eq}
use Rattle.gw_validate.proofs.Names.{name_tells}
use Rattle.gw_profile.specs.Shapes.{Forest, nothing, segment, group}
use Rattle.gw_validate.specs.Cuts.{Fits}
use Rattle.gw_validate.proofs.Cuts.{passed, taken, starts, begin_taken, begin_passed, below_less, less_least, below_one, below_two}
use Rattle.gw_validate.specs.own.Residual.{less, append, has_room, when, pass, or_else, before, after_name, seg, grp}
use Rattle.gw_validate.proofs.Step.{fits_join, join_fits, narrow, well_joined, child_full, fits_first}
use Rattle.gw_profile.specs.Deterministic.{Name, Below, First, Follows, Determined}

-- g is what is left of f after x
pub record Step (f : Forest) (A : Name → Type 0) (x : Name) (g : Forest) : Type 0 where
  pub first : First f x
  pub forth : (w : List Name) → Fits f (x ∷ w) → Fits g w
  pub back : (w : List Name) → Fits g w → Fits f (x ∷ w)
  pub kept : Determined g A

abbrev pub Steps : Forest → (Name → Type 0) → Name → Option Forest → Type 0
Steps f A x None = First f x → ⊥
Steps f A x (Some g) = Step f A x g

pub room : (high : Option ℕ) → ((has_room high ≡ true) × Below 0 high) ⊎ ((has_room high ≡ false) × (Below 0 high → ⊥))
room None = inl (refl, tt)
room (Some zero) = inr (refl, λ h. omega (arith, h))
room (Some (suc m)) = inl (refl, omega arith)

module _ (A : Name → Type 0) (x : Name) (sv : SegmentValue) (high : Option ℕ) (rest : Forest) where
  taken_segment : (low : ℕ) → Determined (seg sv low high rest) A → Below 0 high → x ≡ sv.name → Step (seg sv low high rest) A x (seg sv (low - 1) (less high) rest)
  taken_segment low wf b e =
      record {
        first = inl (b, e);
        forth = λ w h. elim (starts (λ one. one ≡ sv.name ∷ []) (Fits rest) low high x w (λ e. cc) h) [
          | passed z r ↦ absurd (wf.1 x (let P : ℕ → Type 0 = λ l. Below l high in subst P (sym z) b) e (inl (fits_first rest A wf.2 x w r)))
          | taken b' p q j here c ↦
              let nil : p ≡ [] = cc in
              subst (Fits (seg sv (low - 1) (less high) rest)) (sym (j ∙ ap (λ a. a ++ q) nil)) c
        ];
        back = λ w h. begin_taken (λ one. one ≡ sv.name ∷ []) (Fits rest) low high x w [] w b refl (ap (λ y. y ∷ []) e) h;
        kept = (less_least low high wf.0, λ y q i r. wf.1 y (below_less low high q) i r, wf.2);
      }

  passed_segment : Determined (seg sv 0 high rest) A → (Below 0 high → x ≡ sv.name → ⊥) → (o : Option Forest) → Steps rest A x o → Steps (seg sv 0 high rest) A x o
  passed_segment wf never None s = elim [ inl h ↦ never h.0 h.1 | inr h ↦ s h.1 ]
  passed_segment wf never (Some g) s =
      record {
        first = inr (refl, s.first);
        forth = λ w h. elim (starts (λ one. one ≡ sv.name ∷ []) (Fits rest) 0 high x w (λ e. cc) h) [
          | passed z r ↦ s.forth w r
          | taken b p q j here c ↦ absurd (never b (cc))
        ];
        back = λ w h. begin_passed _ _ 0 high (x ∷ w) refl wf.0 (s.back w h);
        kept = s.kept;
      }

  pass_segment : (low : ℕ) → Determined (seg sv low high rest) A → (Below 0 high → x ≡ sv.name → ⊥) → (o : Option Forest) → Steps rest A x o → Steps (seg sv low high rest) A x (pass low o)
  pass_segment zero wf never o s = passed_segment wf never o s
  pass_segment (suc l) wf never o s = elim [ inl h ↦ never h.0 h.1 | inr h ↦ omega (arith, h.0) ]

  step_segment : (low : ℕ) → Determined (seg sv low high rest) A → (o : Option Forest) → Steps rest A x o → Steps (seg sv low high rest) A x (or_else (when (has_room high) (when (bytes_eq x sv.name) (Some (seg sv (low - 1) (less high) rest)))) (pass low o))
  step_segment low wf o s =
      elim (room high) [
        | inr r ↦ rw r.0 (pass_segment low wf (λ b e. r.1 b) o s)
        | inl r ↦ elim (name_tells x sv.name) [
          | inl e ↦ rw (r.0, e.0) (taken_segment low wf r.1 e.1)
          | inr e ↦ rw (r.0, e.0) (pass_segment low wf (λ b i. e.1 i) o s)
        ]
      ]

module _ (A : Name → Type 0) (x : Name) (gv : GroupValue) (high : Option ℕ) (children rest : Forest) where
  -- what can come behind an occurrence of the group
  abbrev Behind : Name → Type 0
  Behind y = Follows rest A y ⊎ (Below 1 high × First children y)

  pub behind_left : (low : ℕ) (y : Name) → Follows (grp gv (low - 1) (less high) children rest) A y → Behind y
  behind_left low y (inl (inl h)) = inr (below_one high h.0, h.1)
  behind_left low y (inl (inr h)) = inl (inl h.1)
  behind_left low y (inr h) = inl (inr (h.0.1, h.1))

  pub well_left : (low : ℕ) → Determined (grp gv low high children rest) A → Determined (grp gv (low - 1) (less high) children rest) A
  well_left low wf =
      (less_least low high wf.0, wf.1, λ y q i r. wf.2 y (below_less low high q) i r, narrow children _ _ (λ y. elim [ inl h ↦ inl h | inr h ↦ inr (below_two high h.0, h.1) ]) wf.3, wf.4)

  taken_group : (low : ℕ) → Determined (grp gv low high children rest) A → Below 0 high → (g : Forest) → Step children Behind x g → Step (grp gv low high children rest) A x (append g (grp gv (low - 1) (less high) children rest))
  taken_group low wf b g s =
      record {
        first = inl (b, s.first);
        forth = λ w h. elim (starts (Fits children) (Fits rest) low high x w (child_full children _ wf.1 wf.3) h) [
          | passed z r ↦ absurd (wf.2 x (let P : ℕ → Type 0 = λ l. Below l high in subst P (sym z) b) s.first (inl (fits_first rest A wf.4 x w r)))
          | taken b' p q j here c ↦
              join_fits g (grp gv (low - 1) (less high) children rest) w (record { front = p; back = q; joined = j; here = s.forth p here; there = c })
        ];
        back = λ w h. let c = fits_join g (grp gv (low - 1) (less high) children rest) w h in
            begin_taken (Fits children) (Fits rest) low high x w c.front c.back b c.joined (s.back c.front c.here) c.there;
        kept = well_joined g _ A (narrow g _ _ (behind_left low) s.kept) (well_left low wf);
      }

  passed_group : Determined (grp gv 0 high children rest) A → (Below 0 high → First children x → ⊥) → (o : Option Forest) → Steps rest A x o → Steps (grp gv 0 high children rest) A x o
  passed_group wf never None s = elim [ inl h ↦ never h.0 h.1 | inr h ↦ s h.1 ]
  passed_group wf never (Some g) s =
      record {
        first = inr (refl, s.first);
        forth = λ w h. elim (starts (Fits children) (Fits rest) 0 high x w (child_full children _ wf.1 wf.3) h) [
          | passed z r ↦ s.forth w r
          | taken b p q j here c ↦ absurd (never b (fits_first children _ wf.3 x p here))
        ];
        back = λ w h. begin_passed _ _ 0 high (x ∷ w) refl wf.0 (s.back w h);
        kept = s.kept;
      }

  pass_group : (low : ℕ) → Determined (grp gv low high children rest) A → (Below 0 high → First children x → ⊥) → (o : Option Forest) → Steps rest A x o → Steps (grp gv low high children rest) A x (pass low o)
  pass_group zero wf never o s = passed_group wf never o s
  pass_group (suc l) wf never o s = elim [ inl h ↦ never h.0 h.1 | inr h ↦ omega (arith, h.0) ]

  step_group : (low : ℕ) → Determined (grp gv low high children rest) A → (i : Option Forest) → Steps children Behind x i → (o : Option Forest) → Steps rest A x o → Steps (grp gv low high children rest) A x (or_else (when (has_room high) (before (grp gv (low - 1) (less high) children rest) i)) (pass low o))
  step_group low wf None t o s =
      elim (room high) [
        | inr r ↦ rw r.0 (pass_group low wf (λ b e. r.1 b) o s)
        | inl r ↦ rw r.0 (pass_group low wf (λ b e. t e) o s)
      ]
  step_group low wf (Some g) t o s =
      elim (room high) [
        | inr r ↦ rw r.0 (pass_group low wf (λ b e. r.1 b) o s)
        | inl r ↦ rw r.0 (taken_group low wf r.1 g t)
      ]

pub step : (f : Forest) (A : Name → Type 0) → Determined f A → (x : Name) → Steps f A x (after_name f x)
step nothing A wf x = λ h. h
step (segment sv rest) A wf x = step_segment A x sv sv.card.max rest sv.card.min wf _ (step rest A wf.2 x)
step (group gv children rest) A wf x =
    step_group A x gv gv.card.max children rest gv.card.min wf _ (step children _ wf.3 x) _ (step rest A wf.4 x)
