-- The names with which a list goes on.
use Rattle.std.proofs.Common.{◌≡◌, ℕ, zero, suc, ◌+◌, ◌<◌, ◌≤◌, Bool, true, false, List, [], ◌∷◌, ◌++◌, Option, Some, None, refl, sym, ap, ◌∙◌, subst, arith, length, take, drop, map, append_assoc, append-nil, get_or}
use Rattle.std.specs.Prelude.{◌&&◌, ◌==◌, if◌then◌else◌, ◌↔◌}
use Rattle.std.proofs.lemmas.List.{take_all, map-append, take-append-drop, take_more}
use Rattle.gw_er7.specs.Message.{SegmentValue}
use Rattle.gw_profile.specs.Among.{Among}
use Rattle.gw_profile.specs.Line.{allows}
use Rattle.gw_profile.specs.LookAhead.{first_names, is_optional}
use Rattle.gw_profile.specs.Names.{stands}
use Rattle.gw_profile.specs.Shapes.{Forest, nothing, segment, group}
use Rattle.gw_profile.specs.Deterministic.{Name, First, Determined}
use Rattle.gw_profile.proofs.Ambiguity.{first_named}
use Rattle.gw_validate.specs.declared.walk.Frame.{Frame}
use Rattle.gw_validate.specs.Conforming.{names, named, segment_at, listed}
use Rattle.gw_validate.specs.Cuts.{Begins, Fits}
use Rattle.gw_validate.specs.Next.{AreNext}
use Rattle.gw_validate.specs.own.Residual.{append, after_name}
use Rattle.gw_validate.specs.own.State.{frame_forest, stack_on}
use Rattle.gw_validate.proofs.Exact.{Steps, step}
use Rattle.gw_validate.proofs.Gathered.{take_segment}
use Rattle.gw_validate.proofs.Listed.{listed_more}
use Rattle.gw_validate.proofs.Passed.{left_more, begins, stuck}
use Rattle.gw_validate.proofs.Runs.{left, Run, Runs, run}
use Rattle.gw_validate.proofs.Walking.{stack_on-push}

-- ---- the names of the first segments

names_next : (f : Forest) (m : List SegmentValue) (i : ℕ) → i < length m → names f (take (i + 1) m) ≡ names f (take i m) ++ (if stands f (named m i) then named m i ∷ [] else [])
names_next f m i lt =
    let one : i + 1 ≡ suc i = omega arith in
    ap (λ n. names f (take n m)) one ∙ ap (names f) (take_segment m i lt)
    ∙ ap (map (λ (s : SegmentValue). s.name)) (listed_more f (take i m) (segment_at m i))
    ∙ map-append _ (listed f (take i m)) _
    ∙ ap (λ l. names f (take i m) ++ l) (by (stands f (named m i)))
  where
    by : (b : Bool) → map (λ (s : SegmentValue). s.name) (if b then segment_at m i ∷ [] else []) ≡ (if b then named m i ∷ [] else [])
    by true = refl
    by false = refl

module _ (f : Forest) (m : List SegmentValue) (i : ℕ) (lt : i < length m) (found : List Name) (so_far : found ≡ names f (take i m)) (name : Name) (is : name ≡ named m i) (there : Bool) (tells : there ≡ stands f name) where
  same : stands f (named m i) ≡ there
  same = ap (stands f) (sym is) ∙ sym tells

  pub name_found : there ≡ true → (new : List Name) → new ≡ found ++ name ∷ [] → new ≡ names f (take (i + 1) m)
  name_found so new pushed =
      pushed ∙ ap (λ l. l ++ name ∷ []) so_far ∙ ap (λ n. names f (take i m) ++ n ∷ []) is
      ∙ sym (names_next f m i lt ∙ ap (λ b. names f (take i m) ++ (if b then named m i ∷ [] else [])) (same ∙ so))

  pub name_passed : there ≡ false → found ≡ names f (take (i + 1) m)
  name_passed never =
      so_far ∙ sym (append-nil (names f (take i m))) ∙ sym (names_next f m i lt ∙ ap (λ b. names f (take i m) ++ (if b then named m i ∷ [] else [])) (same ∙ never))

-- ---- the first names of what is left

joined : (own : List Name) (zero all : Bool) (rest behind both : List Name) → both ≡ rest ++ (if all then behind else []) → own ++ (if zero then both else []) ≡ (own ++ (if zero then rest else [])) ++ (if zero && all then behind else [])
joined own true all rest behind both e = ap (λ l. own ++ l) e ∙ sym (append_assoc own rest _)
joined own false all rest behind both e = sym (append-nil (own ++ []))

first-join : (f g : Forest) → first_names (append f g) ≡ first_names f ++ (if is_optional f then first_names g else [])
first-join nothing g = refl
first-join (segment s rest) g = joined (if allows s.card.max 1 then s.name ∷ [] else []) (s.card.min == 0) (is_optional rest) (first_names rest) (first_names g) (first_names (append rest g)) (first-join rest g)
first-join (group v nodes rest) g = joined (if allows v.card.max 1 then first_names nodes else []) (v.card.min == 0) (is_optional rest) (first_names rest) (first_names g) (first_names (append rest g)) (first-join rest g)

module _ (f : Frame) (start rest popped : List Frame) (found new : List Name) (absent : Bool) (same : first_names (stack_on start nothing) ≡ found ++ first_names (stack_on popped nothing)) (pop : popped ≡ rest ++ f ∷ []) (added : new ≡ found ++ first_names (frame_forest f)) (tells : absent ≡ is_optional (frame_forest f)) where
  split : first_names (stack_on start nothing) ≡ new ++ (if absent then first_names (stack_on rest nothing) else [])
  split =
      same
      ∙ ap (λ l. found ++ first_names (stack_on l nothing)) pop
      ∙ ap (λ h. found ++ first_names h) (stack_on-push rest f nothing)
      ∙ ap (λ l. found ++ l) (first-join (frame_forest f) (stack_on rest nothing))
      ∙ sym (append_assoc found (first_names (frame_forest f)) _)
      ∙ ap (λ l. l ++ (if is_optional (frame_forest f) then first_names (stack_on rest nothing) else [])) (sym added)
      ∙ ap (λ b. new ++ (if b then first_names (stack_on rest nothing) else [])) (sym tells)

  pub first_on : absent ≡ true → first_names (stack_on start nothing) ≡ new ++ first_names (stack_on rest nothing)
  first_on so = split ∙ ap (λ b. new ++ (if b then first_names (stack_on rest nothing) else [])) so

  pub first_ended : absent ≡ false → new ≡ first_names (stack_on start nothing)
  first_ended never = sym (split ∙ ap (λ b. new ++ (if b then first_names (stack_on rest nothing) else [])) never ∙ append-nil new)

-- ---- which names go on

-- one name more
module _ (f : Forest) (A : Name → Type 0) (wf : Determined f A) (before : List Name) (i : ℕ) (g new : Forest) (e : left f (take i before) ≡ Some g) (lt : i < length before) where
  pub taken_one : after_name g (get_or before i []) ≡ Some new → left f (take (i + 1) before) ≡ Some new
  taken_one go = ap (left f) (take_more before i [] lt) ∙ left_more f (take i before) (get_or before i []) g e ∙ go

  pub taken_none : after_name g (get_or before i []) ≡ None → Begins f (take (i + 1) before) → ⊥
  taken_none go b = stuck f A wf (take i before) g e (get_or before i []) go (subst (Begins f) (take_more before i [] lt) b)

pub at_last : (f g : Forest) (before : List Name) (i : ℕ) → left f (take i before) ≡ Some g → length before ≤ i → left f before ≡ Some g
at_last f g before i e le = ap (left f) (sym (take_all i before le)) ∙ e

-- none goes on where the names don't begin a list
pub none_next : (f : Forest) (before : List Name) (i : ℕ) → (Begins f (take i before) → ⊥) → (found : List Name) → found ≡ [] → AreNext f before found
none_next f before i never found none x = (λ h. absurd (subst (Among x) none h), λ b. absurd (never (front b)))
  where
    front : Begins f (before ++ x ∷ []) → Begins f (take i before)
    front b = (
      drop i before ++ (x ∷ [] ++ b.0),
      subst (Fits f) (ap (λ l. (l ++ x ∷ []) ++ b.0) (sym (take-append-drop i before)) ∙ append_assoc (take i before ++ drop i before) (x ∷ []) b.0 ∙ append_assoc (take i before) (drop i before) (x ∷ [] ++ b.0)) b.1,
    )

module _ (f : Forest) (A : Name → Type 0) (wf : Determined f A) (before : List Name) (g : Forest) (e : left f before ≡ Some g) where
  kept : Determined g A
  kept = (let r : Run f A before g = subst (Runs f A before) e (run before f A wf) in r.kept)

  goes : (x : Name) (o : Option Forest) → after_name g x ≡ o → Steps g A x o → First g x ↔ Begins f (before ++ x ∷ [])
  goes x None is s = (λ h. absurd (s h), λ b. absurd (stuck f A wf before g e x is b))
  goes x (Some k) is s = (λ h. begins f A wf (before ++ x ∷ []) k (left_more f before x g e ∙ is), λ b. s.first)

  pub are_next : (found : List Name) → found ≡ first_names g → AreNext f before found
  are_next found is x =
      let here = first_named g x in
      let on = goes x (after_name g x) refl (step g A kept x) in
      (λ h. on.0 (here.0 (subst (Among x) is h)), λ b. subst (Among x) (sym is) (here.1 (on.1 b)))
