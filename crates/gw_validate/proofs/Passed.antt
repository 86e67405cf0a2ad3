-- What a walk says of a list of names.
use Rattle.std.specs.declared.vec.Vec.{Vec}
use Rattle.std.specs.declared.alloc.Global.{Global}
use Rattle.std.proofs.Common.{◌≡◌, ℕ, ◌+◌, ◌<◌, ◌≤◌, List, [], ◌∷◌, ◌++◌, Option, Some, None, refl, sym, ap, ◌∙◌, subst, arith, length, take, map, get_or, append_assoc, append-nil}
use Rattle.gw_profile.specs.Shapes.{Forest}
use Rattle.gw_validate.specs.Cuts.{Fits}
use Rattle.gw_validate.specs.Cuts.{Begins, IsShortest}
use Rattle.gw_validate.specs.own.Residual.{after_name}
use Rattle.gw_validate.specs.own.Shortest.{head, shortest}
use Rattle.gw_validate.specs.own.Answers.{Answers}
use Rattle.gw_validate.specs.declared.walk.Answer.TheVariants as answer
use Rattle.std.proofs.lemmas.List.{take_more, take_all, length-map, get_or-map}
use Rattle.gw_validate.specs.own.State.{Advances}
use Rattle.gw_validate.proofs.Step.{fits_first, empty_fits}
use Rattle.gw_validate.proofs.Exact.{Steps, step}
use Rattle.gw_validate.proofs.Runs.{and_then, left, Run, Runs, run, run_begins, run_shortest, shortest_fits, shortest_least}
use Rattle.gw_profile.specs.Deterministic.{Name, Determined}
use denote.Ref.{Bor}
use Rattle.gw_profile.specs.declared.shape.FieldShape.{FieldShape}
use Rattle.gw_validate.specs.own.Taking.{TakesAll}
use Rattle.gw_validate.proofs.Taking.{takes_more, takes_suit}

pub left_more : (f : Forest) (w : List Name) (x : Name) (g : Forest) → left f w ≡ Some g → left f (w ++ x ∷ []) ≡ after_name g x
left_more f [] x g e = last (after_name f x) ∙ ap (λ k. after_name k x) f_is
  where
    last : (o : Option Forest) → and_then o (λ k. left k []) ≡ o
    last None = refl
    last (Some k) = refl

    f_is : f ≡ g
    f_is = cc
left_more f (y ∷ w) x g e = through (λ k. left_more k w x g) (after_name f y) e
  where
    through : ((k : Forest) → left k w ≡ Some g → left k (w ++ x ∷ []) ≡ after_name g x) → (o : Option Forest) → and_then o (λ k. left k w) ≡ Some g → and_then o (λ k. left k (w ++ x ∷ [])) ≡ after_name g x
    through more None e = absurd (cc)
    through more (Some k) e = more k e

module _ (f : Forest) (A : Name → Type 0) (wf : Determined f A) (w : List Name) (g : Forest) (e : left f w ≡ Some g) where
  run_of : Run f A w g
  run_of = subst (Runs f A w) e (run w f A wf)

  pub begins : Begins f w
  begins = run_begins f A w g run_of

  cannot : (x : Name) → after_name g x ≡ None → Steps g A x None
  cannot x n = subst (Steps g A x) n (step g A run_of.kept x)

  pub stuck : (x : Name) → after_name g x ≡ None → Begins f (w ++ x ∷ []) → ⊥
  stuck x n b = cannot x n (fits_first g A run_of.kept x b.0 (run_of.forth (x ∷ b.0) (subst (Fits f) (append_assoc w (x ∷ []) b.0) b.1)))

  empty : (l : List Name) → head l ≡ None → Fits g l → Fits g []
  empty [] n h = h
  empty (x ∷ l) n h = absurd (cc)

  at_rest : head (shortest g) ≡ None → Fits g []
  at_rest n = empty (shortest g) n (shortest_fits g A run_of.kept)

  pub complete : (shapes : Vec (Bor (List FieldShape)) Global) → TakesAll f w shapes.items g → head (shortest g) ≡ None → Answers f w (answer.Fits shapes)
  complete shapes all n = (
    subst (Fits f) (append-nil w) (run_of.back [] (at_rest n)),
    takes_suit f w shapes.items g all (empty_fits g A run_of.kept (at_rest n)),
  )

  pub incomplete : (x : Name) → head (shortest g) ≡ Some x → Answers f w (answer.Missing x)
  incomplete x n = at (shortest g) n refl
    where
      at : (l : List Name) → head l ≡ Some x → shortest g ≡ l → Answers f w (answer.Missing x)
      at [] n e = absurd (cc)
      at (y ∷ l) n e =
          let same : y ≡ x = cc in (
            λ h. omega (arith, ap length e, shortest_least g [] (run_of.forth [] (subst (Fits f) (sym (append-nil w)) h))),
            l,
            subst (IsShortest f w) (e ∙ ap (λ z. z ∷ l) same) (run_shortest f A w g run_of),
          )

-- where the walk stands after some names
pub record Walked (f : Forest) (names : List Name) (shapes : List (Bor (List FieldShape))) (g : Forest) : Type 0 where
  pub left_is : left f names ≡ Some g
  pub takes : TakesAll f names shapes g

module _ (f : Forest) (A : Name → Type 0) (wf : Determined f A) (named : ℕ → Name) (l : List ℕ) (shapes : List (Bor (List FieldShape))) (i : ℕ) (g new : Forest) (walked : Walked f (take i (map named l)) shapes g) (lt : i < length l) (x : Name) (is_named : x ≡ named (get_or l i 0)) where
  within : i < length (map named l)
  within = subst (λ n. i < n) (sym (length-map l named)) lt

  more : take (i + 1) (map named l) ≡ take i (map named l) ++ x ∷ []
  more = take_more (map named l) i [] within ∙ ap (λ y. take i (map named l) ++ y ∷ []) (get_or-map named l i 0 [] lt ∙ sym is_named)

  pub out_of_order : Advances g x new None → Answers f (map named l) (answer.OutOfOrder i)
  out_of_order go =
      (within, begins f A wf (take i (map named l)) g walked.left_is, λ b. stuck f A wf (take i (map named l)) g walked.left_is x go (subst (Begins f) more b))

  pub goes_on : (s : Bor (List FieldShape)) (later : List (Bor (List FieldShape))) → later ≡ shapes ++ s ∷ [] → Advances g x new (Some s) → Walked f (take (i + 1) (map named l)) later new
  goes_on s later is go = record {
    left_is = ap (left f) more ∙ left_more f (take i (map named l)) x g walked.left_is ∙ go.0;
    takes = subst (λ k. TakesAll f (take (i + 1) (map named l)) k new) (sym is) (subst (λ w. TakesAll f w (shapes ++ s ∷ []) new) (sym more) (takes_more f (take i (map named l)) shapes g x s new walked.takes go.1));
  }

pub at_end : (f g : Forest) (named : ℕ → Name) (l : List ℕ) (shapes : List (Bor (List FieldShape))) (i : ℕ) → Walked f (take i (map named l)) shapes g → length l ≤ i → Walked f (map named l) shapes g
at_end f g named l shapes i w le =
    subst (λ k. Walked f k shapes g) (take_all i (map named l) (subst (λ n. n ≤ i) (sym (length-map l named)) le)) w

pub at_start : (f g : Forest) (names : List Name) → g ≡ f → Walked f (take 0 names) [] g
at_start f g names e = record { left_is = ap Some (sym e); takes = sym e }
