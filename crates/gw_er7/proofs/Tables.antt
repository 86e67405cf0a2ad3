-- The table of classes, byte by byte.
use Rattle.std.proofs.Common.{◌≡◌, ℕ, ◌<◌, Bool, true, false, cond, List, length, get_or, set, replicate, refl, ap, ◌∙◌, arith}
use Rattle.std.specs.Prelude.{◌==◌, ◌||◌}
use Rattle.std.proofs.lemmas.Bool.{eqb-true, eqb-false}
use Rattle.std.proofs.lemmas.List.{get_or-set_same, get_or-set_other, get_or-replicate, length-set, length-replicate}
use Rattle.gw_er7.specs.declared.delimiters.Delimiters.{Delimiters}
use Rattle.gw_er7.specs.declared.classes.Class.{Class}
use Rattle.gw_er7.specs.declared.classes.Class.TheVariants.{Text, Field, Repetition, Component, Subcomponent, Escape}
use Rattle.gw_er7.specs.own.Classes.{AreClasses}

-- the table has this of each byte
record Has (table : List Class) (f : ℕ → Class) : Type 0 where
  long : length table ≡ 256
  each : (b : ℕ) → b < 256 → get_or table b Text ≡ f b

none_yet : Has (replicate 256 Text) (λ b. Text)
none_yet = record { long = length-replicate 256 Text; each = λ b lt. get_or-replicate 256 b Text Text lt }

one_more : (table : List Class) (f : ℕ → Class) (i : ℕ) (c : Class) → Has table f → Has (set table i c) (λ b. cond (b == i) c (f b))
one_more table f i c has = record { long = length-set table i c ∙ has.long; each = λ b under. at b (b == i) refl under }
  where
    at : (b : ℕ) (v : Bool) → (b == i) ≡ v → b < 256 → get_or (set table i c) b Text ≡ cond (b == i) c (f b)
    at b true same under =
        let here : b ≡ i = eqb-true b i same in
        rw same (ap (λ (n : ℕ). get_or (set table i c) n Text) here ∙ get_or-set_same table i c Text (omega (arith, has.long, here, under)))
    at b false other under = rw other (get_or-set_other table i b c Text (eqb-false b i other) ∙ has.each b under)

escape_by : (f g h i j e : Bool) → cond f Escape (cond g Escape (cond h Escape (cond i Escape (cond j Escape (cond e Escape Text))))) ≡ cond ((f || g || h || i || j) || e) Escape Text
escape_by true g h i j e = refl
escape_by false true h i j e = refl
escape_by false false true i j e = refl
escape_by false false false true j e = refl
escape_by false false false false true e = refl
escape_by false false false false false true = refl
escape_by false false false false false false = refl

abbrev pub table_of : Delimiters → List Class
table_of d =
    set (set (set (set (set (set (set (set (set (set (replicate 256 Text) d.escape Escape) 38 Escape) 92 Escape) 126 Escape) 94 Escape) 124 Escape)
    d.subcomponent Subcomponent) d.component Component) d.repetition Repetition) d.field Field

pub table_is : (d : Delimiters) → AreClasses d (table_of d)
table_is d =
    let six = one_more _ _ 124 Escape (one_more _ _ 94 Escape (one_more _ _ 126 Escape (one_more _ _ 92 Escape (one_more _ _ 38 Escape (one_more _ _ d.escape Escape none_yet))))) in
    let all = one_more _ _ d.field Field (one_more _ _ d.repetition Repetition (one_more _ _ d.component Component (one_more _ _ d.subcomponent Subcomponent six))) in
    record {
      long = all.long;
      each = λ b lt. all.each b lt ∙ ap (λ (k : Class). cond (b == d.field) Field (cond (b == d.repetition) Repetition (cond (b == d.component) Component (cond (b == d.subcomponent) Subcomponent k)))) (escape_by (b == 124) (b == 94) (b == 126) (b == 92) (b == 38) (b == d.escape));
    }
