-- A map has the name that its first line says.
use Rattle.std.proofs.Common.{◌≡◌, inl, inr, ℕ, ◌+◌, Bool, true, false, List, [], ◌∷◌, length, reverse, Option, Some, None, Result, Ok, Err, refl, sym, ap, ◌∙◌, subst}
use Rattle.std.specs.Prelude.{if◌then◌else◌, IfSome, codes}
use Rattle.std.specs.Option.{is_some}
use Rattle.gw_lines.specs.Words.{Word, lines}
use Rattle.gw_lines.specs.Spelled.{is_keyword}
use Rattle.gw_lines.specs.Parts.{◌>>=◌, name_at, number_at, behind, with_all}
use Rattle.gw_lines.specs.Reading.{first_of, accepted}
use Rattle.gw_lines.proofs.Taken.{taken_by, spelled_accepts}
use Rattle.gw_maplang.specs.declared.fault.MapFault.{MapFault}
use Rattle.gw_maplang.specs.declared.fault.MapFault.TheVariants.{Syntax, TooLarge}
use Rattle.gw_maplang.specs.Shapes.{MapValue}
use Rattle.gw_maplang.specs.Line.{Line, Begins, Language, Table, Rows, Else, Segment, Makes, At, Or, Each, End, Drops, place_of, drop_of, plain_at, text_at, some_texts, source_form, walk_form, made_from, chosen_from, own_leaves}
use Rattle.gw_maplang.specs.Line.{leaf_form, map_form, language_form, table_form, row_form, else_form, segment_form, copies_form, firsts_form, repeats_form, builds_form, at_form, or_form, each_form, group_form}
use Rattle.gw_maplang.specs.Line.{drop_form, rule_form, form}
use Rattle.gw_maplang.specs.Fault.{grammar, tests, takes}
use Rattle.gw_maplang.specs.Value.{head}
use Rattle.gw_maplang.specs.Whole.{is_unclosed, map_of, whole, most_bytes, most_lines, spelled}
use Rattle.gw_profile.proofs.Shaped.{any, gives, map_gives, either_gives, with_all_is}
use Rattle.gw_plan.specs.declared.fault.PlanFault.TheVariants.{Duplicate}
use Rattle.gw_plan.specs.Shapes.{MapBetween}
use Rattle.gw_profile.specs.Shapes.{ProfileValue}
use Rattle.gw_plan.specs.Declarations.{named_map}
use Rattle.gw_plan.specs.Inner.{Inner, MapHeader, text, broken, common, first_said, name_behind, profiles_at, map_header_of, map_header, duplicate_map, unknown_profile, header_faults, map_faults_beside}
use Rattle.gw_plan.proofs.Rejoined.{rejoined}
use Rattle.gw_plan.proofs.FirstLines.{First, first_taken, turned, keyword_gives}
use Rattle.gw_plan.proofs.Earliest.{none_of_both, none_beside}

-- the words that say the name of a map
abbrev Says : List Word → Line → Type 0
Says ws (Begins at name source target) = (n : ℕ) → map_header_of (n, ws) ≡ Some (record { line = n; name = name; source = source; target = target })
Says ws Language = Unit {0}
Says ws (Table name) = Unit {0}
Says ws (Rows row) = Unit {0}
Says ws (Else value) = Unit {0}
Says ws (Segment at label source) = Unit {0}
Says ws (Makes rule) = Unit {0}
Says ws (At leaf) = Unit {0}
Says ws (Or other) = Unit {0}
Says ws (Each at label walk) = Unit {0}
Says ws End = Unit {0}
Says ws (Drops drop) = Unit {0}

known : {A : Type 0} (o : Option A) → IfSome o (λ x. o ≡ Some x)
known None = tt
known (Some x) = refl

with_all_known : {A : Type 0} (P : A → Type 0) (ws : List Word) (x : A) → (ws ≡ [] → P x) → IfSome (with_all ws x) P
with_all_known P [] x h = h refl
with_all_known P (w ∷ ws) x h = tt

name_behind_is : (keyword : List ℕ) (ws more : List Word) (name : List ℕ × List Word) → behind keyword ws ≡ Some more → name_at more ≡ Some name → name_behind keyword ws ≡ Some name
name_behind_is keyword ws more name b n = ap (λ (o : Option (List Word)). o >>= λ more. name_at more) b ∙ n

sides_are : (ws : List Word) (source target : List ℕ × List Word) → name_behind (codes "from") ws ≡ Some source → name_behind (codes "to") source.1 ≡ Some target → target.1 ≡ []
    → profiles_at ws ≡ Some (source.0, target.0)
sides_are ws source target s t none =
    ap (λ (o : Option (List ℕ × List Word)). o >>= λ source. name_behind (codes "to") source.1 >>= λ target. with_all target.1 (source.0, target.0)) s
    ∙ ap (λ (o : Option (List ℕ × List Word)). o >>= λ target. with_all target.1 (source.0, target.0)) t
    ∙ ap (λ ws. with_all ws (source.0, target.0)) none

head_is : (n : ℕ) (ws : List Word) (name : List ℕ × List Word) (source target : List ℕ) → name_behind (codes "map") ws ≡ Some name → profiles_at name.1 ≡ Some (source, target)
    → map_header_of (n, ws) ≡ Some (record { line = n; name = name.0; source = source; target = target })
head_is n ws name source target e s =
    ap (λ (o : Option (List ℕ × List Word)). o >>= λ name. profiles_at name.1 >>= λ named_profiles. Some (heading n name.0 named_profiles)) e
    ∙ ap (λ (o : Option (List ℕ × List ℕ)). o >>= λ named_profiles. Some (heading n name.0 named_profiles)) s
  where
    heading : ℕ → List ℕ → List ℕ × List ℕ → MapHeader
    heading n name named_profiles = record { line = n; name = name; source = named_profiles.0; target = named_profiles.1 }

begins_says : (at : ℕ) (w : Word) (more : List Word) → is_keyword (codes "map") w ≡ true → IfSome (map_form at more) (Says (w ∷ more))
begins_says at w more k =
    let P = Says (w ∷ more) in
    gives (λ name. name_at more ≡ Some name) P (name_at more) _ (known (name_at more))
    (λ name e1. gives (λ first. behind (codes "from") name.1 ≡ Some first) P (behind (codes "from") name.1) _ (known (behind (codes "from") name.1))
    (λ first e2. gives (λ source. name_at first ≡ Some source) P (name_at first) _ (known (name_at first))
    (λ source e3. gives (λ second. behind (codes "to") source.1 ≡ Some second) P (behind (codes "to") source.1) _ (known (behind (codes "to") source.1))
    (λ second e4. gives (λ target. name_at second ≡ Some target) P (name_at second) _ (known (name_at second))
    (λ target e5. with_all_known P target.1 (Begins at name.0 source.0 target.0)
    (λ none n. head_is n (w ∷ more) name source.0 target.0 (name_behind_is (codes "map") (w ∷ more) more name (ap (λ (b : Bool). if b then Some more else None) k) e1)
    (sides_are name.1 source target (name_behind_is (codes "from") name.1 first source e2 e3) (name_behind_is (codes "to") source.1 second target e4 e5) none)))))))

module _ {A : Type 0} (ws : List Word) (o : Option A) (f : A → Option Line) where
  after : ((x : A) → IfSome (f x) (Says ws)) → IfSome (o >>= f) (Says ws)
  after h = gives (λ _. Unit {0}) (Says ws) o f (any o) (λ x u. h x)

each_says : (ws : List Word) (at : ℕ) (label : Option (List ℕ)) (more : List Word) → IfSome (each_form at label more) (Says ws)
each_says ws at label more = after ws (behind (codes "each") more) _ (λ m. after ws (walk_form m) _ (λ w. tt))

rule_says : (at : ℕ) (w : Word) (more : List Word) → IfSome (rule_form at w more) (Says (w ∷ more))
rule_says at w more =
    let P = Says (w ∷ more) in
    either_gives P (is_keyword (codes "copy") w) (copies_form at more) _ (map_gives (λ _. Unit {0}) P (made_from more) _ (any (made_from more)) (λ m u. tt))
    (either_gives P (is_keyword (codes "first") w) (firsts_form at more) _ (map_gives (λ _. Unit {0}) P (chosen_from more) _ (any (chosen_from more)) (λ m u. tt))
    (either_gives P (is_keyword (codes "repeat") w) (repeats_form at more) _ (map_gives (λ _. Unit {0}) P (chosen_from more) _ (any (chosen_from more)) (λ m u. tt))
    (either_gives P (is_keyword (codes "build") w) (builds_form at more) _ (after (w ∷ more) (number_at 999 more) _ (λ n. after (w ∷ more) (own_leaves at n.1) _ (λ l. tt)))
    (either_gives P (is_keyword (codes "at") w) (at_form at more) _ (after (w ∷ more) (plain_at place_of more) _ (λ p. after (w ∷ more) (leaf_form p.1) _ (λ l. tt)))
    (either_gives P (is_keyword (codes "or") w) (or_form at more) None (map_gives (λ _. Unit {0}) P (leaf_form more) _ (any (leaf_form more)) (λ l u. tt)) tt)))))

form_says : (at : ℕ) (ws : List Word) → IfSome (form at ws) (Says ws)
form_says at [] = tt
form_says at (w ∷ more) =
    let P = Says (w ∷ more) in
    keyword_gives P (is_keyword (codes "map") w) (map_form at more) _ (begins_says at w more)
    (either_gives P (is_keyword (codes "language") w) (language_form more) _ (after (w ∷ more) (behind (codes "2") more) _ (λ m. with_all_is P m Language tt))
    (either_gives P (is_keyword (codes "table") w) (table_form more) _ (after (w ∷ more) (name_at more) _ (λ n. with_all_is P n.1 (Table n.0) tt))
    (either_gives P (is_keyword (codes "row") w) (row_form more) _ (after (w ∷ more) (text_at more) _ (λ a. after (w ∷ more) (some_texts a.1) _ (λ b. tt)))
    (either_gives P (is_keyword (codes "else") w) (else_form more) _ (after (w ∷ more) (some_texts more) _ (λ a. tt))
    (either_gives P (is_keyword (codes "segment") w) (segment_form at more) _ (after (w ∷ more) (name_at more) _ (λ l. after (w ∷ more) (source_form l.1) _ (λ s. tt)))
    (either_gives P (is_keyword (codes "group") w) (group_form at more) _ (after (w ∷ more) (name_at more) _ (λ l. each_says (w ∷ more) at (Some l.0) l.1))
    (either_gives P (is_keyword (codes "flat") w) (each_form at None more) _ (each_says (w ∷ more) at None more)
    (either_gives P (is_keyword (codes "end") w) (with_all more End) _ (with_all_is P more End tt)
    (either_gives P (is_keyword (codes "drop") w) (drop_form at more) _ (after (w ∷ more) (plain_at (drop_of at) more) _ (λ d. with_all_is P d.1 (Drops d.0) tt)) (rule_says at w more))))))))))

-- what the first line of a map says
pub record Started (line : Line) : Type 0 where
  pub at : ℕ
  pub name : List ℕ
  pub source : List ℕ
  pub target : List ℕ
  pub is : line ≡ Begins at name source target

first_begins : (n : ℕ) (line : Line) → first_of (tests [] n line) ≡ None → Started line
first_begins n (Begins at name source target) e = record { at = at; name = name; source = source; target = target; is = refl }
first_begins n Language e = absurd (cc)
first_begins n (Table name) e = absurd (cc)
first_begins n (Rows row) e = absurd (cc)
first_begins n (Else value) e = absurd (cc)
first_begins n (Segment at label source) e = absurd (cc)
first_begins n (Makes rule) e = absurd (cc)
first_begins n (At leaf) e = absurd (cc)
first_begins n (Or other) e = absurd (cc)
first_begins n (Each at label walk) e = absurd (cc)
first_begins n End e = absurd (cc)
first_begins n (Drops drop) e = absurd (cc)

some_said : (all : List Line) → is_unclosed all ≡ false → all ≡ [] → ⊥
some_said [] closed e = cc
some_said (line ∷ all) closed e = cc

-- a head, as the first lines say it, with this name
pub record Headed (said : Option MapHeader) (name : List ℕ) : Type 0 where
  pub heading : MapHeader
  pub is : said ≡ Some heading
  pub name_is : heading.name ≡ name

headed : (n : ℕ) (text : List (List ℕ)) (all : List Line) → First grammar n text all → Headed (first_said n text >>= map_header_of) (head (reverse all)).name
headed n text all f =
    let t = taken_by grammar [] f.at f.spelling f.line f.taken in
    let b = first_begins f.at f.line t.1 in
    let says : Says f.spelling (Begins b.at b.name b.source b.target) = subst (Says f.spelling) b.is (subst (λ o. IfSome o (Says f.spelling)) t.0 (form_says f.at f.spelling)) in
    record {
      heading = record { line = f.number; name = b.name; source = b.source; target = b.target };
      is = ap (λ o. o >>= map_header_of) f.said ∙ says f.number;
      name_is = sym (ap (λ ls. (head (reverse ls)).name) f.all_are ∙ ap (λ ls. (head ls).name) (turned f.others f.line) ∙ ap (λ (l : Line). (head (l ∷ reverse f.others)).name) b.is);
    }

-- the lines of a map, of which no part is open
whole_is : (all : List Line) (at : ℕ) (v : MapValue) → whole all at ≡ Ok v → (is_unclosed all ≡ false) × (map_of all ≡ v)
whole_is all at v e = by (is_unclosed all) refl e
  where
    by : (b : Bool) → is_unclosed all ≡ b → ◌≡◌ {A = Result MapValue MapFault} (if b then Err (Syntax at) else Ok (map_of all)) (Ok v) → (is_unclosed all ≡ false) × (map_of all ≡ v)
    by true u k = absurd (cc)
    by false u k = (u, ok k)
      where
        ok : {x y : MapValue} → ◌≡◌ {A = Result MapValue MapFault} (Ok x) (Ok y) → x ≡ y
        ok k = cc

named_so : (p : Inner) (v : MapValue) → spelled (text p) ≡ Ok v → broken (p.at + 1) p.lines ≡ None → Headed (map_header p) v.name
named_so p v e unbroken =
    let a = spelled_accepts takes Syntax whole most_bytes most_lines TooLarge (text p) v e in
    let w = whole_is a.all (1 + length (lines (text p))) v a.value in
    let accepts = subst (λ (ls : List (List ℕ)). accepted Syntax takes [] 1 ls ≡ Ok a.all) (rejoined (p.at + 1) p.lines unbroken) a.accepts in
    let name : (head (reverse a.all)).name ≡ v.name = ap (λ (m : MapValue). m.name) w.1 in
    elim (first_taken grammar Syntax (p.at + 1) 1 p.lines a.all accepts) [
      | inl none ↦ absurd (some_said a.all w.0 none)
      | inr f ↦ (let h = headed (p.at + 1) p.lines a.all f in record { heading = h.heading; is = h.is; name_is = h.name_is ∙ name })
    ]

again_none : (o : Option MapBetween) (at : ℕ) → (if is_some o then Some (Duplicate at) else None) ≡ None → o ≡ None
again_none None at k = refl
again_none (Some x) at k = absurd (cc)

-- no map above has the name of one that is taken
pub map_is_new : (ps : List ProfileValue) (ms : List MapBetween) (p : Inner) (v : MapValue) → spelled (text p) ≡ Ok v → map_faults_beside ps ms p ≡ None → named_map v.name ms ≡ None
map_is_new ps ms p v e none =
    let both = none_of_both (common p) (header_faults ps ms (map_header p)) none in
    let h = named_so p v e (none_beside p both.0) in
    let headers = none_of_both (duplicate_map ms h.heading) (unknown_profile ps h.heading) (ap (header_faults ps ms) (sym h.is) ∙ both.1) in
    ap (λ name. named_map name ms) (sym h.name_is) ∙ again_none (named_map h.heading.name ms) h.heading.line headers.0
