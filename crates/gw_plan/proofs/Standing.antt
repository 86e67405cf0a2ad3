-- What stands above in a plan, by name.
use Rattle.std.proofs.Common.{◌≡◌, ℕ, List, [], ◌∷◌, ◌++◌, map, Option, Some, None, Bool, true, false, refl, sym, ap, ◌∙◌, subst}
use Rattle.std.specs.Prelude.{if◌then◌else◌, bytes_eq}
use Rattle.std.specs.List.{AllByRecursion}
use Rattle.std.specs.Map.{lookup}
use Rattle.std.specs.Option.{option_map, option_copied, IfSome}
use Rattle.std.specs.Global.{Vec}
use Rattle.std.proofs.lemmas.List.{map-append}
use Rattle.std.proofs.lemmas.Slice.Eq.{bytes_eq-Decides}
use Rattle.indexmap.specs.IndexMap.{insert_entry}
use Rattle.indexmap.proofs.MapLemmas.{absent_from_lookup, insert_entry-absent}
use denote.Ref.{Bor}
use Rattle.gw_profile.specs.Seen as profiles
use Rattle.gw_profile.specs.Seen.{profile_value}
use Rattle.gw_profile.specs.Shapes.{ProfileValue}
use Rattle.gw_maplang.specs.Seen as maps
use Rattle.gw_check.specs.Kept.{CheckedValue, BetweenValue}
use Rattle.gw_plan.specs.Shapes.{MapBetween, named}
use Rattle.gw_plan.specs.Held.{map_between}
use Rattle.gw_plan.specs.Declarations.{AreDeclared, BeginsAt, Names, named_profile, named_map}
use Rattle.gw_plan.specs.own.Made.{IsCheckedSo, IsTaken}
use Rattle.gw_plan.proofs.Keys.{some_same}

all_push : {A : Type 0} (P : A → Type 0) (xs : List A) (x : A) → AllByRecursion P xs → P x → AllByRecursion P (xs ++ x ∷ [])
all_push P [] x all p = (p, tt)
all_push P (y ∷ xs) x all p = (all.0, all_push P xs x all.1 p)

all_weaken : {A : Type 0} (P Q : A → Type 0) (xs : List A) → ((x : A) → P x → Q x) → AllByRecursion P xs → AllByRecursion Q xs
all_weaken P Q [] f all = tt
all_weaken P Q (x ∷ xs) f all = (f x all.0, all_weaken P Q xs f all.1)

-- what is found among some is found among more
named_more : {A : Type 0} (name_of : A → List ℕ) (name : List ℕ) (xs ys : List A) (x : A) → named name_of name xs ≡ Some x → named name_of name (xs ++ ys) ≡ Some x
named_more name_of name [] ys x e = absurd (cc)
named_more {A} name_of name (y ∷ xs) ys x e = by (bytes_eq name (name_of y)) e (named_more name_of name xs ys x)
  where
    by : (b : Bool) → (if b then Some y else named name_of name xs) ≡ Some x → (named name_of name xs ≡ Some x → named name_of name (xs ++ ys) ≡ Some x)
        → (if b then Some y else named name_of name (xs ++ ys)) ≡ Some x
    by true e next = e
    by false e next = next e

-- what is found by a name has it
named_is : {A : Type 0} (name_of : A → List ℕ) (name : List ℕ) (xs : List A) (x : A) → named name_of name xs ≡ Some x → name ≡ name_of x
named_is name_of name [] x e = absurd (cc)
named_is {A} name_of name (y ∷ xs) x e = by (bytes_eq name (name_of y)) refl e (named_is name_of name xs x)
  where
    by : (b : Bool) → bytes_eq name (name_of y) ≡ b → (if b then Some y else named name_of name xs) ≡ Some x → (named name_of name xs ≡ Some x → name ≡ name_of x) → name ≡ name_of x
    by true same f next = (bytes_eq-Decides name (name_of y)).0 same ∙ ap name_of (some_same f)
    by false same f next = next f

-- each entry's key is the name of what it holds, seen by two steps
abbrev pub Keyed : {A B P : Type 0} → (B → P) → (A → B) → (P → List ℕ) → List (Vec ℕ × A) → Type 0
Keyed {A} {B} {P} f g name_of es = AllByRecursion (λ (e : List ℕ × B). e.0 ≡ name_of (f e.1)) (map (λ (e : Vec ℕ × A). (e.0.items, g e.1)) es)

pub lookup_named : {A B P : Type 0} (f : B → P) (g : A → B) (name_of : P → List ℕ) (name : List ℕ) (es : List (Vec ℕ × A)) → Keyed f g name_of es
    → option_map (λ x. f (g x)) (lookup (λ k. bytes_eq name k.items) es) ≡ named name_of name (map f (map (λ e. g e.1) es))
lookup_named f g name_of name [] keyed = refl
lookup_named {A} {B} {P} f g name_of name (e ∷ es) keyed =
    by (bytes_eq name e.0.items) (lookup_named f g name_of name es keyed.1) ∙ ap (λ key. if bytes_eq name key then Some (f (g e.1)) else named name_of name (map f (map (λ e. g e.1) es))) keyed.0
  where
    by : (b : Bool) → option_map (λ x. f (g x)) (lookup (λ k. bytes_eq name k.items) es) ≡ named name_of name (map f (map (λ e. g e.1) es))
        → option_map (λ x. f (g x)) (if b then Some e.1 else lookup (λ k. bytes_eq name k.items) es) ≡ (if b then Some (f (g e.1)) else named name_of name (map f (map (λ e. g e.1) es)))
    by true h = refl
    by false h = h

-- what a look-up borrows is what has the name
pub lent_named : {A B P : Type 0} (f : B → P) (g : A → B) (name_of : P → List ℕ) (name : List ℕ) (es : List (Vec ℕ × A)) (result : Option (Bor A)) → Keyed f g name_of es
    → option_copied result ≡ lookup (λ k. bytes_eq name k.items) es → option_map (λ (x : Bor A). f (g x.now)) result ≡ named name_of name (map f (map (λ e. g e.1) es))
lent_named f g name_of name es None keyed e = ap (option_map (λ x. f (g x))) e ∙ lookup_named f g name_of name es keyed
lent_named f g name_of name es (Some x) keyed e = ap (option_map (λ x. f (g x))) e ∙ lookup_named f g name_of name es keyed

-- what holds of each holds of one that is found
all_lookup : {A B : Type 0} (P : B → Type 0) (g : A → B) (name : List ℕ) (es : List (Vec ℕ × A)) (x : A) → AllByRecursion (λ (e : List ℕ × B). P e.1) (map (λ (e : Vec ℕ × A). (e.0.items, g e.1)) es)
    → lookup (λ k. bytes_eq name k.items) es ≡ Some x → P (g x)
all_lookup P g name [] x all e = absurd (cc)
all_lookup {A} {B} P g name (e ∷ es) x all found = by (bytes_eq name e.0.items) found (all_lookup P g name es x all.1)
  where
    by : (b : Bool) → (if b then Some e.1 else lookup (λ k. bytes_eq name k.items) es) ≡ Some x → (lookup (λ k. bytes_eq name k.items) es ≡ Some x → P (g x)) → P (g x)
    by true same next = subst (λ y. P (g y)) (some_same same) all.0
    by false same next = next same

pub lent_all : {A B : Type 0} (P : B → Type 0) (g : A → B) (name : List ℕ) (es : List (Vec ℕ × A)) (result : Option (Bor A))
    → AllByRecursion (λ (e : List ℕ × B). P e.1) (map (λ (e : Vec ℕ × A). (e.0.items, g e.1)) es)
    → option_copied result ≡ lookup (λ k. bytes_eq name k.items) es → IfSome result (λ (x : Bor A). P (g x.now))
lent_all P g name es None all e = tt
lent_all P g name es (Some x) all e = all_lookup P g name es x.now all (sym e)

-- what is held, without the names
pub held_values : {A B P : Type 0} (f : B → P) (g : A → B) (es : List (Vec ℕ × A)) → map (λ (e : List ℕ × B). f e.1) (map (λ (e : Vec ℕ × A). (e.0.items, g e.1)) es) ≡ map f (map (λ e. g e.1) es)
held_values f g [] = refl
held_values f g (e ∷ es) = ap (λ ps. f (g e.1) ∷ ps) (held_values f g es)

none_of_map : {A B : Type 0} (f : A → B) (o : Option A) → option_map f o ≡ None → o ≡ None
none_of_map f None e = refl
none_of_map f (Some x) e = absurd (cc)

-- what has a new name goes last
pub inserted : {A B P : Type 0} (f : B → P) (g : A → B) (name_of : P → List ℕ) (es : List (Vec ℕ × A)) (key : Vec ℕ) (x : A) → Keyed f g name_of es
    → named name_of key.items (map f (map (λ e. g e.1) es)) ≡ None → insert_entry (λ k l. bytes_eq k.items l.items) es key x ≡ es ++ (key, x) ∷ []
inserted f g name_of es key x keyed new =
    insert_entry-absent (λ k l. bytes_eq k.items l.items) key x es
    (absent_from_lookup (λ k. bytes_eq key.items k.items) es (none_of_map (λ x. f (g x)) _ (lookup_named f g name_of key.items es keyed ∙ new)))

-- ---- what is kept

-- the profiles that are held, without the names
abbrev Held : List (List ℕ × profiles.Contents) → List ProfileValue
Held ps = map (λ p. profile_value p.1) ps

-- what has a name still has it
named_still : (ps : List (List ℕ × profiles.Contents)) (name : List ℕ) (p : profiles.Contents) (of : List ℕ) (value : ProfileValue) → named_profile of (Held ps) ≡ Some value
    → named_profile of (Held (ps ++ (name, p) ∷ [])) ≡ Some value
named_still ps name p of value h = rw map-append (named_more (λ (p : ProfileValue). p.name) of (Held ps) (profile_value p ∷ []) value h)

pub profile_added : (ps : List (List ℕ × profiles.Contents)) (ms : List (List ℕ × CheckedValue)) (bs : List (Names × BetweenValue)) (name : List ℕ) (p : profiles.Contents) → name ≡ p.name
    → AreDeclared ps ms bs → AreDeclared (ps ++ (name, p) ∷ []) ms bs
profile_added ps ms bs name p e is = record {
  profile_names = all_push (λ (e : List ℕ × profiles.Contents). e.0 ≡ e.1.name) ps (name, p) is.profile_names e;
  map_names = is.map_names;
  sources =
      all_weaken (λ (e : List ℕ × CheckedValue). BeginsAt (Held ps) e.1) (λ (e : List ℕ × CheckedValue). BeginsAt (Held (ps ++ (name, p) ∷ [])) e.1) ms
      (λ e h. named_still ps name p e.1.source.name (profile_value e.1.source) h) is.sources;
  between = λ k b e. (let h = is.between k b e in record {
    source_is = named_still ps name p k.0.items (profile_value b.source) h.source_is;
    target_is = named_still ps name p k.1.items (profile_value b.target) h.target_is;
  });
}

pub map_added : (ps : List (List ℕ × profiles.Contents)) (ms : List (List ℕ × CheckedValue)) (bs : List (Names × BetweenValue)) (name : List ℕ) (m : CheckedValue) → name ≡ m.map.name
    → BeginsAt (map (λ p. profile_value p.1) ps) m → AreDeclared ps ms bs → AreDeclared ps (ms ++ (name, m) ∷ []) bs
map_added ps ms bs name m e begins is = record {
  profile_names = is.profile_names;
  map_names = all_push (λ (e : List ℕ × CheckedValue). e.0 ≡ e.1.map.name) ms (name, m) is.map_names e;
  sources = all_push (λ (e : List ℕ × CheckedValue). BeginsAt (map (λ p. profile_value p.1) ps) e.1) ms (name, m) is.sources begins;
  between = is.between;
}

-- ---- one more

same_key : {X : Type 0} (name_of : X → List ℕ) (xs : List X) {one other : List ℕ} → one ≡ other → named name_of other xs ≡ None → named name_of one xs ≡ None
same_key name_of xs e none = ap (λ name. named name_of name xs) e ∙ none

-- the entries with a profile that is new
pub profile_put : {A : Type 0} (g : A → profiles.Contents) (es new : List (Vec ℕ × A)) (ms : List (List ℕ × CheckedValue)) (bs : List (Names × BetweenValue)) (key : Vec ℕ) (x : A) → key.items ≡ (g x).name
    → AreDeclared (map (λ e. (e.0.items, g e.1)) es) ms bs → named_profile (g x).name (map profile_value (map (λ e. g e.1) es)) ≡ None
    → new ≡ insert_entry (λ k l. bytes_eq k.items l.items) es key x → new ≡ es ++ (key, x) ∷ []
profile_put g es new ms bs key x e is none put = put ∙ inserted profile_value g (λ (p : ProfileValue). p.name) es key x is.profile_names (same_key (λ (p : ProfileValue). p.name) _ e none)

pub profile_kept : {A : Type 0} (g : A → profiles.Contents) (es new : List (Vec ℕ × A)) (ms : List (List ℕ × CheckedValue)) (bs : List (Names × BetweenValue)) (key : Vec ℕ) (x : A) → key.items ≡ (g x).name → new ≡ es ++ (key, x) ∷ []
    → AreDeclared (map (λ e. (e.0.items, g e.1)) es) ms bs → AreDeclared (map (λ e. (e.0.items, g e.1)) new) ms bs
profile_kept g es new ms bs key x e put is = rw put (rw map-append (profile_added (map (λ e. (e.0.items, g e.1)) es) ms bs key.items (g x) e is))

pub one_more : {A B : Type 0} (g : A → B) (es new : List (Vec ℕ × A)) (key : Vec ℕ) (x : A) → new ≡ es ++ (key, x) ∷ [] → map (λ e. g e.1) new ≡ map (λ e. g e.1) es ++ g x ∷ []
one_more {A} g es new key x put = ap (map (λ (e : Vec ℕ × A). g e.1)) put ∙ map-append (λ (e : Vec ℕ × A). g e.1) es ((key, x) ∷ [])

-- the same with a map
pub map_put : {A : Type 0} (g : A → CheckedValue) (es new : List (Vec ℕ × A)) (ps : List (List ℕ × profiles.Contents)) (bs : List (Names × BetweenValue)) (key : Vec ℕ) (x : A)
    → key.items ≡ (g x).map.name → AreDeclared ps (map (λ e. (e.0.items, g e.1)) es) bs → named_map (g x).map.name (map map_between (map (λ e. g e.1) es)) ≡ None
    → new ≡ insert_entry (λ k l. bytes_eq k.items l.items) es key x → new ≡ es ++ (key, x) ∷ []
map_put g es new ps bs key x e is none put = put ∙ inserted map_between g (λ (b : MapBetween). b.map.name) es key x is.map_names (same_key (λ (b : MapBetween). b.map.name) _ e none)

pub map_kept : {A B : Type 0} (f : B → profiles.Contents) (g : A → CheckedValue) (qs : List (Vec ℕ × B)) (es new : List (Vec ℕ × A)) (bs : List (Names × BetweenValue)) (key : Vec ℕ) (x : A)
    → key.items ≡ (g x).map.name → new ≡ es ++ (key, x) ∷ []
    → BeginsAt (map profile_value (map (λ e. f e.1) qs)) (g x) → AreDeclared (map (λ e. (e.0.items, f e.1)) qs) (map (λ e. (e.0.items, g e.1)) es) bs
    → AreDeclared (map (λ e. (e.0.items, f e.1)) qs) (map (λ e. (e.0.items, g e.1)) new) bs
map_kept f g qs es new bs key x e put begins is =
    let held = subst (λ (ps : List ProfileValue). BeginsAt ps (g x)) (sym (held_values profile_value f qs)) begins in
    rw put (rw map-append (map_added (map (λ e. (e.0.items, f e.1)) qs) (map (λ e. (e.0.items, g e.1)) es) bs key.items (g x) e held is))

-- what was checked begins at the profile that its map names
pub taken_so : (ps : List ProfileValue) (source target : profiles.Contents) (m : maps.Contents) (checked given : CheckedValue) → given ≡ checked → IsCheckedSo source target m checked
    → named_profile m.source ps ≡ Some (profile_value source) → IsTaken ps m given
taken_so ps source target m checked given same is found =
    let from : given.source ≡ source = ap (λ (c : CheckedValue). c.source) same ∙ is.source_is in
    let named = named_is (λ (p : ProfileValue). p.name) m.source ps (profile_value source) found in
    let begins = subst (λ name. named_profile name ps ≡ Some (profile_value source)) named found in
    record {
      map_is = ap (λ (c : CheckedValue). c.map) same ∙ is.map_is;
      source = subst (λ (p : profiles.Contents). named_profile p.name ps ≡ Some (profile_value p)) (sym from) begins;
    }
