-- What the words of a line say of it.
use Rattle.std.proofs.Common.{◌≡◌, ℕ, ◌≤◌, Bool, true, false, List, [], ◌∷◌, length, Option, Some, None, refl, arith, bytes_eq}
use Rattle.std.specs.Prelude.{◌&&◌, ◌||◌, ◌==◌, nat_le, if◌then◌else◌, IfSome, codes}
use Rattle.std.specs.List.{AllByRecursion, before_first, after_first}
use Rattle.std.specs.Option.{option_and_then, option_map}
use Rattle.gw_lines.specs.Words.{Word}
use Rattle.std.proofs.lemmas.Bool.Decides.{Decides-eqb}
use Rattle.gw_er7.specs.Names as Names
use Rattle.gw_lines.specs.Spelled.{plain_bytes, name, segment_word, is_name, is_upper, is_digit, is_name_byte, is_dot, is_decimal, decimal, number, number_word, greatest, behind_dot, range, range_word, is_keyword}
use Rattle.gw_lines.specs.Values.{is_value, bytes_of, value_bytes}
use Rattle.gw_lines.specs.Parts.{◌>>=◌, first_word, name_at, segment_at, number_at, behind, values, some_values, with_all}
use Rattle.gw_profile.specs.declared.shape.Usage.{Usage}
use Rattle.gw_profile.specs.Line.{Line, Leaf, Begins, Table, Segment, Field, Comp, Sub, Group, End, Counts, count_form, is_forbidden, usage_at, card_word, card_at, label_behind, label_at, leaf_at, len_behind, len_at, table_at, is_said, said_leaf, lawful_leaf, options, leaf_options, profile_form, table_form, segment_form, field_form, comp_form, sub_form, group_form, keyword_form, form}
use Rattle.gw_profile.specs.WellFormed.{Counted}
use Rattle.gw_profile.proofs.Facts.{both, and_of, or_left, or_right, le_is}

abbrev pub Measured : ℕ → Type 0
Measured most = (1 ≤ most) × (most ≤ 999999)

abbrev pub LeafIs : Option Usage → Option Leaf → Type 0
LeafIs usage None = Unit {0}
LeafIs usage (Some leaf) = (is_forbidden usage ≡ false) × IfSome leaf.len Measured

abbrev pub Numbered : ℕ → ℕ → Type 0
Numbered high n = (1 ≤ n) × (n ≤ high)

abbrev pub Shaped : Line → Type 0
Shaped (Begins name) = is_name name ≡ true
Shaped (Table name values) = (is_name name ≡ true) × (values ≡ [] → ⊥) × AllByRecursion (λ v. is_value v ≡ true) values
Shaped (Segment name label renamed usage card) = (Names.is_name name ≡ true) × (is_name label ≡ true) × (renamed ≡ false → label ≡ name) × Counted card
Shaped (Field number usage card leaf) = Numbered 999 number × Counted card × LeafIs usage leaf
Shaped (Comp number usage leaf) = Numbered 99 number × LeafIs usage leaf
Shaped (Sub number usage leaf) = Numbered 99 number × LeafIs usage leaf
Shaped (Group at label usage card) = (is_name label ≡ true) × Counted card
Shaped End = Unit {0}
Shaped Counts = Unit {0}

-- ---- steps

pub any : {A : Type 0} (o : Option A) → IfSome o (λ _. Unit {0})
any None = tt
any (Some x) = tt

pub gives : {A B : Type 0} (P : A → Type 0) (Q : B → Type 0) (o : Option A) (f : A → Option B) → IfSome o P → ((x : A) → P x → IfSome (f x) Q) → IfSome (o >>= f) Q
gives P Q None f h k = tt
gives P Q (Some x) f h k = k x h

pub then_gives : {A B : Type 0} (P : A → Type 0) (Q : B → Type 0) (o : Option A) (f : A → Option B) → IfSome o P → ((x : A) → P x → IfSome (f x) Q) → IfSome (option_and_then f o) Q
then_gives P Q None f h k = tt
then_gives P Q (Some x) f h k = k x h

pub map_gives : {A B : Type 0} (P : A → Type 0) (Q : B → Type 0) (o : Option A) (f : A → B) → IfSome o P → ((x : A) → P x → Q (f x)) → IfSome (option_map f o) Q
map_gives P Q None f h k = tt
map_gives P Q (Some x) f h k = k x h

pub chosen : {A : Type 0} (P : A → Type 0) (b : Bool) (x : A) → (b ≡ true → P x) → IfSome (if b then Some x else None) P
chosen P true x h = h refl
chosen P false x h = tt

pub either_gives : {A : Type 0} (P : A → Type 0) (b : Bool) (x y : Option A) → IfSome x P → IfSome y P → IfSome (if b then x else y) P
either_gives P true x y h k = h
either_gives P false x y h k = k

-- ---- words

pub name_is : (w : Word) → IfSome (name w) (λ t. is_name t ≡ true)
name_is w = then_gives (λ _. Unit {0}) (λ t. is_name t ≡ true) (plain_bytes w) _ (any (plain_bytes w)) (λ bytes h. chosen _ (is_name bytes) bytes (λ e. e))

pub number_is : (low high : ℕ) (bytes : List ℕ) → IfSome (number low high bytes) (λ n. (low ≤ n) × (n ≤ high))
number_is low high bytes =
    chosen _ (is_decimal bytes && nat_le low (decimal 0 bytes) && nat_le (decimal 0 bytes) high) (decimal 0 bytes)
    (λ e. let p = both _ _ e in let q = both _ _ p.0 in (le_is _ _ q.1, le_is _ _ p.1))

abbrev InRange : ℕ × Option ℕ → Type 0
InRange r = (r.0 ≤ 9999) × IfSome r.1 (λ most. most ≤ 9999)

greatest_is : (bytes : List ℕ) → IfSome (greatest bytes) (λ m. IfSome m (λ most. most ≤ 9999))
greatest_is bytes =
    either_gives _ (bytes_eq bytes (codes "*")) (Some None) (option_map Some (number 0 9999 bytes)) tt
    (map_gives (λ n. (0 ≤ n) × (n ≤ 9999)) _ (number 0 9999 bytes) Some (number_is 0 9999 bytes) (λ n h. h.1))

behind_dot_is : (bytes : List ℕ) → IfSome (behind_dot bytes) (λ m. IfSome m (λ most. most ≤ 9999))
behind_dot_is [] = tt
behind_dot_is (b ∷ bytes) = either_gives _ (is_dot b) (greatest bytes) None (greatest_is bytes) tt

range_is : (bytes : List ℕ) → IfSome (range bytes) InRange
range_is bytes =
    then_gives (λ n. (0 ≤ n) × (n ≤ 9999)) InRange (number 0 9999 (before_first is_dot bytes)) _ (number_is 0 9999 (before_first is_dot bytes))
    (λ low h. map_gives (λ m. IfSome m (λ most. most ≤ 9999)) InRange (behind_dot (after_first is_dot bytes)) _ (behind_dot_is (after_first is_dot bytes)) (λ most k. (h.1, k)))

card_word_is : (w : Word) → IfSome (card_word w) Counted
card_word_is w =
    map_gives InRange Counted (range_word w) _
    (then_gives (λ _. Unit {0}) InRange (plain_bytes w) _ (any (plain_bytes w)) (λ bytes h. range_is bytes)) (λ r h. h)

pub name_at_is : (words : List Word) → IfSome (name_at words) (λ p. is_name p.0 ≡ true)
name_at_is words =
    gives (λ _. Unit {0}) _ (first_word words) _ (any (first_word words))
    (λ w h. gives (λ t. is_name t ≡ true) _ (name w.0) _ (name_is w.0) (λ t e. e))

pub number_at_is : (high : ℕ) (words : List Word) → IfSome (number_at high words) (λ p. Numbered high p.0)
number_at_is high words =
    gives (λ _. Unit {0}) _ (first_word words) _ (any (first_word words))
    (λ w h. gives (Numbered high) _ (number_word 1 high w.0) _ (then_gives (λ _. Unit {0}) _ (plain_bytes w.0) _ (any (plain_bytes w.0)) (λ bytes h. number_is 1 high bytes)) (λ t e. e))

card_at_is : (words : List Word) → IfSome (card_at words) (λ p. Counted p.0)
card_at_is words =
    gives (λ _. Unit {0}) _ (first_word words) _ (any (first_word words))
    (λ w h. gives Counted _ (card_word w.0) _ (card_word_is w.0) (λ t e. e))

pub with_all_is : {A : Type 0} (P : A → Type 0) (words : List Word) (x : A) → P x → IfSome (with_all words x) P
with_all_is P [] x h = h
with_all_is P (w ∷ more) x h = tt

len_behind_is : (o : Option (List Word)) (words : List Word) → IfSome (len_behind o words) (λ p. IfSome p.0 Measured)
len_behind_is None words = tt
len_behind_is (Some more) words = gives (λ p. Numbered 999999 p.0) _ (number_at 999999 more) _ (number_at_is 999999 more) (λ p h. h)

said_is : (said : Bool) (len : Option ℕ) (table : Option (List ℕ)) → IfSome len Measured → IfSome (said_leaf said len table) (λ leaf. IfSome leaf.len Measured)
said_is said len table h = chosen _ (is_said said len table) _ (λ e. h)

lawful_leaf_is : (usage : Option Usage) (leaf : Option Leaf) → IfSome leaf (λ leaf. IfSome leaf.len Measured) → IfSome (lawful_leaf usage leaf) (LeafIs usage)
lawful_leaf_is usage None h = tt
lawful_leaf_is usage (Some leaf) h = by (is_forbidden usage) refl
  where
    by : (b : Bool) → is_forbidden usage ≡ b → IfSome (if b then None else Some (Some leaf)) (LeafIs usage)
    by true e = tt
    by false e = (e, h)

options_is : (usage : Option Usage) (said : Bool) (words : List Word) → IfSome (options usage said words) (LeafIs usage)
options_is usage said words =
    gives (λ p. IfSome p.0 Measured) _ (len_at words) _ (len_behind_is (behind (codes "len") words) words)
    (λ len h. gives (λ _. Unit {0}) _ (table_at len.1) _ (any (table_at len.1))
    (λ table k. gives (λ o. IfSome o (λ (leaf : Leaf). IfSome leaf.len Measured)) _ (with_all table.1 (said_leaf said len.0 table.0)) _
    (with_all_is _ table.1 (said_leaf said len.0 table.0) (said_is said len.0 table.0 h)) (λ leaf i. lawful_leaf_is usage leaf i)))

leaf_options_is : (usage : Option Usage) (words : List Word) → IfSome (leaf_options usage words) (LeafIs usage)
leaf_options_is usage words = options_is usage (leaf_at words).0 (leaf_at words).1

-- ---- lines

profile_form_is : (words : List Word) → IfSome (profile_form words) Shaped
profile_form_is words =
    gives (λ p. is_name p.0 ≡ true) _ (name_at words) _ (name_at_is words) (λ p h. with_all_is Shaped p.1 (Begins p.0) h)

values_is : (words : List Word) → IfSome (values words) (AllByRecursion (λ v. is_value v ≡ true))
values_is [] = tt
values_is (w ∷ more) =
    gives (λ v. is_value v ≡ true) _ (value_bytes w) _ (chosen _ (is_value (bytes_of w)) (bytes_of w) (λ e. e))
    (λ v h. gives (AllByRecursion (λ v. is_value v ≡ true)) _ (values more) _ (values_is more) (λ vs k. (h, k)))

abbrev SomeValues : List (List ℕ) → Type 0
SomeValues values = (values ≡ [] → ⊥) × AllByRecursion (λ v. is_value v ≡ true) values

some_values_is : (words : List Word) → IfSome (some_values words) SomeValues
some_values_is [] = tt
some_values_is (w ∷ more) =
    gives (λ v. is_value v ≡ true) SomeValues (value_bytes w) _ (chosen _ (is_value (bytes_of w)) (bytes_of w) (λ e. e))
    (λ v h. gives (AllByRecursion (λ v. is_value v ≡ true)) SomeValues (values more) _ (values_is more) (λ vs k. (λ e. cc, (h, k))))

table_form_is : (words : List Word) → IfSome (table_form words) Shaped
table_form_is words =
    gives (λ p. is_name p.0 ≡ true) _ (name_at words) _ (name_at_is words)
    (λ p h. gives SomeValues _ (some_values p.1) _ (some_values_is p.1) (λ vs k. (h, k.0, k.1)))

-- a lawful segment name is a name
upper_is_name : (b : ℕ) → is_upper b ≡ true → is_name_byte b ≡ true
upper_is_name b e = or_left (is_digit b || is_upper b || (nat_le 97 b && nat_le b 122)) _ (or_left (is_digit b || is_upper b) _ (or_right (is_digit b) _ e))

upper_or_digit_is_name : (b : ℕ) → Names.is_name_byte b ≡ true → is_name_byte b ≡ true
upper_or_digit_is_name b e = or_left (is_digit b || is_upper b || (nat_le 97 b && nat_le b 122)) _ (or_left (is_digit b || is_upper b) _ (swapped (is_upper b) (is_digit b) e))
  where
    swapped : (u d : Bool) → u || d ≡ true → d || u ≡ true
    swapped true d e = or_right d true refl
    swapped false d e = or_left d false e

pub lawful_is_name : (bytes : List ℕ) → Names.is_name bytes ≡ true → is_name bytes ≡ true
lawful_is_name [] e = absurd (cc)
lawful_is_name (a ∷ []) e = absurd (cc)
lawful_is_name (a ∷ b ∷ []) e = absurd (cc)
lawful_is_name (a ∷ b ∷ c ∷ []) e =
    let p = both (length (a ∷ b ∷ c ∷ []) == 3) _ e in let q = both (is_upper a) _ p.1 in let r = both (Names.is_name_byte b) _ q.1 in
    and_of _ _ (upper_is_name a q.0) (and_of _ _ (upper_or_digit_is_name b r.0) (and_of _ _ (upper_or_digit_is_name c r.1) refl))
lawful_is_name (a ∷ b ∷ c ∷ d ∷ more) e =
    let p = both (length (a ∷ b ∷ c ∷ d ∷ more) == 3) _ e in let n = (Decides-eqb (length (a ∷ b ∷ c ∷ d ∷ more)) 3).0 p.0 in absurd (omega arith)

-- a label, which is the name unless the line gives another
abbrev LabelIs : List ℕ → (List ℕ × Bool) × List Word → Type 0
LabelIs name p = (is_name p.0.0 ≡ true) × (p.0.1 ≡ false → p.0.0 ≡ name)

label_behind_is : (o : Option (List Word)) (other : List ℕ) (words : List Word) → is_name other ≡ true → IfSome (label_behind o other words) (LabelIs other)
label_behind_is None other words h = (h, λ e. refl)
label_behind_is (Some more) other words h = gives (λ p. is_name p.0 ≡ true) _ (name_at more) _ (name_at_is more) (λ p k. (k, λ e. absurd (cc)))

segment_at_is : (words : List Word) → IfSome (segment_at words) (λ p. Names.is_name p.0 ≡ true)
segment_at_is words =
    gives (λ _. Unit {0}) _ (first_word words) _ (any (first_word words))
    (λ w h. gives (λ t. Names.is_name t ≡ true) _ (segment_word w.0) _
    (then_gives (λ _. Unit {0}) (λ t. Names.is_name t ≡ true) (plain_bytes w.0) _ (any (plain_bytes w.0)) (λ bytes h. chosen _ (Names.is_name bytes) bytes (λ e. e))) (λ t e. e))

segment_form_is : (words : List Word) → IfSome (segment_form words) Shaped
segment_form_is words =
    gives (λ p. Names.is_name p.0 ≡ true) _ (segment_at words) _ (segment_at_is words)
    (λ name h. gives (LabelIs name.0) _ (label_at name.0 name.1) _ (label_behind_is (behind (codes "as") name.1) name.0 name.1 (lawful_is_name name.0 h))
    (λ label k. gives (λ _. Unit {0}) _ (usage_at label.1) _ (any (usage_at label.1))
    (λ usage i. gives (λ p. Counted p.0) _ (card_at usage.1) _ (card_at_is usage.1)
    (λ card j. with_all_is Shaped card.1 (Segment name.0 label.0.0 label.0.1 usage.0 card.0) (h, k.0, k.1, j)))))

field_form_is : (words : List Word) → IfSome (field_form words) Shaped
field_form_is words =
    gives (λ p. Numbered 999 p.0) _ (number_at 999 words) _ (number_at_is 999 words)
    (λ number h. gives (λ _. Unit {0}) _ (usage_at number.1) _ (any (usage_at number.1))
    (λ usage i. gives (λ p. Counted p.0) _ (card_at usage.1) _ (card_at_is usage.1)
    (λ card j. gives (LeafIs usage.0) _ (leaf_options usage.0 card.1) _ (leaf_options_is usage.0 card.1) (λ leaf k. (h, j, k)))))

comp_form_is : (words : List Word) → IfSome (comp_form words) Shaped
comp_form_is words =
    gives (λ p. Numbered 99 p.0) _ (number_at 99 words) _ (number_at_is 99 words)
    (λ number h. gives (λ _. Unit {0}) _ (usage_at number.1) _ (any (usage_at number.1))
    (λ usage i. gives (LeafIs usage.0) _ (leaf_options usage.0 usage.1) _ (leaf_options_is usage.0 usage.1) (λ leaf k. (h, k))))

sub_form_is : (words : List Word) → IfSome (sub_form words) Shaped
sub_form_is words =
    gives (λ p. Numbered 99 p.0) _ (number_at 99 words) _ (number_at_is 99 words)
    (λ number h. gives (λ _. Unit {0}) _ (usage_at number.1) _ (any (usage_at number.1))
    (λ usage i. gives (LeafIs usage.0) _ (options usage.0 false usage.1) _ (options_is usage.0 false usage.1) (λ leaf k. (h, k))))

group_form_is : (at : ℕ) (words : List Word) → IfSome (group_form at words) Shaped
group_form_is at words =
    gives (λ p. is_name p.0 ≡ true) _ (name_at words) _ (name_at_is words)
    (λ label h. gives (λ _. Unit {0}) _ (usage_at label.1) _ (any (usage_at label.1))
    (λ usage i. gives (λ p. Counted p.0) _ (card_at usage.1) _ (card_at_is usage.1)
    (λ card j. with_all_is Shaped card.1 (Group at label.0 usage.0 card.0) (h, j))))

count_form_is : (words : List Word) → IfSome (count_form words) Shaped
count_form_is words =
    gives (λ _. Unit {0}) _ (first_word words) _ (any (first_word words))
    (λ w h. either_gives Shaped (is_keyword (codes "characters") w.0) (with_all w.1 Counts) None (with_all_is Shaped w.1 Counts tt) tt)

keyword_form_is : (at : ℕ) (keyword : Word) (more : List Word) → IfSome (keyword_form at keyword more) Shaped
keyword_form_is at keyword more =
    either_gives _ (is_keyword (codes "profile") keyword) (profile_form more) _ (profile_form_is more)
    (either_gives _ (is_keyword (codes "table") keyword) (table_form more) _ (table_form_is more)
    (either_gives _ (is_keyword (codes "segment") keyword) (segment_form more) _ (segment_form_is more)
    (either_gives _ (is_keyword (codes "field") keyword) (field_form more) _ (field_form_is more)
    (either_gives _ (is_keyword (codes "comp") keyword) (comp_form more) _ (comp_form_is more)
    (either_gives _ (is_keyword (codes "sub") keyword) (sub_form more) _ (sub_form_is more)
    (either_gives _ (is_keyword (codes "group") keyword) (group_form at more) _ (group_form_is at more)
    (either_gives _ (is_keyword (codes "end") keyword) (with_all more End) _ (with_all_is Shaped more End tt)
    (either_gives _ (is_keyword (codes "count") keyword) (count_form more) None (count_form_is more) tt))))))))

pub form_is : (at : ℕ) (words : List Word) → IfSome (form at words) Shaped
form_is at [] = tt
form_is at (keyword ∷ more) = keyword_form_is at keyword more
