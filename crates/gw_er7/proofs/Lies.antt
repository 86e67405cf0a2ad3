-- Values that lie among the bytes that were taken in.
use Rattle.std.proofs.Common.{◌≡◌, ℕ, ◌+◌, ◌-◌, ◌<◌, ◌≤◌, ◌⊎◌, inl, inr, List, [], ◌∷◌, ◌++◌, length, take, drop, sym, ap, subst, ◌∙◌, append_assoc, append-nil, arith}
use Rattle.std.specs.List.{position_or_len}
use Rattle.std.proofs.lemmas.Bool.{cases_lt}
use Rattle.std.proofs.lemmas.List.{map-append, length-append, length-take, length-drop, take-append-drop, take_all, drop_all}
use Rattle.std.proofs.Math.Seq.{drop-append_seam, take-append_seam}
use Rattle.gw_er7.specs.declared.delimiters.Delimiters.{Delimiters}
use Rattle.gw_er7.specs.declared.spans.TextSpan.{TextSpan}
use Rattle.gw_er7.specs.Text.{canon}
use Rattle.gw_er7.specs.View.{Held, held_at, held}
use Rattle.gw_er7.specs.own.Separators.{Lies}
use Rattle.gw_er7.proofs.Heads.{stops, canon-head}

-- it lies there still, where others are put behind
pub lies_grown : (bytes more : List ℕ) (at : ℕ) (part : List ℕ) → Lies bytes at part → Lies (bytes ++ more) at part
lies_grown bytes more at part l = record {
  before = l.before;
  after = l.after ++ more;
  is = ap (λ (x : List ℕ). x ++ more) l.is ∙ append_assoc l.before (part ++ l.after) more ∙ ap (λ (x : List ℕ). l.before ++ x) (append_assoc part l.after more);
  long = l.long;
}

-- nothing lies where it ends
lies_end : (bytes : List ℕ) (at : ℕ) (part : List ℕ) → Lies bytes at part → Lies bytes (at + length part) []
lies_end bytes at part l = record {
  before = l.before ++ part;
  after = l.after;
  is = l.is ∙ sym (append_assoc l.before part l.after);
  long = omega (arith, length-append l.before part, l.long);
}

-- what stands behind the first bytes
lies_after : (bytes : List ℕ) (at skip : ℕ) (part : List ℕ) → skip ≤ length part → Lies bytes at part → Lies bytes (at + skip) (drop skip part)
lies_after bytes at skip part le l = record {
  before = l.before ++ take skip part;
  after = l.after;
  is = l.is ∙ ap (λ (x : List ℕ). l.before ++ (x ++ l.after)) (sym (take-append-drop skip part)) ∙ ap (λ (x : List ℕ). l.before ++ x) (append_assoc (take skip part) (drop skip part) l.after)
      ∙ sym (append_assoc l.before (take skip part) (drop skip part ++ l.after));
  long = omega (arith, le, length-append l.before (take skip part), length-take skip part, l.long);
}

-- the same, also where there are too few
pub lies_skipped : (bytes : List ℕ) (at skip : ℕ) (part rest : List ℕ) → rest ≡ drop skip part → Lies bytes at part → Lies bytes (at + length part - length rest) rest
lies_skipped bytes at skip part rest e l = by (cases_lt (length part) skip)
  where
    by : (length part < skip) ⊎ (skip ≤ length part) → Lies bytes (at + length part - length rest) rest
    by (inr le) =
        let place : at + skip ≡ at + length part - length rest = omega (arith, le, ap length e, length-drop skip part) in
        subst (λ (n : ℕ). Lies bytes n rest) place (subst (λ (x : List ℕ). Lies bytes (at + skip) x) (sym e) (lies_after bytes at skip part le l))
    by (inl lt) =
        let none : rest ≡ [] = e ∙ drop_all skip part (omega (arith, lt)) in
        let place : at + length part ≡ at + length part - length rest = omega (arith, ap length none) in
        subst (λ (n : ℕ). Lies bytes n rest) place (subst (λ (x : List ℕ). Lies bytes (at + length part) x) (sym none) (lies_end bytes at part l))

pub lies_first : (bytes : List ℕ) (at : ℕ) (part value behind : List ℕ) → part ≡ value ++ behind → Lies bytes at part → Lies bytes at value
lies_first bytes at part value behind e l = record {
  before = l.before;
  after = behind ++ l.after;
  is = l.is ∙ ap (λ (x : List ℕ). l.before ++ (x ++ l.after)) e ∙ ap (λ (x : List ℕ). l.before ++ x) (append_assoc value behind l.after);
  long = l.long;
}

pub lies_behind : (bytes : List ℕ) (at : ℕ) (part value : List ℕ) (b : ℕ) (behind : List ℕ) → part ≡ value ++ b ∷ behind → Lies bytes at part → Lies bytes (at + (length value + 1)) behind
lies_behind bytes at part value b behind e l = record {
  before = l.before ++ (value ++ b ∷ []);
  after = l.after;
  is = l.is ∙ ap (λ (x : List ℕ). l.before ++ (x ++ l.after)) e ∙ ap (λ (x : List ℕ). l.before ++ x) (append_assoc value (b ∷ behind) l.after)
      ∙ sym (append_assoc l.before (value ++ b ∷ []) (behind ++ l.after) ∙ ap (λ (x : List ℕ). l.before ++ x) (append_assoc value (b ∷ []) (behind ++ l.after)));
  long = omega (arith, length-append l.before (value ++ b ∷ []), length-append value (b ∷ []), l.long);
}

lies_text : (bytes : List ℕ) (at : ℕ) (part : List ℕ) → Lies bytes at part → take (length part) (drop at bytes) ≡ part
lies_text bytes at part l =
    ap (λ (n : ℕ). take (length part) (drop n bytes)) (sym l.long) ∙ ap (λ (x : List ℕ). take (length part) (drop (length l.before) x)) l.is
    ∙ ap (take (length part)) (drop-append_seam l.before (part ++ l.after)) ∙ take-append_seam part l.after

-- a span of what lies there says it
pub held_lies : (bytes : List ℕ) (at : ℕ) (part : List ℕ) (ls ms : List TextSpan) (l : TextSpan) → Lies bytes at part → ms ≡ ls ++ l ∷ [] → l.from ≡ at → l.len ≡ length part → held bytes ms ≡ held bytes ls ++ record { place = l.place; text = part } ∷ []
held_lies bytes at part ls ms l lies e from len =
    let text : take l.len (drop l.from bytes) ≡ part = ap (λ (n : ℕ). take n (drop l.from bytes)) len ∙ ap (λ (n : ℕ). take (length part) (drop n bytes)) from ∙ lies_text bytes at part lies in
    let here : held_at bytes l ≡ record { place = l.place; text = part } = λ i. record { place = l.place; text = text i } in
    ap (held bytes) e ∙ map-append (held_at bytes) ls (l ∷ []) ∙ ap (λ (x : Held). held bytes ls ++ x ∷ []) here

-- where all bytes of a value stand for themselves, it is its own text
pub plain_self : (d : Delimiters) (k : ℕ) (raw : List ℕ) → k ≡ position_or_len (stops d) raw → length raw ≤ k → canon d raw ≡ raw
plain_self d k raw e le =
    let le : length raw ≤ position_or_len (stops d) raw = omega (arith, e, le) in
    canon-head d raw ∙ ap (λ (x : List ℕ). x ++ canon d (drop (position_or_len (stops d) raw) raw)) (take_all (position_or_len (stops d) raw) raw le)
    ∙ ap (λ (x : List ℕ). raw ++ canon d x) (drop_all (position_or_len (stops d) raw) raw le) ∙ append-nil raw
