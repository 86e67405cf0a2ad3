-- What is accounted for, one after the other.
use Rattle.std.proofs.Common.{◌≡◌, ℕ, Bool, true, sym, ap, ◌∙◌}
use Rattle.std.specs.Prelude.{◌==◌, ◌&&◌, ◌||◌, bytes_eq}
use Rattle.std.specs.List.{list_any}
use Rattle.std.specs.Global.{Vec}
use Rattle.indexmap.specs.IndexSet.{insert_key}
use Rattle.std.proofs.lemmas.Cmp.{nat_list_eq_equiv, nat_eq_equiv}
use Rattle.gw_profile.proofs.Facts.{both}
use Rattle.gw_leaves.proofs.Inserted.{inserted}
use Rattle.std.proofs.Math.Bool.{and_comm, or-false}
use Rattle.gw_check.specs.declared.accounted.FieldAt.{FieldAt}
use Rattle.gw_check.specs.declared.accounted.Accounted.{Accounted}
use Rattle.gw_check.specs.Reads.{is_field, is_element}
use Rattle.gw_resolve.specs.Positions.{Position}
use Rattle.gw_check.specs.Collected.{has_field, has_element, Gains, no_field, no_element}

-- ---- a field, and an element

abbrev same : FieldAt → FieldAt → Bool
same a b = bytes_eq a.at.items b.at.items && a.field == b.field

turned : (at bt : Position) (n m : ℕ) → bytes_eq at bt && n == m ≡ (bytes_eq bt at && m == n)
turned at bt n m = ap (λ b. b && n == m) (nat_list_eq_equiv.symm at bt) ∙ ap (λ b. bytes_eq bt at && b) (nat_eq_equiv.symm n m)

alike_fields : (f x : FieldAt) (at : Position) (n : ℕ) → same f x ≡ true → bytes_eq at f.at.items && n == f.field ≡ (bytes_eq at x.at.items && n == x.field)
alike_fields f x at n e =
    let h = both (bytes_eq f.at.items x.at.items) (f.field == x.field) e in
    turned at f.at.items n f.field
    ∙ ap (λ b. b && f.field == n) (nat_list_eq_equiv.congr f.at.items x.at.items at h.0)
    ∙ ap (λ b. bytes_eq x.at.items at && b) (nat_eq_equiv.congr f.field x.field n h.1)
    ∙ turned x.at.items at x.field n

pub field_added : (old : Accounted) (f : FieldAt) (new : Accounted) → new.fields.keys ≡ insert_key same old.fields.keys f → new.elements ≡ old.elements → Gains old new (is_field f.at.items f.field) no_element
field_added old f new keys rest = record {
  fields = λ at n.
      ap (list_any (λ x. bytes_eq at x.at.items && n == x.field)) keys
      ∙ inserted same (λ x. bytes_eq at x.at.items && n == x.field) f (λ x e. alike_fields f x at n e) old.fields.keys
      ∙ ap (λ b. has_field old at n || b) (turned at f.at.items n f.field ∙ and_comm (bytes_eq f.at.items at) (f.field == n));
  elements = λ at. ap (λ s. list_any (λ v. bytes_eq at v.items) s.keys) rest ∙ sym (or-false (has_element old at));
}

pub element_added : (old : Accounted) (v : Vec ℕ) (new : Accounted) → new.elements.keys ≡ insert_key (λ a b. bytes_eq a.items b.items) old.elements.keys v → new.fields ≡ old.fields → Gains old new no_field (is_element v.items)
element_added old v new keys rest = record {
  fields = λ at n. ap (λ s. list_any (λ x. bytes_eq at x.at.items && n == x.field) s.keys) rest ∙ sym (or-false (has_field old at n));
  elements = λ at.
      ap (list_any (λ x. bytes_eq at x.items)) keys
      ∙ inserted (λ a b. bytes_eq a.items b.items) (λ x. bytes_eq at x.items) v
      (λ x e. nat_list_eq_equiv.symm at v.items ∙ nat_list_eq_equiv.congr v.items x.items at e ∙ nat_list_eq_equiv.symm x.items at) old.elements.keys
      ∙ ap (λ b. has_element old at || b) (nat_list_eq_equiv.symm at v.items);
}
