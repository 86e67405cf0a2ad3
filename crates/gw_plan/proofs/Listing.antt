-- The routes of a plan so far, with their keys.
use Rattle.std.proofs.Common.{◌≡◌, ℕ, List, [], ◌∷◌, ◌++◌, map, length, Option, None, Some, Bool, true, false, Result, OnOk, refl, sym, ap, ap₂, ◌∙◌, subst}
use Rattle.std.specs.Prelude.{not, bytes_eq, is_none, ◌&&◌, ◌||◌}
use Rattle.std.specs.List.{list_any}
use Rattle.std.specs.Option.{option_map, option_to_list}
use Rattle.std.proofs.lemmas.List.{append-nil, map-append, length-map}
use Rattle.gw_plan.specs.declared.index.Index.{Index}
use Rattle.gw_check.specs.Kept.{CheckedValue}
use Rattle.std.proofs.lemmas.Result.{on_ok_weaker}
use Rattle.gw_plan.specs.Held.{RouteHeld, route_value, longer}
use Rattle.gw_plan.specs.Senders.{Senders, says, again}
use Rattle.gw_plan.specs.Draft.{takes_rest, takes_word, is_taken}
use Rattle.gw_plan.specs.Index.{Key, Joins, Indexes, ends, has_word, is_again, with_key}
use Rattle.gw_plan.specs.Kept.{key_of}

-- whether routes take what is left of a code and event, or a word, by their keys
any_rest : (code event : List ℕ) (routes : List RouteHeld) → list_any (ends code event) (map key_of routes) ≡ list_any (takes_rest code event) (map route_value routes)
any_rest code event [] = refl
any_rest code event (r ∷ routes) = ap (λ b. ((bytes_eq code r.code && bytes_eq event r.event) && is_none r.senders) || b) (any_rest code event routes)

any_word : (code event : List ℕ) (s : Senders) (word : List ℕ) (routes : List RouteHeld) → list_any (has_word code event s word) (map key_of routes) ≡ list_any (takes_word code event s word) (map route_value routes)
any_word code event s word [] = refl
any_word code event s word (r ∷ routes) = ap (λ b. ((bytes_eq code r.code && bytes_eq event r.event) && says s.field word r.senders) || b) (any_word code event s word routes)

any_again : (code event : List ℕ) (s : Senders) (words : List (List ℕ)) (routes : List RouteHeld)
    → again (λ word. list_any (has_word code event s word) (map key_of routes)) words ≡ again (λ word. list_any (takes_word code event s word) (map route_value routes)) words
any_again code event s [] routes = refl
any_again code event s (w ∷ words) routes = ap₂ (λ a b. a || (list_any (bytes_eq w) words || b)) (any_word code event s w routes) (any_again code event s words routes)

pub any_key : (code event : List ℕ) (senders : Option Senders) (routes : List RouteHeld) → is_again code event senders (map key_of routes) ≡ is_taken code event senders (map route_value routes)
any_key code event None routes = any_rest code event routes
any_key code event (Some s) routes = ap₂ (λ a b. a || b) (any_rest code event routes) (any_again code event s s.words routes)

-- an index of all routes is one of the closed ones, where none is current
pub indexed_closed : (index : Index) (closed : List RouteHeld) (current : Option RouteHeld) → current ≡ None → Indexes index (map key_of (closed ++ option_to_list current)) → Indexes index (map key_of closed)
indexed_closed index closed current none x = subst (λ rs. Indexes index (map key_of rs)) (ap (λ o. closed ++ option_to_list o) none ∙ append-nil closed) x

-- one route more has one key more
pub keys_more : (routes : List RouteHeld) (r : RouteHeld) → map key_of (routes ++ r ∷ []) ≡ with_key (key_of r) (map key_of routes)
keys_more routes r = map-append key_of routes (r ∷ [])

-- ---- a leg more of the current route

module _ {A E : Type 0} (number : ℕ) (by : CheckedValue) (current : Option RouteHeld) (route new : RouteHeld) (result : Result A E) (is : current ≡ Some route) where
  pub one_longer : OnOk result (new ≡ longer number by route) → OnOk result (Some new ≡ option_map (longer number by) current)
  one_longer e = on_ok_weaker result (λ same. ap Some same ∙ sym (ap (option_map (longer number by)) is)) e

  pub still_listed : (index : Index) (closed : List RouteHeld) → Indexes index (map key_of (closed ++ option_to_list current)) → OnOk result (new ≡ longer number by route)
      → OnOk result (Indexes index (map key_of (closed ++ new ∷ [])))
  still_listed index closed listed e =
      let before = subst (λ o. Indexes index (map key_of (closed ++ option_to_list o))) is listed in
      let keys : map key_of (closed ++ route ∷ []) ≡ map key_of (closed ++ longer number by route ∷ []) = keys_more closed route ∙ sym (keys_more closed (longer number by route)) in
      on_ok_weaker result (λ same. subst (λ (r : RouteHeld). Indexes index (map key_of (closed ++ r ∷ []))) (sym same) (subst (Indexes index) keys before)) e

-- the same with a key that is claimed
pub claimed_closed : (index : Index) (closed : List RouteHeld) (current : Option RouteHeld) (key : Key) → current ≡ None → Indexes index (with_key key (map key_of (closed ++ option_to_list current))) → Indexes index (with_key key (map key_of closed))
claimed_closed index closed current key none x = subst (λ rs. Indexes index (with_key key (map key_of rs))) (ap (λ o. closed ++ option_to_list o) none ∙ append-nil closed) x

pub claimed_open : (index : Index) (closed : List RouteHeld) (current : Option RouteHeld) (key : Key) → current ≡ None → Indexes index (with_key key (map key_of closed)) → Indexes index (with_key key (map key_of (closed ++ option_to_list current)))
claimed_open index closed current key none x = subst (λ rs. Indexes index (with_key key (map key_of rs))) (sym (ap (λ o. closed ++ option_to_list o) none ∙ append-nil closed)) x

-- ---- what an index says of a route that is claimed

module _ (closed : List RouteHeld) (key : Key) (new : Index) (number : ℕ) (is : number ≡ length closed) (index : Index) where
  count : number ≡ length (map key_of closed)
  count = is ∙ sym (length-map closed key_of)

  module _ (added : Bool) (x : Indexes index (map key_of closed)) (joins : (keys : List Key) → Indexes index keys → number ≡ length keys → Joins keys key new added) where
    pub taken_told : not added ≡ is_taken key.code key.event key.senders (map route_value closed)
    taken_told = not_so added _ (joins (map key_of closed) x count).fresh ∙ any_key key.code key.event key.senders closed
      where
        not_so : (a b : Bool) → a ≡ not b → not a ≡ b
        not_so true true e = absurd (cc)
        not_so true false e = refl
        not_so false true e = refl
        not_so false false e = absurd (cc)

    pub claim_told : (current : Option RouteHeld) → current ≡ None → not added ≡ false → Indexes new (with_key key (map key_of (closed ++ option_to_list current)))
    claim_told current none e = claimed_open new closed current key none ((joins (map key_of closed) x count).more (was_so added e))
      where
        was_so : (a : Bool) → not a ≡ false → a ≡ true
        was_so true e = refl
        was_so false e = absurd (cc)
