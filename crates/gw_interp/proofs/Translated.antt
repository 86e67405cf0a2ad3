-- What a checked map makes of a tree's message.
use Rattle.std.proofs.Common.{◌≡◌, ◌<◌, List, [], ◌∷◌, ◌++◌, None, sym, ap, ◌∙◌, arith, length, subst}
use Rattle.std.proofs.lemmas.List.{length-map}
use Rattle.gw_er7.specs.Message.{SegmentValue, IsMessage}
use Rattle.gw_profile.specs.Shapes.{Forest, ProfileValue}
use Rattle.gw_profile.specs.Seen.{Contents, profile_value}
use Rattle.gw_validate.specs.Trees.{Tree}
use Rattle.gw_validate.specs.Fitting.{OccValue}
use Rattle.gw_validate.specs.Conforming.{Conforms}
use Rattle.gw_validate.specs.Broken.{IsTreeOf}
use Rattle.gw_maplang.specs.Lawful.{Lawful}
use Rattle.gw_maplang.specs.Seen.{map_value}
use Rattle.gw_resolve.specs.Resolved.{Items}
use Rattle.gw_check.specs.Kept.{CheckedValue, resolved_map, IsChecked}
use Rattle.gw_interp.specs.Occurrences.{Occurrence}
use Rattle.gw_interp.specs.own.Borrowed.{scope}
use Rattle.gw_interp.specs.own.Filling.{message_of}
use Rattle.gw_interp.specs.Meaning.{Give, Means}
use Rattle.gw_interp.specs.own.Ready.{MayGive, names_given, MayBegin, Adds}
use Rattle.gw_interp.proofs.Typed.{Allows}
use Rattle.gw_interp.proofs.Checked.{checked_allows}
use Rattle.gw_interp.proofs.Readiness.{ready}
use Rattle.gw_interp.proofs.Naming.{given_names, are_names, some_names}
use Rattle.gw_interp.proofs.Sound.{sound}

module _ (c : CheckedValue) (is : IsChecked c) (lawful : Lawful (map_value c.map)) (profile : Contents) (takes : profile_value profile ≡ profile_value c.source) (m : List SegmentValue) (t : Tree) (message : IsMessage m) (conforms : Conforms (profile_value profile) m) (tree : IsTreeOf (profile_value profile) m t) where
  abbrev source : ProfileValue
  source = profile_value c.source

  abbrev target : ProfileValue
  target = profile_value c.target

  allows : Allows source target (resolved_map c)
  allows = checked_allows c is lawful

  fits : Conforms source m
  fits = subst (λ p. Conforms p m) takes conforms

  tree_is : IsTreeOf source m t
  tree_is = subst (λ p. IsTreeOf p m t) takes tree

  -- the scope is the whole message, and these are the target's nodes and the map's items
  module _ (walked : List OccValue) (root_is : walked ≡ record { message = m; number = None; tree = t } ∷ []) (nodes : Forest) (nodes_are : nodes ≡ target.nodes) (items : Items) (items_are : items ≡ (resolved_map c).items) where
    as_seen : (F : List SegmentValue → List Occurrence → Forest → Items → Type 0) → F m (scope (record { message = m; number = None; tree = t } ∷ [])) target.nodes (resolved_map c).items → F (message_of walked) (scope walked) nodes items
    as_seen F h =
        subst (λ w. F (message_of w) (scope w) nodes items) (sym root_is)
        (subst (λ f. F m (scope (record { message = m; number = None; tree = t } ∷ [])) f items) (sym nodes_are)
        (subst (F m (scope (record { message = m; number = None; tree = t } ∷ [])) target.nodes) (sym items_are) h))

    as_meant : (F : List SegmentValue → List Occurrence → Forest → Items → Type 0) → F (message_of walked) (scope walked) nodes items → F m (scope (record { message = m; number = None; tree = t } ∷ [])) target.nodes (resolved_map c).items
    as_meant F h =
        subst (F m (scope (record { message = m; number = None; tree = t } ∷ [])) target.nodes) items_are
        (subst (λ f. F m (scope (record { message = m; number = None; tree = t } ∷ [])) f items) nodes_are
        (subst (λ w. F (message_of w) (scope w) nodes items) root_is h))

    pub may_begin : (old : List SegmentValue) → old ≡ [] → MayBegin old (names_given (message_of walked) (scope walked) nodes items)
    may_begin old none =
        subst (λ o. MayBegin o (names_given (message_of walked) (scope walked) nodes items)) (sym none)
        (as_seen (λ n os f i. MayBegin [] (names_given n os f i)) (are_names source target (resolved_map c) allows m t fits tree_is))

    pub may_give : MayGive (message_of walked) (scope walked) nodes items
    may_give = as_seen MayGive (ready source target (resolved_map c) allows m t message fits tree_is)

    meant : (old new : List SegmentValue) → old ≡ [] → Adds (Give (message_of walked) (scope walked) nodes items) old new → Means target (resolved_map c) m t new
    meant old new none a =
        let all : new ≡ a.list = a.joined ∙ ap (λ o. o ++ a.list) none in
        subst (Means target (resolved_map c) m t) (sym all) (as_meant (λ n os f i. Give n os f i a.list) a.holds)

    pub some_made : (old new : List SegmentValue) → old ≡ [] → Adds (Give (message_of walked) (scope walked) nodes items) old new → 0 < length new
    some_made old new none a =
        let some = some_names source target (resolved_map c) allows m t fits tree_is in
        let named = given_names m _ target.nodes (resolved_map c).items new (meant old new none a) in
        let long = length-map new (λ (s : SegmentValue). s.name) in
        omega (arith, subst (λ l. 0 < length l) (sym named) some, long)

    pub conforms_made : (old new : List SegmentValue) → old ≡ [] → Adds (Give (message_of walked) (scope walked) nodes items) old new → Conforms target new
    conforms_made old new none a = sound source target (resolved_map c) allows m t fits tree_is new (meant old new none a)
