-- A stream that is served under a plan, block by block.
use Rattle.std.proofs.Common.{◌≡◌, ◌<◌, ◌+◌, ℕ, List, Option, Err, length, [], ◌∷◌, ◌++◌, arith, rules}
use Rattle.std.proofs.Common.{subst, sym, ap, ◌∙◌, refl, length-append, append-nil}
use Rattle.std.proofs.lemmas.Grind.{flat_map-append}
use Rattle.std.proofs.lemmas.List.{length_push}
use Rattle.gw_mllp.specs.Stream.{Tail}
use Rattle.gw_plan.specs.Shapes.{PlanValue}
use Rattle.gw_stream.specs.declared.counts.Counts.{Counts}
use Rattle.gw_stream.specs.declared.fault.RunFault.{RunFault}
use Rattle.gw_stream.specs.declared.fault.RunFault.TheVariants.{Read, Turns}
use Rattle.gw_stream.specs.own.Prepared.{ServesNot, ServesOne, ServesSoFar, cut, nothing_sent}
use Rattle.gw_stream.specs.Counted.{nothing, with_one, IsTotal}
use Rattle.gw_stream.specs.Posts.{Known, Sends, SendsSome}
use Rattle.gw_stream.specs.Served.{AreServings, IsServing, Serving, ServesAll, ServesFirst, ServesUntil, all_posts, posts_of}
use Rattle.gw_stream.specs.Streams.{Ends}
use Rattle.gw_stream.specs.Streams as streams
use Rattle.gw_stream.specs.Walked.{EndsAt, Goes, Place, Stops, Walks}
use Rattle.gw_stream.proofs.Counting.{one_more, servings_next, total_one}
use Rattle.gw_stream.proofs.Posting.{sends_none, sends_join, some_behind}
use Rattle.gw_stream.proofs.Walking.{stop_ends, walk_few, walk_first}

-- ---- one serving more

each_next : (plan : PlanValue) (stamp : List ℕ) (n : ℕ) (cs : List (List ℕ)) (ss : List Serving) (content : List ℕ) (serving : Serving)
    → AreServings plan stamp n cs ss → IsServing plan stamp (n + length cs) content serving → AreServings plan stamp n (cs ++ content ∷ []) (ss ++ serving ∷ [])
each_next plan stamp n [] [] content serving p is = (subst (λ k. IsServing plan stamp k content serving) (omega arith) is, tt)
each_next plan stamp n [] (s ∷ ss) content serving p is = absurd p
each_next plan stamp n (c ∷ cs) [] content serving p is = absurd p
each_next plan stamp n (c ∷ cs) (s ∷ ss) content serving p is =
    let next : n + length (c ∷ cs) ≡ (n + 1) + length cs = omega arith in
    (p.0, each_next plan stamp (n + 1) cs ss content serving p.1 (subst (λ k. IsServing plan stamp k content serving) next is))

posts_next : (ss : List Serving) (s : Serving) → all_posts (ss ++ s ∷ []) ≡ all_posts ss ++ posts_of s
posts_next ss s = flat_map-append posts_of ss (s ∷ []) ∙ ap (λ l. all_posts ss ++ l) (append-nil (posts_of s))

-- ---- a run

pub not_of_reading : (plan : PlanValue) (stamp : List ℕ) (number : ℕ) (content : List ℕ) (k k' : Known) (fault : RunFault)
    → ServesNot plan stamp number content k k' fault → (fault ≡ Read → ⊥) × (fault ≡ Turns → ⊥)
not_of_reading plan stamp number content k _ _ nothing_sent = (λ is. search rules, λ is. search rules)
not_of_reading plan stamp number content k _ _ (cut k' serving is sent) = (λ is. search rules, λ is. search rules)

module _ (plan : PlanValue) (stamp : List ℕ) (left : Option (List ℕ)) (reads : ℕ) where
  pub serves_begins : (here : Place) (k : Known) (c : Counts) → Walks left reads here [] → c ≡ nothing → ServesSoFar plan stamp left reads here k k c
  serves_begins here k c walks is = record {
    given = [];
    walks = walks;
    servings = [];
    each = tt;
    sends = sends_none k;
    counted = is;
    number = ap (λ x. x.answered) is;
    total = subst IsTotal (sym is) refl;
  }

  -- what all get with one more
  with_next : (here : Place) (k0 k : Known) (c : Counts) (content : List ℕ) (p : ServesSoFar plan stamp left reads here k0 k c) (serving : Serving)
      → IsServing plan stamp (c.answered + 1) content serving → AreServings plan stamp 1 (p.given ++ content ∷ []) (p.servings ++ serving ∷ [])
  with_next here k0 k c content p serving is =
      let number = p.number in
      let so : c.answered + 1 ≡ 1 + length p.given = omega arith in
      each_next plan stamp 1 p.given p.servings content serving p.each (subst (λ n. IsServing plan stamp n content serving) so is)

  pub serves_goes : (here there : Place) (content : List ℕ) (k0 k k' : Known) (c c' : Counts) → ServesSoFar plan stamp left reads here k0 k c
      → Goes here there (content ∷ []) → ServesOne plan stamp content k k' c c' → ServesSoFar plan stamp left reads there k0 k' c'
  serves_goes here there content k0 k k' c c' p goes one =
      let code = one.serving.answer.code in
      record {
        given = p.given ++ content ∷ [];
        walks = goes left reads p.given p.walks;
        servings = p.servings ++ one.serving ∷ [];
        each = with_next here k0 k c content p one.serving one.is_serving;
        sends = subst (λ l. Sends l k0 k') (sym (posts_next p.servings one.serving))
            (sends_join (all_posts p.servings) (posts_of one.serving) k0 k k' p.sends one.sends);
        counted = one.counted ∙ ap (with_one code (length one.serving.deliveries)) p.counted ∙ sym (servings_next p.servings one.serving nothing);
        number = ap (λ x. x.answered) one.counted ∙ one_more code c ∙ ap (λ n. n + 1) p.number ∙ sym (length_push p.given content);
        total = subst IsTotal (sym one.counted) (total_one code c p.total);
      }

  pub serves_on : (here there : Place) (k0 k : Known) (c : Counts) → ServesSoFar plan stamp left reads here k0 k c → Goes here there []
      → ServesSoFar plan stamp left reads there k0 k c
  serves_on here there k0 k c p goes = record {
    given = p.given;
    walks = subst (Walks left reads there) (append-nil p.given) (goes left reads p.given p.walks);
    servings = p.servings;
    each = p.each;
    sends = p.sends;
    counted = p.counted;
    number = p.number;
    total = p.total;
  }

  -- ---- ends

  pub all_of : (here : Place) (k0 k : Known) (c : Counts) (tail : Tail) → ServesSoFar plan stamp left reads here k0 k c → EndsAt here tail
      → ServesAll plan stamp left k0 k tail c
  all_of here k0 k c tail p ends =
      record { contents = p.given; cut = ends left reads p.given p.walks; servings = p.servings; each = p.each; sends = p.sends; counted = p.counted }

  pub first_of : (here : Place) (k0 k : Known) (c : Counts) → ServesSoFar plan stamp left reads here k0 k c → ServesFirst plan stamp left k0 k
  first_of here k0 k c p = record {
    contents = p.given;
    first = walk_first left reads here p.given p.given [] p.walks (sym (append-nil p.given));
    servings = p.servings;
    each = p.each;
    sends = p.sends;
  }

  pub serves_stop : (here there : Place) (k0 k : Known) (c : Counts) (fault : RunFault) → ServesSoFar plan stamp left reads here k0 k c → Stops here there fault
      → Ends (ServesAll plan stamp left k0 k) (ServesUntil plan stamp left k0 k) (Err fault)
  serves_stop here there k0 k c fault p stops =
      let first = first_of here k0 k c p in
      stop_ends (ServesAll plan stamp left k0 k) (ServesUntil plan stamp left k0 k) here there c fault (λ tail ends. all_of here k0 k c tail p ends)
      first first first stops

  -- a content got nothing, or a part
  pub serves_cut : (here there : Place) (content : List ℕ) (k0 k k' : Known) (c : Counts) (fault : RunFault) → ServesSoFar plan stamp left reads here k0 k c
      → Goes here there (content ∷ []) → ServesNot plan stamp (c.answered + 1) content k k' fault
      → Ends (ServesAll plan stamp left k0 k') (ServesUntil plan stamp left k0 k') (Err fault)
  serves_cut here there content k0 k _ c _ p goes nothing_sent = streams.memory (first_of here k0 k c p)
  serves_cut here there content k0 k _ c _ p goes (cut k' serving is sent) =
      let given = p.given ++ content ∷ [] in
      streams.write
      (record {
        contents = given;
        first = walk_first left reads there given given [] (goes left reads p.given p.walks) (sym (append-nil given));
        servings = p.servings ++ serving ∷ [];
        each = with_next here k0 k c content p serving is;
        sends = subst (λ l. SendsSome l k0 k') (sym (posts_next p.servings serving))
            (some_behind (all_posts p.servings) (posts_of serving) k0 k k' p.sends sent);
      })

  -- no number passes what a machine can hold
  pub serves_room : (here there : Place) (content : List ℕ) (k0 k : Known) (c : Counts) → ServesSoFar plan stamp left reads here k0 k c
      → Goes here there (content ∷ []) → c.answered < 16384000000
  serves_room here there content k0 k c p goes =
      let few = walk_few left reads there (p.given ++ content ∷ []) (goes left reads p.given p.walks) in
      let both : length (p.given ++ content ∷ []) ≡ length p.given + 1 = length-append p.given (content ∷ []) in
      let counted = p.number in
      omega arith
