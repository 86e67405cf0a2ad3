-- What is prepared of a content.
use Rattle.std.proofs.Common.{◌≡◌, ℕ, true, List, Option, Some, Ok, ◌≤◌, length, [], ◌∷◌, ◌++◌, map, take, ◌+◌, arith}
use Rattle.std.proofs.Common.{subst, sym, ap, ◌∙◌, refl, get_or}
use Rattle.std.proofs.lemmas.Bool.{eq-eqb}
use Rattle.std.proofs.lemmas.List.{length-map, take_all, take_more}
use Rattle.std.proofs.lemmas.List.Folds.{list_any_at}
use Rattle.std.proofs.lemmas.Option.{get_or_from_slice_get, slice_get_within}
use Rattle.std.specs.Arc.{arc_value}
use Rattle.std.specs.List.{AllZip}
use Rattle.std.specs.Map.{lookup}
use Rattle.std.specs.Prelude.{◌-◌, ◌^◌, min, nat_eq, slice_get}
use Rattle.gw_ack.specs.declared.receipt.Ack.{Ack}
use Rattle.gw_ack.specs.declared.receipt.Ack.TheVariants.{AA}
use Rattle.gw_ack.specs.declared.reply.Reply.{Reply}
use Rattle.gw_ack.specs.declared.reply.Reply.TheVariants.{Accept}
use Rattle.gw_check.specs.Kept.{CheckedValue}
use Rattle.gw_er7.specs.Message.{SegmentValue}
use Rattle.gw_er7.specs.Written.{written}
use Rattle.gw_mllp.specs.Stream.{block}
use Rattle.gw_plan.specs.Admitted.{ConformingHeld, IsAdmitted, IsOf}
use Rattle.gw_plan.specs.Held.{PlanHeld, RouteHeld, map_between, plan_value, route_value}
use Rattle.gw_plan.specs.Routing.{routed}
use Rattle.gw_plan.specs.Shapes.{PlanValue, RouteValue}
use Rattle.gw_plan.proofs.Alike.{numbers_are}
use Rattle.gw_plan.proofs.Routes.{leg_keys}
use Rattle.gw_plan.specs.Translating.{Translates}
use Rattle.gw_validate.specs.Broken.{IsTreeOf}
use Rattle.gw_stream.specs.declared.counts.Counts.{Counts}
use Rattle.gw_stream.specs.declared.fault.RunFault.TheVariants.{Write}
use Rattle.gw_stream.specs.declared.delivery.Delivery as program
use Rattle.gw_stream.specs.declared.under_plan.UnderPlan.{UnderPlan}
use Rattle.gw_stream.specs.Answers.{Answer, IsSettled, Message}
use Rattle.gw_stream.specs.Counted.{with_answer, with_one}
use Rattle.gw_stream.specs.own.Prepared.{ArePrepared, IsPrepared, Prepares, PlanSettles, ServesNot, ServesOne, cut, post, posts}
use Rattle.gw_stream.specs.Posts.{Known, Sends, SendsSome, Whom, receiver, sender}
use Rattle.gw_stream.specs.Served as served
use Rattle.gw_stream.specs.Served.{AreDeliveries, Delivery, IsDelivery, IsServing, Serving, delivered, posts_of, receivers_of, refused, rejected}

-- ---- what a receiver is sent

pub is_prepared : (c : ConformingHeld) (number : ℕ) (message : List SegmentValue) (route : RouteValue) (prepared : program.Delivery)
    → Translates c number message → routed (plan_value c.plan) c.tree.message ≡ Ok route
    → prepared.receiver ≡ number → prepared.block.items ≡ block (written message) → IsPrepared c.tree.message route number prepared
is_prepared c number message route prepared t is to content =
    let same : t.route ≡ route = cc (t.routed_so, is) in
    record {
      delivery = record { receiver = number; message = message };
      is_delivery = record {
        to = refl;
        by = t.by;
        leg = subst (λ (r : RouteValue). lookup (nat_eq number) r.legs ≡ Some t.by) same t.leg;
        tree = t.tree;
        is_tree = subst (λ (r : RouteValue). IsTreeOf r.profile c.tree.message t.tree) same t.is_tree;
        means = t.means;
        conforms = t.conforms;
      };
      is_post = ap (λ n. record { whom = receiver n; bytes = prepared.block.items }) to ∙ ap (λ l. record { whom = receiver number; bytes = l }) content;
    }

-- ---- what the receivers of a route are sent

pub is_of : (c : ConformingHeld) (route : RouteHeld) (i number : ℕ) → routed (plan_value c.plan) c.tree.message ≡ Ok (route_value route)
    → slice_get (map (λ l. l.0) route.legs) i ≡ Some number
    → IsOf c number
is_of c route i number is at =
    let numbers = map (λ (l : ℕ × CheckedValue). l.0) route.legs in
    let here : nat_eq number (get_or numbers i 0) ≡ true = eq-eqb number (get_or numbers i 0) (sym (get_or_from_slice_get numbers i number 0 at)) in
    record {
      route = route_value route;
      routed_so = is;
      goes = sym (leg_keys map_between number route.legs) ∙ list_any_at (nat_eq number) numbers i 0 (slice_get_within numbers i number at) here;
    }

zip_push : {A B : Type 0} (R : A → B → Type 0) (xs : List A) (ys : List B) (x : A) (y : B) → AllZip R xs ys → R x y → AllZip R (xs ++ x ∷ []) (ys ++ y ∷ [])
zip_push R [] [] x y each one = (one, tt)
zip_push R [] (b ∷ ys) x y each one = absurd each
zip_push R (a ∷ xs) [] x y each one = absurd each
zip_push R (a ∷ xs) (b ∷ ys) x y each one = (each.0, zip_push R xs ys x y each.1 one)

-- one delivery more, for the receiver at this place
pub prepared_next : (m : List SegmentValue) (route : RouteHeld) (i number : ℕ) (ps : List program.Delivery) (p : program.Delivery)
    → AllZip (IsPrepared m (route_value route)) (take i (receivers_of (route_value route))) ps
    → slice_get (map (λ l. l.0) route.legs) i ≡ Some number → IsPrepared m (route_value route) number p
    → AllZip (IsPrepared m (route_value route)) (take (i + 1) (receivers_of (route_value route))) (ps ++ p ∷ [])
prepared_next m route i number ps p each at one =
    let numbers = receivers_of (route_value route) in
    let there : slice_get numbers i ≡ Some number = ap (λ l. slice_get l i) (numbers_are map_between route.legs) ∙ at in
    let taken : take (i + 1) numbers ≡ take i numbers ++ number ∷ [] =
    take_more numbers i 0 (slice_get_within numbers i number there) ∙ ap (λ n. take i numbers ++ n ∷ []) (get_or_from_slice_get numbers i number 0 there) in
    subst (λ l. AllZip (IsPrepared m (route_value route)) l (ps ++ p ∷ [])) (sym taken)
    (zip_push (IsPrepared m (route_value route)) (take i numbers) ps number p each one)

-- the number of the receiver whom a post is for
abbrev number_of : Whom → ℕ
number_of sender = 0
number_of (receiver n) = n

pub prepared_for : (m : List SegmentValue) (route : RouteValue) (number : ℕ) (p : program.Delivery) → IsPrepared m route number p → p.receiver ≡ number
prepared_for m route number p is = ap (λ x. number_of x.whom) is.is_post ∙ is.is_delivery.to

-- all of them
pub are_prepared : (c : ConformingHeld) (route : RouteHeld) (i : ℕ) (ps : List program.Delivery)
    → routed (plan_value c.plan) c.tree.message ≡ Ok (route_value route) → length route.legs ≤ i
    → AllZip (IsPrepared c.tree.message (route_value route)) (take i (receivers_of (route_value route))) ps → ArePrepared (plan_value c.plan) c.tree.message ps
are_prepared c route i ps is all each =
    let numbers = receivers_of (route_value route) in
    let long : length numbers ≡ length route.legs = ap length (numbers_are map_between route.legs) ∙ length-map route.legs (λ l. l.0) in
    let whole : take i numbers ≡ numbers = take_all i numbers (omega arith) in
    record { route = route_value route; routed_so = is; each = subst (λ l. AllZip (IsPrepared c.tree.message (route_value route)) l ps) whole each }

-- ---- what a content gets

-- what they hold
opened : (m : List SegmentValue) (route : RouteValue) (numbers : List ℕ) (ps : List program.Delivery) → AllZip (IsPrepared m route) numbers ps
    → (ds : List Delivery) × AllZip (IsDelivery m route) numbers ds × (map post ps ≡ map delivered ds)
opened m route [] [] each = ([], tt, refl)
opened m route [] (p ∷ ps) each = absurd each
opened m route (n ∷ ns) [] each = absurd each
opened m route (n ∷ ns) (p ∷ ps) each =
    let others = opened m route ns ps each.1 in (
      each.0.delivery ∷ others.0,
      (each.0.is_delivery, others.1),
      ap (λ x. x ∷ map post ps) each.0.is_post ∙ ap (λ l. delivered each.0.delivery ∷ l) others.2,
    )

pub prepares_all : (plan : PlanHeld) (m : Message) (c : ConformingHeld) (ps : List program.Delivery) → IsAdmitted plan 0 m c
    → ArePrepared (plan_value c.plan) c.tree.message ps → Prepares (plan_value plan) (Some m) Accept ps
prepares_all plan m c ps admitted prepared =
    let by_plan : ArePrepared (plan_value plan) c.tree.message ps =
    subst (λ (p : PlanHeld). ArePrepared (plan_value p) c.tree.message ps) admitted.by_plan prepared in
    let by_message : ArePrepared (plan_value plan) m ps = subst (λ (l : Message). ArePrepared (plan_value plan) l ps) admitted.message by_plan in
    let all = opened m by_message.route (receivers_of by_message.route) ps by_message.each in
    record {
      deliveries = all.0;
      are_deliveries = served.accepted m by_message.route by_message.routed_so all.0 all.1;
      are_posts = all.2;
    }

pub prepares_none : (plan : PlanValue) (what : Option Message) (reply : Reply) (ps : List program.Delivery) → AreDeliveries plan what reply [] → ps ≡ []
    → Prepares plan what reply ps
prepares_none plan what reply ps none is = record { deliveries = []; are_deliveries = none; are_posts = ap (map post) is }

-- for what receivers are sent, whatever is said
pub ruleset prepares = (refused, rejected, prepares_all, prepares_none)

-- ---- a content that was judged under a plan

module _ (old new : UnderPlan) (number : ℕ) (content : List ℕ) (a : Answer) (is : IsSettled (PlanSettles old new number) content a) where
  -- what it gets
  abbrev serving : Serving
  serving = record { answer = a; deliveries = is.settles.prepares.deliveries }

  is_serving : IsServing (plan_value (arc_value old.plan)) old.stamp number content serving
  is_serving = record {
    what = is.what;
    is_read = is.is_read;
    outcome = is.outcome;
    settles = record { says = is.settles.says; sends = is.settles.prepares.are_deliveries };
    code = is.code;
    spelled = is.spelled;
  }

  many : length new.deliveries.items ≡ length is.settles.prepares.deliveries
  many = sym (length-map new.deliveries.items post) ∙ ap length is.settles.prepares.are_posts ∙ length-map is.settles.prepares.deliveries delivered

  are_posts : posts new.deliveries.items (block a.content) ≡ posts_of serving
  are_posts = ap (λ l. l ++ record { whom = sender; bytes = block a.content } ∷ []) is.settles.prepares.are_posts

  pub serves_one : (k k' : Known) (c c' : Counts) → number ≡ c.answered + 1 → Sends (posts new.deliveries.items (block a.content)) k k'
      → c' ≡ with_one a.code (length new.deliveries.items) c → ServesOne (plan_value (arc_value old.plan)) old.stamp content k k' c c'
  serves_one k k' c c' same sent counted = record {
    serving = serving;
    is_serving = subst (λ n. IsServing (plan_value (arc_value old.plan)) old.stamp n content serving) same is_serving;
    sends = subst (λ l. Sends l k k') are_posts sent;
    counted = counted ∙ ap (λ n. with_one a.code n c) many;
  }

  pub serves_cut : (k k' : Known) → SendsSome (posts new.deliveries.items (block a.content)) k k'
      → ServesNot (plan_value (arc_value old.plan)) old.stamp number content k k' Write
  serves_cut k k' sent = cut k' serving is_serving (subst (λ l. SendsSome l k k') are_posts sent)

pub counted_one : (code : Ack) (blocks : ℕ) (c with_it with_sent : Counts) → with_it ≡ with_answer code c
    → with_sent ≡ record with_it { sent = min (with_it.sent + blocks) (2 ^ 64 - 1) } → with_sent ≡ with_one code blocks c
counted_one AA blocks c with_it with_sent first then = then ∙ ap (λ (x : Counts). record x { sent = min (x.sent + blocks) (2 ^ 64 - 1) }) first
counted_one code blocks c with_it with_sent first then = then ∙ ap (λ (x : Counts). record x { sent = min (x.sent + blocks) (2 ^ 64 - 1) }) first
