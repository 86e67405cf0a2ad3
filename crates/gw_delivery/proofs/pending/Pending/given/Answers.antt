use Rattle.std.proofs.Common.{◌≡◌, sym, ◌∙◌, subst, arith}
use Rattle.std.proofs.lemmas.Bool.{not-false}
use mathlib.Core.List.{IsPrefix}
use Rattle.std.proofs.lemmas.Bool.Decides.{Decides-eqb, nat_tests}
use Rattle.std.specs.Cmp.Lexicographic.{pointwise_decides}
use Rattle.gw_delivery.proofs.Delivering.{gives_by}
use Rattle.gw_delivery.proofs.pending.Pending.given.Goals as goal

pub returns-clause-given : goal.returns-clause-given
returns-clause-given g c =
    let test = c.if-receiver-self.false in
    let receiver = c.receiver.ensures in
    let same : c.in-Some-backlog.backlog.receiver ≡ c.args.self.now.receiver = grind (arith, nat_tests) in
    let name : c.name.result.now ≡ c.args.self.now.name.now = (pointwise_decides Decides-eqb c.name.result.now c.args.self.now.name.now).0 (not-false _ (sym c.ne.ensures ∙ c.if-ne.false)) in
    let later : IsPrefix c.in-Some.next.history c.in-Some-seen.now.history =
    subst (λ h. IsPrefix c.in-Some.next.history h) c.front-2.ensures (subst (λ h. IsPrefix h c.front-2.result.now) c.front.ensures.history c.if-not-begins.ensures.begins) in
    gives_by g.J.Naming.before c.args.self.now.receiver c.args.self.now.name.now c.args.self.now.backlog c.in-Some-backlog.backlog c.in-Some-seen.now c.in-Some.next
    c.args.self.now.next c.found.result.now.place c.in_ok-bytes.bytes.items c.in-Some-backlog.is c.in-Some.is same (sym c.name.ensures ∙ name)
    c.in-Some-seen.ensures.first c.found.ensures.place c.front.ensures.next later c.in_ok-bytes.ensures
