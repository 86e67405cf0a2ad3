use Rattle.std.proofs.Common.{◌≡◌, ◌∙◌, sym, subst}
use mathlib.Core.List.{IsPrefix}
use Rattle.gw_ledger.specs.Finding.{InJournal}
use Rattle.gw_delivery.specs.Made.{IsMadeThere}
use Rattle.gw_delivery.proofs.Making.{again_in}
use Rattle.gw_delivery.proofs.finder.Finder.made_again.Goals as goal

pub returns : goal.returns
returns g c =
    let before = g.J.Naming.before in
    let bytes = c.in_ok-bytes.bytes.items in
    let now : c.in_ok-other.other.history ≡ c.again.result = sym (c.again.ensures ∙ c.front-3.ensures) in
    let begins : IsPrefix c.args.sight.now.history c.again.result =
    subst (λ h. IsPrefix c.args.sight.now.history h) (c.front-2.ensures ∙ now)
    (subst (λ h. IsPrefix h c.front-2.result.now) c.front.ensures c.if-not-begins.ensures.begins) in
    let there : InJournal (IsMadeThere c.args.name.now c.args.at bytes) before c.again.result =
    subst (λ h. InJournal (IsMadeThere c.args.name.now c.args.at bytes) before h) now
    (subst (λ k. InJournal (IsMadeThere c.args.name.now k bytes) before c.in_ok-other.other.history) c.in_ok-other.ensures c.in_ok-bytes.ensures) in
    again_in c.args.name.now c.args.sight.now.place c.args.at bytes before c.args.sight.now.history c.again.result c.requires begins there
