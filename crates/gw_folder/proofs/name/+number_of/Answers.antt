use Rattle.std.proofs.Common.{rules, ◌≡◌, ◌+◌, ◌≤◌, ◌++◌, [], ◌∷◌}
use Rattle.gw_folder.proofs.Overs.{number_so, some_so}
use Rattle.gw_folder.proofs.name.+number_of.Goals as goal

pub returns : goal.returns
returns t c =
    let is : c.args.bytes.now ≡ c.in-Some.front.now ++ c.in-Some.last.now ∷ [] = search rules in
    let shown : c.in-Some.last.now ≡ 48 + c.in_ok-digit.digit = search rules in
    let small : c.in_ok-digit.digit ≤ 9 = search rules in
    some_so _ _ _ (λ n whole. number_so _ _ _ _ _ n is c.in_ok-number_of.ensures shown small whole) c.joined.ensures
