use Rattle.std.proofs.Common.{rules, ◌≡◌, ◌+◌, ◌-◌, ◌≤◌, ◌/◌, ◌%◌, ◌++◌, [], ◌∷◌, List, ℕ, sym, ap, ◌∙◌, append_assoc}
use Rattle.gw_folder.specs.Names.{digits}
use Rattle.gw_folder.proofs.Overs.{last_digit}
use Rattle.gw_folder.proofs.name.+put_digits.Goals as goal

pub returns : goal.returns
returns t c =
    let le : 1 ≤ c.args.width = search rules in
    let out : c.push.new.self.items ≡ (c.args.out.now.items ++ digits (c.args.width - 1) (c.args.number / 10)) ++ (48 + c.args.number % 10) ∷ [] = search rules in
    out ∙ append_assoc c.args.out.now.items _ _ ∙ ap (λ (l : List ℕ). c.args.out.now.items ++ l) (sym (last_digit c.args.width c.args.number le))
