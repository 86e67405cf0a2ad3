-- What is read behind the digits of a date.
use Rattle.std.proofs.Common.{◌≡◌, List, Option, Some, Result, IfOk, subst}
use Rattle.std.specs.Option.{option_map}
use Rattle.gw_lines.specs.Words.{Word}
use Rattle.gw_lines.specs.Parts.{◌>>=◌}
use Rattle.gw_maplang.specs.declared.rule.DateDigits.{DateDigits}
use Rattle.gw_maplang.specs.declared.rule.Leaf as leaves
use Rattle.gw_maplang.specs.Line.{date_from}
use Rattle.gw_maplang.specs.Seen.{leaf}

module _ {E : Type 0} (length : Option (DateDigits × List Word)) (r : Result (Option leaves.Leaf) E) where
  pub with_length : (digits : DateDigits) (more : List Word) → Some (digits, more) ≡ length → IfOk r (λ found. option_map leaf found ≡ date_from digits more) → IfOk r (λ found. option_map leaf found ≡ length >>= (λ d. date_from d.0 d.1))
  with_length digits more is h = subst (λ o. IfOk r (λ found. option_map leaf found ≡ o >>= (λ d. date_from d.0 d.1))) is h
