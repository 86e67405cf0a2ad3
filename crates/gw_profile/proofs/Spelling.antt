-- What a text that spells a profile makes of its lines.
use Rattle.std.proofs.Common.{◌≡◌, ℕ, ◌+◌, Bool, true, false, List, [], length, reverse, Option, Some, None, Ok, Err, refl, subst}
use Rattle.std.specs.Prelude.{if◌then◌else◌}
use Rattle.gw_lines.specs.Words.{lines}
use Rattle.gw_lines.proofs.Taken.{Accepts, spelled_accepts}
use Rattle.gw_profile.specs.declared.fault.ProfileFault.TheVariants.{Syntax, TooLarge}
use Rattle.gw_profile.specs.Shapes.{ProfileValue}
use Rattle.gw_profile.specs.Line.{Line}
use Rattle.gw_profile.specs.Fault.{takes}
use Rattle.gw_profile.specs.Value.{nodes, profile}
use Rattle.gw_profile.specs.LookAhead.{ambiguous}
use Rattle.gw_profile.specs.Deterministic.{Name}
use Rattle.gw_profile.specs.Whole.{empty_group, is_headed, is_unclosed, unambiguous, filled, ruled, whole, spelled, most_bytes, most_lines}

pub record Read (all : List Line) (p : ProfileValue) : Type 0 where
  pub closed : is_unclosed all ≡ false
  pub value : profile (reverse all) ≡ p

ruled_value : (lines : List Line) (p : ProfileValue) → ruled lines ≡ Ok p → profile lines ≡ p
ruled_value lines p e = by (empty_group lines) (is_headed lines) (ambiguous (nodes lines).here []) refl e
  where
    last : (a : Option Name) → unambiguous a (profile lines) ≡ Ok p → profile lines ≡ p
    last None e = cc
    last (Some name) e = absurd (cc)

    by : (o : Option ℕ) (b : Bool) (a : Option Name) → ambiguous (nodes lines).here [] ≡ a → filled o b (profile lines) ≡ Ok p → profile lines ≡ p
    by (Some at) b a h e = absurd (cc)
    by None false a h e = absurd (cc)
    by None true a h e = last a (subst (λ o. unambiguous o (profile lines) ≡ Ok p) h e)

whole_read : (all : List Line) (at : ℕ) (p : ProfileValue) → whole all at ≡ Ok p → Read all p
whole_read all at p e = by (is_unclosed all) refl e
  where
    by : (b : Bool) → is_unclosed all ≡ b → (if b then Err (Syntax at) else ruled (reverse all)) ≡ Ok p → Read all p
    by true f e = absurd (cc)
    by false f e = record { closed = f; value = ruled_value (reverse all) p e }

pub spelled_read : (text : List ℕ) (p : ProfileValue) → spelled text ≡ Ok p → (a : Accepts takes Syntax whole text p) × Read a.all p
spelled_read text p e = let a = spelled_accepts takes Syntax whole most_bytes most_lines TooLarge text p e in (a, whole_read a.all (1 + length (lines text)) p a.value)
