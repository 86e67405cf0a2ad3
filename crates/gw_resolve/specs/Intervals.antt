-- How often something may come: at least so often, and at most so often or without limit.
use Rattle.std.specs.Prelude.{ℕ, zero, suc, ◌+◌, ◌*◌, min, Bool, true, false, ◌==◌, nat_le, Option, Some, None}
use Rattle.gw_profile.specs.declared.shape.Card.{Card}

pub record Interval : Type 0 where
  pub least : ℕ
  pub greatest : Option ℕ

abbrev pub never : Interval
never = record { least = 0; greatest = Some 0 }

abbrev pub once : Interval
once = record { least = 1; greatest = Some 1 }

abbrev pub any_number : Interval
any_number = record { least = 0; greatest = None }

abbrev pub of_card : Card → Interval
of_card card = record { least = card.min; greatest = card.max }

-- ---- sums and products, end by end; 0 times anything is 0

abbrev pub add : Option ℕ → Option ℕ → Option ℕ
add (Some a) (Some b) = Some (a + b)
add a b = None

abbrev pub multiply : Option ℕ → Option ℕ → Option ℕ
multiply None None = None
multiply None (Some zero) = Some 0
multiply None (Some (suc b)) = None
multiply (Some zero) b = Some 0
multiply (Some (suc a)) None = None
multiply (Some (suc a)) (Some b) = Some (suc a * b)

abbrev pub sum : Interval → Interval → Interval
sum a b = record { least = a.least + b.least; greatest = add a.greatest b.greatest }

abbrev pub product : Interval → Interval → Interval
product a b = record { least = a.least * b.least; greatest = multiply a.greatest b.greatest }

-- ---- what is asked of intervals

-- at least one
abbrev pub is_sure : Interval → Bool
is_sure i = nat_le 1 i.least

-- none
abbrev pub is_never : Option ℕ → Bool
is_never None = false
is_never (Some most) = most == 0

-- no more than this
abbrev pub is_within : Option ℕ → Option ℕ → Bool
is_within most None = true
is_within None (Some limit) = false
is_within (Some most) (Some limit) = nat_le most limit

-- one at most
abbrev pub at_most_one : Interval → Interval
at_most_one i = record { least = min i.least 1; greatest = Some (one_of i.greatest) }
  where
    one_of : Option ℕ → ℕ
    one_of None = 1
    one_of (Some most) = min most 1
