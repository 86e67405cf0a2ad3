use Rattle.std.proofs.Common.{◌≡◌, ◌+◌, ◌-◌, ℕ, take, drop, ap, arith}
use Rattle.gw_er7.proofs.values.text_at.Goals as goal

pub returns : goal.returns
returns c =
    let l = c.args.span in
    let long : l.from + l.len - l.from ≡ l.len = omega arith in
    λ j. record { place = l.place; text = ap (λ (n : ℕ). take n (drop l.from c.args.bytes.now)) long j }
