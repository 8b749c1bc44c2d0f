-- The rule leaves no choice: a speed byte has one speed.
use mathlib.Core.Path.{◌≡◌, sym, ◌∙◌}
use Prim.Native.Nat.{ℕ, zero, suc, ◌+◌, ◌^◌, ◌≤◌, ◌<◌}
use native.Mathlib.Decide.{dec_le}
use native.Mathlib.Nat.{pow-le-pow_left}
use native.Mathlib.Omega.{arith}
use Rattle.speed.specs.Speed.{IsSpeed}

at_most : (k x v w : ℕ) → v ^ k ≤ x → x < (w + 1) ^ k → v ≤ w
at_most k x v w low high = by (dec_le (w + 1) v)
  where
    by : Dec (w + 1 ≤ v) → v ≤ w
    by (yes above) = absurd (omega (arith, pow-le-pow_left above k))
    by (no below) = omega arith

pub one-speed : (n v w : ℕ) → IsSpeed n v → IsSpeed n w → v ≡ w
unfolding IsSpeed
one-speed zero v w p q = p ∙ sym q
one-speed (suc n) v w p q =
    let x = 10 ^ (suc n + 32) in
    let up : v ≤ w = at_most 32 x v w p.0 q.1 in
    let down : w ≤ v = at_most 32 x w v q.0 p.1 in
    omega arith
