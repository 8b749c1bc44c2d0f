-- The powers of 256, and what shifts by whole bytes make of a number.
use Prim.Native.Nat.{ℕ, zero, suc, ◌+◌, ◌*◌, ◌/◌, ◌%◌, ◌^◌, ◌<◌}
use mathlib.Core.Path.{◌≡◌, refl, sym, ap, ◌∙◌}
use native.Mathlib.Nat.{add_comm, suc-mul, pow-suc}
use native.Mathlib.Omega.{arith}
use lib.Bits.{bit_and, bit_or, and_mask, or_shifted, or_shifted_r}
use lib.Pow.{pow-add}

pub unit-is : (k : ℕ) → 2 ^ (k * 8) ≡ 256 ^ k
unit-is zero = refl
unit-is (suc k) =
    ap (λ (x : ℕ). 2 ^ x) (suc-mul k 8) ∙ pow-add 2 (k * 8) 8 ∙ ap (λ (x : ℕ). x * 256) (unit-is k) ∙ sym (pow-suc 256 k)

pub unit-pos : (k : ℕ) → 0 < 256 ^ k
unit-pos zero = omega arith
unit-pos (suc k) = let e = unit-pos k in omega (arith, pow-suc 256 k)

-- a byte at a place
pub masked : (v k : ℕ) → bit_and (v / 2 ^ (k * 8)) 255 ≡ v / 256 ^ k % 256
masked v k = rw unit-is (and_mask (v / 256 ^ k) 8)

-- a byte up, with another below
pub up : (v b : ℕ) → b < 256 → bit_or (v * 256 % 256 ^ 8) b ≡ v % 256 ^ 7 * 256 + b
up v b h = let e : v * 256 % 256 ^ 8 ≡ v % 256 ^ 7 * 256 = omega arith in rw e (or_shifted (v % 256 ^ 7) 8 b h)

-- a byte down, with another above
pub down : (v w : ℕ) → v < 256 ^ 8 → bit_or (v / 256) (w * 256 ^ 7 % 256 ^ 8) ≡ v / 256 + w % 256 * 256 ^ 7
down v w h =
    let e : w * 256 ^ 7 % 256 ^ 8 ≡ w % 256 * 256 ^ 7 = omega arith in
    rw e (or_shifted_r (w % 256) 56 (v / 256) (omega arith) ∙ add_comm _ _)
