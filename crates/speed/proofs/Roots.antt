-- What the code makes of its roots, by two tests that antt computes: each root fits a u32, and each byte but 0 gets its speed.
use mathlib.Core.Path.{◌≡◌, refl}
use mathlib.Core.Bool.{Bool, true}
use mathlib.Core.List.{List}
use Prim.Native.Nat.{ℕ, zero, suc, ◌+◌, ◌*◌, ◌/◌, ◌%◌, ◌^◌, ◌≤◌, ◌<◌}
use native.Mathlib.Nat.{le_of_lt, mul-le-mul, pow-le-pow_right}
use native.Mathlib.Omega.{arith}
use lib.Dec.{eqb, ltb}
use lib.IntN.{pos}
use lib.ListN.{get_or}
use mir.Syntax.{w32, w64}
use mir.Val.{Fits, SFits, to_z}
use mir.ValLaws.{to_z_pos}
use Rattle.std.proofs.lemmas.Bool.{agree_below, agree_below_at, eqb-true, ltb-true}
use Rattle.speed.specs.Speed.{speed_of}
use Rattle.speed.proofs.Rule.{small}

abbrev tens : ℕ → ℕ
tens n = 10 ^ (n / 32 + 1)

abbrev product : List ℕ → ℕ → ℕ → ℕ
product roots n ten = get_or roots (n % 32) 0 * ten

-- ---- it fits: a root is below 2^32, a power of ten at most 10^8

unfoldable pub narrow : List ℕ → ℕ → Bool
narrow roots k = ltb (get_or roots k 0) (2 ^ 32)

module _ (roots : List ℕ) (pass : agree_below (narrow roots) (λ _. true) 32 ≡ true) (n : ℕ) where
  root-small : get_or roots (n % 32) 0 < 2 ^ 32
  unfolding narrow
  root-small =
      ltb-true (get_or roots (n % 32) 0) (2 ^ 32) (agree_below_at (narrow roots) (λ _. true) 32 (n % 32) pass (omega arith))

  pub root-fits : Fits w64 (get_or roots (n % 32) 0)
  root-fits = record { fits = omega (arith, root-small) }

  module _ (ten : ℕ) (byte : n < 256) (is : ten ≡ tens n) where
    product_small : product roots n ten ≤ 2 ^ 32 * 10 ^ 8
    product_small =
        let power : n / 32 + 1 ≤ 8 = omega arith in
        rw is (mul-le-mul (le_of_lt root-small) (pow-le-pow_right (omega arith) power))

    pub product-fits : Fits w64 (product roots n ten)
    product-fits = record { fits = omega (arith, product_small) }

    pub quotient_fits : SFits w32 (pos (product roots n ten / 268435456))
    quotient_fits = record { sfits = omega (arith, product_small) }

-- ---- it is the speed

unfoldable pub right : List ℕ → ℕ → Bool
right roots n = eqb (product roots (suc n) (tens (suc n)) / 268435456) (speed_of (suc n))

module _ (roots : List ℕ) (pass : agree_below (right roots) (λ _. true) 255 ≡ true) where
  at : (n : ℕ) → (n ≡ 0 → ⊥) → n < 256 → product roots n (tens n) / 268435456 ≡ speed_of n
  unfolding right
  at zero some byte = absurd (some refl)
  at (suc n) some byte =
      eqb-true
      (product roots (suc n) (tens (suc n)) / 268435456)
      (speed_of (suc n))
      (agree_below_at (right roots) (λ _. true) 255 n pass (omega arith))

  -- as the code reads it from its bits
  pub quotient-bits : (n ten : ℕ) → (n ≡ 0 → ⊥) → n < 256 → ten ≡ tens n
      → to_z w32 (product roots n ten / 268435456) ≡ pos (speed_of n)
  quotient-bits n ten some byte is = rw (is, at n some byte) (to_z_pos w32 (speed_of n) (small n byte))
