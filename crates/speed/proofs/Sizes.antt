-- The sign and the size of a speed, as the code reads it from the bits of an i32: `of_z` puts a number there, `to_z` reads it.
use mathlib.Core.Path.{◌≡◌, refl}
use mathlib.Core.Bool.{true, false, true≢false}
use native.Mathlib.Omega.{arith}
use borrow.Author.Tests.{ltb-true}
use lib.IntN.{ℤ, pos, negsuc}
use lib.Signed.{lt_z, mag}
use mir.Syntax.{w32}
use mir.Val.{SFits, to_z, of_z}
use mir.ValLaws.{to_z-of_z}

abbrev pub stored : ℤ → ℤ
stored z = to_z w32 (of_z w32 z)

-- the code's test tells the sign; the least number's `mag` is 2^31 - 1, as the greatest's
pub backward : (z : ℤ) → SFits w32 z → lt_z (stored z) (pos 0) ≡ true → z ≡ negsuc (mag z)
backward (pos n) f h = absurd (omega (arith, ltb-true n 0 (rw (to_z-of_z w32 (pos n) f) at h)))
backward (negsuc n) f h = refl

pub forward : (z : ℤ) → SFits w32 z → lt_z (stored z) (pos 0) ≡ false → z ≡ pos (mag z)
forward (pos n) f h = refl
forward (negsuc n) f h = absurd (true≢false (rw (to_z-of_z w32 (negsuc n) f) at h))
