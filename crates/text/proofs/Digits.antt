-- The digits of the definition are those that std prints.
use Prim.Native.Nat.{ℕ, zero, suc, ◌/◌, ◌^◌, ◌≤◌, ◌<◌}
use mathlib.Core.Path.{◌≡◌}
use native.Mathlib.Nat.{pow-suc}
use native.Mathlib.Omega.{arith}
use borrow.Author.Tests.{lt-ltb, le-ltb}
use lib.ListN.{length}
use Rattle.std.specs.Fmt.{decimal as printed}
use Rattle.std.proofs.Common.{inl, inr}
use Rattle.std.proofs.lemmas.Bool.{cases_lt}
use Rattle.std.proofs.lemmas.Fmt.{decimal_digit, decimal_step, length-decimal-le}
use Rattle.text.specs.Text.{digits_of, decimal}

spelled : (most n : ℕ) → n < 10 ^ suc most → n < 2 ^ 64 → printed n ≡ digits_of (suc most) n
unfolding digits_of
spelled zero n h k = let small : n < 10 = h in rw (lt-ltb n 10 small) (decimal_digit n small)
spelled (suc most) n h k =
    elim (cases_lt n 10) [
      | inl small ↦ rw (lt-ltb n 10 small) (decimal_digit n small)
      | inr large ↦
          let rest = spelled most (n / 10) (omega (arith, h, pow-suc 10 (suc most))) (omega arith) in
          rw (le-ltb n 10 large, ← rest) (decimal_step n large k)
    ]

pub spells : (n : ℕ) → n < 2 ^ 64 → printed n ≡ decimal n
spells n h = spelled 19 n (omega arith) h

-- a number below 10 ^ k has at most k digits
pub few : (k n : ℕ) → 0 < k → n < 10 ^ k → n < 2 ^ 64 → length (decimal n) ≤ k
few k n positive below h = rw (← spells n h) (length-decimal-le k n positive below h)
