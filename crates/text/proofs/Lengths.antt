-- How long the texts are.
use Prim.Native.Nat.{ℕ, zero, suc, ◌+◌, ◌*◌, ◌/◌, ◌≤◌}
use mathlib.Core.Path.{◌≡◌}
use mathlib.Core.List.{List}
use native.Mathlib.Omega.{arith}
use borrow.Author.Tests.{lt-ltb, le-ltb}
use Rattle.std.proofs.Common.{inl, inr}
use Rattle.std.proofs.lemmas.Bool.{cases_lt}
use lib.ListN.{length, length-append}
use Rattle.text.specs.Text.{digits_of, decimal, line, at_line, hex_line}
use Rattle.text.proofs.Hexadecimal.{hexes-long}

digits-few : (most n : ℕ) → length (digits_of most n) ≤ most
unfolding digits_of
digits-few zero n = omega arith
digits-few (suc most) n =
    elim (cases_lt n 10) [
      | inl small ↦ rw (lt-ltb n 10 small) (omega arith)
      | inr large ↦ rw (le-ltb n 10 large, length-append) (omega (arith, digits-few most (n / 10)))
    ]

pub decimal-few : (n : ℕ) → length (decimal n) ≤ 20
decimal-few n = digits-few 20 n

module _ (words : List ℕ) where
  pub line-long : (n : ℕ) → length (line words n) ≡ length words + length (decimal n) + 1
  unfolding line
  line-long n = simp length-append (omega arith)

  pub line-few : (n : ℕ) → length (line words n) ≤ length words + 21
  line-few n = omega (arith, line-long n, decimal-few n)

  pub at_long : (n place : ℕ) → length (at_line words n place) ≡ length words + length (decimal n) + length (decimal place) + 5
  unfolding at_line line
  at_long n place = simp length-append (omega arith)

  pub at-few : (n place : ℕ) → length (at_line words n place) ≤ length words + 45
  at-few n place = omega (arith, at_long n place, decimal-few n, decimal-few place)

  pub hex-line-long : (bytes : List ℕ) → length (hex_line words bytes) ≡ length words + 3 * length bytes + 1
  unfolding hex_line
  hex-line-long bytes = simp length-append (omega (arith, hexes-long bytes))
