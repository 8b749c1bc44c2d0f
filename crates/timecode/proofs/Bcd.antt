-- BCD bytes and their values: each gives the other back.
use mathlib.Core.Bool.{true}
use mathlib.Core.Path.{◌≡◌}
use Prim.Native.Nat.{ℕ, ◌/◌, ◌%◌, ◌≤◌, ◌<◌}
use native.Mathlib.Omega.{arith}
use borrow.Author.Tests.{lt-ltb, ltb-true}
use Rattle.std.proofs.lemmas.Bool.{and_parts}
use Rattle.timecode.specs.Bcd.{bcd, bcd_value, is_bcd, bcd_below}

pub bcd-value : (n : ℕ) → bcd_value (bcd n) ≡ n
bcd-value n = omega arith

pub bcd-is : (n : ℕ) → n < 100 → is_bcd (bcd n) ≡ true
bcd-is n h = simp (lt-ltb (bcd n / 16) 10 (omega arith), lt-ltb (bcd n % 16) 10 (omega arith))

pub value-bcd : (byte : ℕ) → is_bcd byte ≡ true → byte ≡ bcd (bcd_value byte)
value-bcd byte e =
    let digits = and_parts _ _ e in
    let tens = ltb-true (byte / 16) 10 digits.0 in
    let units = ltb-true (byte % 16) 10 digits.1 in
    omega arith

-- the byte of a number below a limit, and the number of a byte that passes
pub below : (limit n : ℕ) → limit ≤ 100 → n < limit → bcd_below limit (bcd n) ≡ true
below limit n l h = rw (bcd-is n (omega arith), bcd-value n) (lt-ltb n limit h)

pub below-value : (limit byte : ℕ) → bcd_below limit byte ≡ true → bcd_value byte < limit
below-value limit byte e = ltb-true _ _ (and_parts (is_bcd byte) _ e).1

pub below-byte : (limit byte : ℕ) → bcd_below limit byte ≡ true → byte ≡ bcd (bcd_value byte)
below-byte limit byte e = value-bcd byte (and_parts (is_bcd byte) _ e).0

pub bcd-lt : (n : ℕ) → n < 100 → bcd n < 256
bcd-lt n h = omega arith
