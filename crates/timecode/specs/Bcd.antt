-- Two-digit numbers as BCD bytes: tens in the high four bits, units in the low four.
use Rattle.std.specs.Prelude.{Bool, true, ◌&&◌, List, [], ◌∷◌, ◌≡◌, ℕ, ◌+◌, ◌*◌, ◌/◌, ◌%◌, ltb}

abbrev pub bcd : ℕ → ℕ
bcd n = n / 10 * 16 + n % 10

abbrev pub bcd_value : ℕ → ℕ
bcd_value byte = byte / 16 * 10 + byte % 16

-- both halves are decimal digits
abbrev pub is_bcd : ℕ → Bool
is_bcd byte = ltb (byte / 16) 10 && ltb (byte % 16) 10

-- a list of nothing but BCD bytes, of any length
abbrev pub AllBcd : List ℕ → Type 0
AllBcd [] = Unit
AllBcd (byte ∷ bytes) = (is_bcd byte ≡ true) × AllBcd bytes

-- a BCD byte of a number below the limit
abbrev pub bcd_below : ℕ → ℕ → Bool
bcd_below limit byte = is_bcd byte && ltb (bcd_value byte) limit
