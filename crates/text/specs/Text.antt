-- Texts, in ASCII: numbers and lines.
use Rattle.std.specs.Prelude.{ℕ, zero, suc, ◌+◌, ◌/◌, ◌%◌, cond, List, [], ◌∷◌, ◌++◌, ltb}

-- ---- numbers

-- the decimal digits of n, which has at most so many; 48 is `0`
unfoldable pub digits_of : ℕ → ℕ → List ℕ
digits_of zero n = []
digits_of (suc most) n = cond (ltb n 10) ((48 + n) ∷ []) (digits_of most (n / 10) ++ ((48 + n % 10) ∷ []))

-- "numbers decimal"; 20 digits are enough for any number of 64 bits
abbrev pub decimal : ℕ → List ℕ
decimal n = digits_of 20 n

-- an upper-case hexadecimal digit; 65 is `A`
abbrev pub hex_digit : ℕ → ℕ
hex_digit n = cond (ltb n 10) (48 + n) (55 + n)

-- bytes in two hexadecimal digits, each behind a space
unfoldable pub hexes : List ℕ → List ℕ
hexes [] = []
hexes (b ∷ bytes) = 32 ∷ hex_digit (b / 16) ∷ hex_digit (b % 16) ∷ hexes bytes

-- ---- lines

-- some words, a number and the line's end
unfoldable pub line : List ℕ → ℕ → List ℕ
line words n = words ++ (decimal n ++ (10 ∷ []))

-- ` at 3`, after a number
unfoldable pub at_line : (words : List ℕ) (n place : ℕ) → List ℕ
at_line words n place = words ++ (decimal n ++ line (32 ∷ 97 ∷ 116 ∷ 32 ∷ []) place)

-- some words, bytes and the line's end
unfoldable pub hex_line : (words bytes : List ℕ) → List ℕ
hex_line words bytes = words ++ (hexes bytes ++ (10 ∷ []))
