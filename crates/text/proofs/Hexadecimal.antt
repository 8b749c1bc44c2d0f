-- Bytes in hexadecimal.
use Prim.Native.Nat.{ℕ, min, ◌+◌, ◌*◌, ◌/◌, ◌%◌, ◌<◌}
use mathlib.Core.Path.{◌≡◌, refl, sym, ap, ◌∙◌}
use mathlib.Core.List.{List, [], ◌∷◌, ◌++◌, append_assoc}
use native.Mathlib.Omega.{arith}
use Rattle.std.proofs.Common.{inl, inr}
use Rattle.std.proofs.Math.Nat.{min-eq_left, min-eq_right}
use Rattle.std.proofs.lemmas.Bool.{cases_lt}
use Rattle.std.proofs.lemmas.List.{take_more}
use lib.ListN.{length, take, drop, get_or, take-append-drop}
use Rattle.text.specs.Text.{hex_digit, hexes}

-- three for each byte
pub hexes-long : (bytes : List ℕ) → length (hexes bytes) ≡ 3 * length bytes
unfolding hexes
hexes-long [] = refl
hexes-long (b ∷ bytes) = omega (arith, hexes-long bytes)

hexes-joined : (xs ys : List ℕ) → hexes (xs ++ ys) ≡ hexes xs ++ hexes ys
unfolding hexes
hexes-joined [] ys = refl
hexes-joined (x ∷ xs) ys = rw (hexes-joined xs ys)

hexes-one : (b : ℕ) → hexes (b ∷ []) ≡ 32 ∷ hex_digit (b / 16) ∷ hex_digit (b % 16) ∷ []
unfolding hexes
hexes-one b = refl

pub hexes-more : (bytes : List ℕ) (i : ℕ) → i < length bytes → hexes (take (i + 1) bytes)
    ≡ hexes (take i bytes) ++ (32 ∷ hex_digit (get_or bytes i 0 / 16) ∷ hex_digit (get_or bytes i 0 % 16) ∷ [])
hexes-more bytes i h = rw (take_more bytes i 0 h, hexes-joined, hexes-one)

-- round one of them
pub hexes-around : (bytes : List ℕ) (i : ℕ) → i < length bytes → hexes bytes
    ≡ hexes (take i bytes) ++ ((32 ∷ hex_digit (get_or bytes i 0 / 16) ∷ hex_digit (get_or bytes i 0 % 16) ∷ []) ++ hexes (drop (i + 1) bytes))
hexes-around bytes i h =
    ap hexes (sym (take-append-drop (i + 1) bytes)) ∙ hexes-joined (take (i + 1) bytes) (drop (i + 1) bytes)
    ∙ rw (hexes-more bytes i h) (append_assoc (hexes (take i bytes)) _ _)

-- a count that did not saturate
pub below-most : (n most : ℕ) → min n most < most → min n most ≡ n
below-most n most h =
    elim (cases_lt n most) [
      | inl small ↦ min-eq_left (omega arith)
      | inr large ↦ let e = min-eq_right large in absurd (omega (arith, e))
    ]
