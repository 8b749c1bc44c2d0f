-- Flags put into a byte by `|`, from the lowest bit up: their sum, which is below 256.
use mathlib.Core.Path.{◌≡◌, refl, ◌∙◌}
use mathlib.Core.Bool.{Bool, true, false, ◌&&◌}
use mathlib.Core.List.{List, [], ◌∷◌}
use Prim.Native.Nat.{ℕ, suc, ◌+◌, ◌*◌, ◌%◌, ◌<◌, ◌≤◌, ◌^◌}
use native.Mathlib.Nat.{mod-eq_of_lt, one-mul, zero-mul, add-zero, mul-zero, mul-one, add_comm}
use native.Mathlib.Omega.{arith}
use borrow.Author.Tests.{ltb-true, leb-true}
use lib.Bits.{bit_or, or_zero_r, or_shifted_r}
use lib.Dec.{ltb, leb}
use lib.Pow.{pow-lt, pow_mono}
use Rattle.std.proofs.lemmas.Bool.{and_parts}
use Rattle.settings.specs.Status.{bit}

-- ---- one flag above the bits that are there

pub bit-lt : (b : Bool) → bit b < 2
bit-lt true = omega arith
bit-lt false = omega arith

pub join : (k low : ℕ) (b : Bool) → k < 8 → low < 2 ^ k → bit_or low (bit b * 2 ^ k % 2 ^ 8) ≡ low + 2 ^ k * bit b
join k low false h l = simp (zero-mul, mul-zero, add-zero, or_zero_r)
join k low true h l =
    simp (one-mul, mul-one)
    (rw (mod-eq_of_lt (pow-lt h)) (simp one-mul at (or_shifted_r 1 k low l) ∙ add_comm (2 ^ k) low))

pub join-lt : (k low : ℕ) (b : Bool) → low < 2 ^ k → low + 2 ^ k * bit b < 2 ^ suc k
join-lt k low false l = omega arith
join-lt k low true l = omega arith

-- ---- any number of flags, each with the number of its bit

abbrev pub Flags : Type 0
Flags = List (ℕ × Bool)

abbrev pub ored : ℕ → Flags → ℕ
ored low [] = low
ored low (f ∷ fs) = ored (bit_or low (bit f.1 * 2 ^ f.0 % 2 ^ 8)) fs

abbrev pub summed : ℕ → Flags → ℕ
summed low [] = low
summed low (f ∷ fs) = summed (low + 2 ^ f.0 * bit f.1) fs

-- The bits rise from bit `j` on, up to bit 7 at most.
abbrev pub rising : ℕ → Flags → Bool
rising j [] = true
rising j (f ∷ fs) = leb j f.0 && ltb f.0 8 && rising (suc f.0) fs

above : (j low : ℕ) (fs : Flags) → j ≤ 8 → rising j fs ≡ true → low < 2 ^ j
    → (ored low fs ≡ summed low fs) × (summed low fs < 256)
above j low [] h r l = (refl, omega (arith, pow_mono {i = j} {j = 8} h))
above j low (f ∷ fs) h r l =
    let k = f.0 in
    let rs = and_parts _ _ r in
    let here = and_parts _ _ rs.0 in
    let h' : k < 8 = ltb-true k 8 here.1 in
    let l' : low < 2 ^ k = omega (arith, pow_mono {i = j} {j = k} (leb-true j k here.0)) in
    rw (join k low f.1 h' l') (above (suc k) _ fs h' rs.1 (join-lt k low f.1 l'))

-- The byte `v` is the flag `b` at bit 0 and the flags `fs` above it, put there by `|`.
pub record IsByte (b : Bool) (fs : Flags) (v : ℕ) : Type 0 where
  pub is : ored (bit b) fs ≡ v
  pub small : v < 256

-- `rising` computes for given bits, so that `refl` shows it.
pub flags : (b : Bool) (fs : Flags) → rising 1 fs ≡ true → IsByte b fs (summed (bit b) fs)
flags b fs r = let a = above 1 (bit b) fs (omega arith) r (bit-lt b) in record { is = a.0; small = a.1 }
