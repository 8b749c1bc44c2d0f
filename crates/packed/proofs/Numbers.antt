-- Numbers and their bytes.
use Prim.Native.Nat.{ℕ, zero, suc, ◌+◌, ◌*◌, ◌/◌, ◌%◌, ◌^◌, ◌≤◌, ◌<◌}
use mathlib.Core.Path.{◌≡◌, refl, sym, ap, ◌∙◌}
use mathlib.Core.List.{List, [], ◌∷◌, ◌++◌}
use native.Mathlib.Nat.{pow-suc, pow-succ', mul_assoc, div-div-eq-div-mul}
use native.Mathlib.Omega.{arith}
use lib.Arith.{mod-mul}
use lib.Bits.{and_mask}
use lib.ListN.{length, take, drop, get_or}
use lib.Seq.{take-nil}
use Rattle.packed.specs.Numbers.{low_first, low_bytes}
use Rattle.packed.proofs.Bytes.{Bytes}
use Rattle.packed.proofs.Units.{unit-pos, masked}

pub length-low : (k n : ℕ) → length (low_bytes k n) ≡ k
unfolding low_bytes
length-low zero n = refl
length-low (suc k) n = ap suc (length-low k (n / 256))

pub low-are-bytes : (k n : ℕ) → Bytes (low_bytes k n)
unfolding low_bytes
low-are-bytes zero n = tt
low-are-bytes (suc k) n = (omega arith, low-are-bytes k (n / 256))

-- ---- there and back

pub low-back : (k n : ℕ) → n < 256 ^ k → low_first (low_bytes k n) ≡ n
unfolding low_bytes
low-back zero n h = omega arith
low-back (suc k) n h = let e = low-back k (n / 256) (omega (arith, pow-suc 256 k)) in omega arith

-- the lowest byte of a number, and the rest
lowest : (x v : ℕ) → x < 256 → (x + 256 * v) % 256 ≡ x
lowest x v h = omega arith

higher : (x v : ℕ) → x < 256 → (x + 256 * v) / 256 ≡ v
higher x v h = omega arith

pub bytes_back : (n : ℕ) (b : List ℕ) → Bytes b → n ≤ length b → low_bytes n (low_first (take n b)) ≡ take n b
unfolding low_bytes
bytes_back zero b h l = refl
bytes_back (suc n) [] h l = absurd (omega arith)
bytes_back (suc n) (x ∷ b) h l =
    let v = low_first (take n b) in
    rw (lowest x v h.0, higher x v h.0, bytes_back n b h.1 (omega arith))

-- ---- byte by byte

zero-at : (n i : ℕ) → get_or (low_bytes n 0) i 0 ≡ 0
unfolding low_bytes
zero-at zero i = refl
zero-at (suc n) zero = refl
zero-at (suc n) (suc i) = zero-at n i

-- what a list lacks is 0 in its number
pub byte-back : (n : ℕ) (l : List ℕ) (i : ℕ) → Bytes l → i < n → get_or (low_bytes n (low_first l)) i 0 ≡ get_or l i 0
unfolding low_bytes
byte-back n [] i h k = zero-at n i
byte-back zero (x ∷ l) i h k = absurd (omega arith)
byte-back (suc n) (x ∷ l) zero h k = lowest x (low_first l) h.0
byte-back (suc n) (x ∷ l) (suc i) h k = rw (higher x (low_first l) h.0) (byte-back n l i h.1 (omega arith))

pub low-at : (n v i : ℕ) → i < n → get_or (low_bytes n v) i 0 ≡ v / 256 ^ i % 256
unfolding low_bytes
low-at zero v i h = absurd (omega arith)
low-at (suc n) v zero h = omega arith
low-at (suc n) v (suc i) h = rw (low-at n (v / 256) i (omega arith), pow-succ' 256 i, div-div-eq-div-mul v 256 (256 ^ i))

-- ---- the lowest bytes

pub low-take : (m n v : ℕ) → m ≤ n → take m (low_bytes n v) ≡ low_bytes m v
unfolding low_bytes
low-take zero n v h = refl
low-take (suc m) zero v h = absurd (omega arith)
low-take (suc m) (suc n) v h = ap (λ (l : List ℕ). v % 256 ∷ l) (low-take m n (v / 256) (omega arith))

-- a byte behind them
pub low-with : (k v b : ℕ) → low_first (low_bytes k v ++ b ∷ []) ≡ v % 256 ^ k + b * 256 ^ k
unfolding low_bytes
low-with zero v b = omega arith
low-with (suc k) v b =
    let u = 256 ^ k in
    let m : v % (u * 256) ≡ (v / 256 % u) * 256 + v % 256 = mod-mul v (unit-pos k) (omega arith) in
    let a : b * (u * 256) ≡ b * u * 256 = sym (mul_assoc b u 256) in
    rw (low-with k (v / 256) b, pow-suc 256 k, m, a) (omega arith)

-- so many bytes of a number tell its remainder
pub low-cut : (k v : ℕ) → low_first (low_bytes k v) ≡ v % 256 ^ k
unfolding low_bytes
low-cut zero v = omega arith
low-cut (suc k) v =
    let u = 256 ^ k in
    let m : v % (u * 256) ≡ (v / 256 % u) * 256 + v % 256 = mod-mul v (unit-pos k) (omega arith) in
    rw (low-cut k (v / 256), pow-suc 256 k, m) (omega arith)

-- ---- part of a list

-- n bytes from the i-th on, one by one
abbrev pub window : (n i : ℕ) → List ℕ → List ℕ
window zero i b = []
window (suc n) i b = get_or b i 0 ∷ window n (suc i) b

low_step : (n i : ℕ) (b : List ℕ) → low_first (take (suc n) (drop i b)) ≡ get_or b i 0 + 256 * low_first (take n (drop (suc i) b))
low_step n zero [] = rw take-nil
low_step n (suc i) [] = rw take-nil
low_step n zero (x ∷ b) = refl
low_step n (suc i) (x ∷ b) = low_step n i b

pub low_part : (n i : ℕ) (b : List ℕ) → low_first (take n (drop i b)) ≡ low_first (window n i b)
low_part zero i b = refl
low_part (suc n) i b = low_step n i b ∙ ap (λ (v : ℕ). get_or b i 0 + 256 * v) (low_part n (suc i) b)

-- a byte that is masked out of a number
pub ruleset masks = (and_mask, masked, low-at)
