-- The ones among data and parity are those of the nine bits that hold both; and the stop bit.
use mathlib.Core.Path.{◌≡◌, refl, ap, ◌∙◌}
use Prim.Native.Nat.{ℕ, zero, suc, ◌+◌, ◌*◌, ◌/◌, ◌%◌, ◌<◌, ◌^◌}
use native.Mathlib.Nat.{add_comm}
use native.Mathlib.Omega.{arith}
use lib.Bits.{bit_and, and_mask}
use lib.Count.{ones, ones_cat}
use Rattle.line.specs.Word.{data_bits, parity_bit, stop_bit}

ones-of-bit : (b : ℕ) → b < 2 → ones b ≡ b
unfolding ones
ones-of-bit zero h = refl
ones-of-bit (suc zero) h = refl
ones-of-bit (suc (suc b)) h = absurd (omega arith)

pub ones-data-parity : (word : ℕ) → ones (word / 2 % 512) ≡ ones (data_bits word) + parity_bit word
ones-data-parity word =
    let split : word / 2 % 512 ≡ parity_bit word * 2 ^ 8 + data_bits word = omega arith in
    ap ones split
    ∙ (ones_cat 8 (parity_bit word) (data_bits word) (omega arith)
    ∙ (ap (λ (n : ℕ). n + ones (data_bits word)) (ones-of-bit (parity_bit word) (omega arith))
    ∙ add_comm (parity_bit word) (ones (data_bits word))))

-- ---- as the code reads them, by masks

pub ones_masked : (word : ℕ) → ones (bit_and (word / 2) 0x1FF) ≡ ones (data_bits word) + parity_bit word
ones_masked word = rw (and_mask (word / 2) 9) (ones-data-parity word)

pub stop_masked : (word : ℕ) → bit_and (word / 1024) 1 ≡ stop_bit word
stop_masked word = and_mask (word / 1024) 1
