-- Document 01, "Line word".
use Rattle.std.specs.Prelude.{Bool, cond, ◌||◌, ℕ, ◌+◌, ◌/◌, ◌%◌, eqb, ltb, Result, Ok, Err}
use Rattle.std.specs.Int.Count.{ones}
use Rattle.refusal.specs.declared.Refusal.{Refusal}
use Rattle.refusal.specs.Numbers.{number_of}
use Rattle.line.specs.declared.Received.{Received}

-- "An 11-bit word, bit 0 first on the line: start (0), eight data bits from the lowest, parity, stop (1)."
abbrev pub start_bit : ℕ → ℕ
start_bit word = word % 2

abbrev pub data_bits : ℕ → ℕ
data_bits word = word / 2 % 256

abbrev pub parity_bit : ℕ → ℕ
parity_bit word = word / 512 % 2

abbrev pub stop_bit : ℕ → ℕ
stop_bit word = word / 1024 % 2

-- "Parity is odd: the ones among data and parity together are odd in number."
abbrev pub parity_wrong : ℕ → Bool
parity_wrong word = eqb ((ones (data_bits word) + parity_bit word) % 2) 0

-- "Wrong parity gives flag 10, stop 0 gives flag 40 (all flags hexadecimal)"
abbrev pub line_flags : ℕ → ℕ
line_flags word = cond (parity_wrong word) 0x10 0 + cond (eqb (stop_bit word) 0) 0x40 0

-- 6 WORD: "word over 7FF, or start bit 1"
abbrev pub not_word : ℕ → Bool
not_word word = ltb 0x7FF word || eqb (start_bit word) 1

-- a word's byte and its flags, or the number of a refusal and zeros
pub record Heard : Type 0 where
  pub no : ℕ
  pub byte : ℕ
  pub flags : ℕ

-- an answer as number, byte and flags: a refusal has none
abbrev pub heard_by : Result Received Refusal → Heard
heard_by (Ok r) = record { no = 0; byte = r.byte; flags = r.flags }
heard_by (Err e) = record { no = number_of e; byte = 0; flags = 0 }

-- the answer to any number; a refusal has zeros beside its number
unfoldable pub received : ℕ → Heard
received word =
    cond (not_word word) (record { no = 6; byte = 0; flags = 0 })
    (record { no = 0; byte = data_bits word; flags = line_flags word })
