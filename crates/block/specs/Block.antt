-- Document 01, "Block".
use Rattle.std.specs.Prelude.{ℕ, ◌+◌, ◌*◌, ◌/◌, ◌%◌, List, [], ◌∷◌, ◌++◌, length}

-- "First byte: group in the high four bits, data count in the low four."
abbrev pub group_of : ℕ → ℕ
group_of first = first / 16

abbrev pub count_of : ℕ → ℕ
count_of first = first % 16

abbrev pub first_byte : ℕ → ℕ → ℕ
first_byte group count = group * 16 + count

-- "a checksum: the sum of all earlier bytes, remainder by 256"
unfoldable pub sum : List ℕ → ℕ
sum [] = 0
sum (b ∷ bytes) = b + sum bytes

abbrev pub checksum : List ℕ → ℕ
checksum bytes = sum bytes % 256

-- "Then the command byte, that many data bytes (0 to 15), and a checksum": what stands before the checksum, and the whole
abbrev pub body : ℕ → ℕ → List ℕ → List ℕ
body group command bytes = first_byte group (length bytes) ∷ command ∷ bytes

abbrev pub block_of : ℕ → ℕ → List ℕ → List ℕ
block_of group command bytes = body group command bytes ++ checksum (body group command bytes) ∷ []
