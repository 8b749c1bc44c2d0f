-- A block in parts: its first byte, what stands between, and its last byte. When it reads, and what it reads as.
use Rattle.std.proofs.Common.{◌≡◌, ℕ, ◌+◌, ◌-◌, ◌%◌, List, [], ◌∷◌, ◌++◌, length, get_or, take, sym, ap, ◌∙◌, arith, length-append, take_at}
use lib.Seq.{get_or_at}
use Rattle.block.specs.Block.{checksum}
use Rattle.block.specs.Read.{read_no, read_data}
use Rattle.block.proofs.Reading.{whole, whole-reads, length-read, data-read}

-- `block_in b` is `in_parts b.first (latest b.count b.tail) b.last`
abbrev pub in_parts : ℕ → List ℕ → ℕ → List ℕ
in_parts first middle last = first ∷ middle ++ last ∷ []

module _ (first : ℕ) (middle : List ℕ) (last : ℕ) where
  length-parts : length (in_parts first middle last) ≡ length middle + 2
  length-parts = omega (arith, length-append middle (last ∷ []))

  -- all but the last byte, and the last
  before_last : take (length (in_parts first middle last) - 1) (in_parts first middle last) ≡ first ∷ middle
  before_last = take_at (first ∷ middle) (last ∷ []) (length (in_parts first middle last) - 1) (omega (arith, length-parts))

  last-part : get_or (in_parts first middle last) (length (in_parts first middle last) - 1) 0 ≡ last
  last-part = get_or_at (first ∷ middle) last [] 0 (length (in_parts first middle last) - 1) (omega (arith, length-parts))

  -- it reads where the length and the checksum are right
  pub parts-read : length middle ≡ first % 16 + 1 → checksum (first ∷ middle) ≡ last → read_no (in_parts first middle last) ≡ 0
  parts-read n s =
      whole-reads (in_parts first middle last)
      (record { sized = omega (arith, length-parts, n); summed = ap checksum before_last ∙ s ∙ sym last-part })

  -- and only there
  pub parts-length : read_no (in_parts first middle last) ≡ 0 → length middle ≡ first % 16 + 1
  parts-length e = omega (arith, length-parts, length-read (in_parts first middle last) e)

  pub parts-sum : read_no (in_parts first middle last) ≡ 0 → checksum (first ∷ middle) ≡ last
  parts-sum e = sym (ap checksum before_last) ∙ (whole (in_parts first middle last) e).summed ∙ last-part

-- what it reads as: the bytes behind the command byte
pub parts-data : (first command : ℕ) (bytes : List ℕ) (last : ℕ) → read_no (in_parts first (command ∷ bytes) last) ≡ 0
    → read_data (in_parts first (command ∷ bytes) last) ≡ bytes
parts-data first command bytes last e =
    let block = in_parts first (command ∷ bytes) last in
    data-read block e ∙ take_at bytes (last ∷ []) (length block - 3) (omega (arith, length-parts first (command ∷ bytes) last))
