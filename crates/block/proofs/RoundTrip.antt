-- A written block reads back as its fields and data, and a block that reads is written back as the same bytes.
use Rattle.std.proofs.Common.{◌≡◌, ℕ, suc, ◌+◌, ◌-◌, ◌<◌, ◌≤◌, List, [], ◌∷◌, ◌++◌}
use Rattle.std.proofs.Common.{length, get_or, take, drop, sym, refl, ap, ◌∙◌, arith, take_all, take-suc, take_at}
use lib.Seq.{get_or_at}
use Rattle.block.specs.Block.{group_of, count_of, first_byte, checksum, body, block_of}
use Rattle.block.specs.Read.{read_no, read_fields, read_data}
use Rattle.block.specs.Write.{write_no, written, written_out}
use Rattle.block.proofs.Reading.{whole, whole-reads, length-read, fields_read, data-read, length-data}
use Rattle.block.proofs.Writing.{fits, fits-writes, answer-written, output-written, length-block}

-- `block` reads as these fields and this data
pub record ReadsAs (group command : ℕ) (bytes block : List ℕ) : Type 0 where
  pub taken : read_no block ≡ 0
  pub fields : read_fields block ≡ record { no = 0; group = group; command = command; count = length bytes }
  pub content : read_data block ≡ bytes

-- the last byte of a list with its checksum behind it
summed-up : (front : List ℕ) (n : ℕ) → length front ≡ n
    → checksum (take n (front ++ checksum front ∷ [])) ≡ get_or (front ++ checksum front ∷ []) n 0
summed-up front n e = rw (take_at front, get_or_at front)

-- a block of any fields, with data of at most 15 bytes
module _ (group command : ℕ) (bytes : List ℕ) (h : length bytes ≤ 15) where
  pub block-number : read_no (block_of group command bytes) ≡ 0
  block-number =
      let block = block_of group command bytes in
      let l = length-block group command bytes in
      whole-reads block (record {
        sized = omega (arith, l);
        summed = summed-up (body group command bytes) (length block - 1) (omega (arith, l));
      })

  pub block_reads : ReadsAs group command bytes (block_of group command bytes)
  block_reads =
      let block = block_of group command bytes in
      let n : length bytes ≡ length block - 3 = omega (arith, length-block group command bytes) in
      let g : group_of (first_byte group (length bytes)) ≡ group = omega arith in
      let c : count_of (first_byte group (length bytes)) ≡ length bytes = omega arith in
      record {
        taken = block-number;
        fields = rw (fields_read block block-number, g, c);
        content = rw (data-read block block-number) (take_at bytes _ _ n);
      }

-- written blocks read back
pub written-reads-back : (group command : ℕ) (bytes out : List ℕ) → write_no group bytes out ≡ 0
    → ReadsAs group command bytes (take (written group bytes out).len (written_out group command bytes out))
written-reads-back group command bytes out z =
    let front = take_at (block_of group command bytes) (drop (length bytes + 3) out) _ (length-block group command bytes) in
    rw (answer-written group bytes out (length bytes + 3) refl z, output-written group bytes out command z, front)
    (block_reads group command bytes (fits group bytes out z).few)

-- the front of a list, and its last element
heads : (xs : List ℕ) (n : ℕ) → 2 ≤ length xs → get_or xs 0 0 ∷ get_or xs 1 0 ∷ take n (drop 2 xs) ≡ take (n + 2) xs
heads [] n h = absurd (omega arith)
heads (x ∷ []) n h = absurd (omega arith)
heads (x ∷ y ∷ xs) n h = let e : n + 2 ≡ suc (suc n) = omega arith in rw e

ends : (xs : List ℕ) (n : ℕ) → length xs ≡ n + 1 → take n xs ++ get_or xs n 0 ∷ [] ≡ xs
ends xs n e = sym (take-suc xs n 0 (omega arith)) ∙ take_all (suc n) xs (omega arith)

-- writing the fields and data of `block` gives `block` at the front of `out`
pub record WrittenBack (block out : List ℕ) : Type 0 where
  pub answer : written (read_fields block).group (read_data block) out ≡ record { no = 0; len = length block }
  pub output : written_out (read_fields block).group (read_fields block).command (read_data block) out
      ≡ block ++ drop (length block) out

module _ (block : List ℕ) (e : read_no block ≡ 0) where
  first-again : first_byte (read_fields block).group (length (read_data block)) ≡ get_or block 0 0
  first-again = rw (fields_read block e, length-data block e) (omega arith)

  command-again : (read_fields block).command ≡ get_or block 1 0
  command-again = rw (fields_read block e)

  body-again : body (read_fields block).group (read_fields block).command (read_data block) ≡ take (length block - 1) block
  body-again =
      let w = whole block e in
      let n : length block - 3 + 2 ≡ length block - 1 = omega arith in
      rw (first-again, command-again, data-read block e, ← n) (heads block (length block - 3) (omega arith))

  -- a block that reads is the block of what it reads as
  pub block-again : block_of (read_fields block).group (read_fields block).command (read_data block) ≡ block
  block-again =
      let w = whole block e in
      ap (λ (front : List ℕ). front ++ checksum front ∷ []) body-again
      ∙ rw w.summed (ends block (length block - 1) (omega arith))

  -- and is written back as the same bytes
  pub read-writes-back : (out : List ℕ) → get_or block 0 0 < 256 → length block ≤ length out → WrittenBack block out
  read-writes-back out b h =
      let d = length-data block e in
      let n : length (read_data block) + 3 ≡ length block = omega (arith, d, length-read block e) in
      let g : (read_fields block).group ≤ 15 = rw (fields_read block e) (omega arith) in
      let z = fits-writes _ (read_data block) out (record { small = g; few = omega (arith, d); room = omega arith }) in
      record {
        answer = answer-written _ _ _ (length block) (sym n) z;
        output = output-written _ _ _ _ z ∙ rw n (ap (λ (front : List ℕ). front ++ drop (length block) out) block-again);
      }
