-- What the reader's number says of a block, and what it reads then.
use Rattle.std.proofs.Common.{◌≡◌, ℕ, ◌+◌, ◌-◌, ◌≤◌, ltb, List, length, get_or, take, drop, arith, length-drop, length-take-le, le-ltb, eq-eqb, ne_eqb, eqb-true}
use native.Mathlib.Decide.{ℕ_discrete}
use borrow.Author.Tests.{not-false}
use Rattle.std.proofs.lemmas.Bool.{or_parts}
use Rattle.block.specs.Block.{group_of, count_of, checksum}
use Rattle.block.specs.Read.{length_wrong, sum_wrong, read_no, read_fields, read_data}
use Rattle.block.proofs.Tests.{passed}

-- a block of the right length and checksum
pub record Whole (block : List ℕ) : Type 0 where
  pub sized : length block ≡ count_of (get_or block 0 0) + 3
  pub summed : checksum (take (length block - 1) block) ≡ get_or block (length block - 1) 0

-- exactly those have the number 0
pub whole : (block : List ℕ) → read_no block ≡ 0 → Whole block
unfolding read_no
whole block e =
    let p = passed 6 7 (length_wrong block) (sum_wrong block) e in
    record {
      sized = eqb-true _ _ (not-false _ (or_parts (ltb (length block) 3) _ p.0).1);
      summed = eqb-true _ _ (not-false _ p.1);
    }

pub whole-reads : (block : List ℕ) → Whole block → read_no block ≡ 0
unfolding read_no
whole-reads block w = simp (le-ltb (length block) 3 (omega arith), eq-eqb _ _ w.sized, eq-eqb _ _ w.summed)

-- a block of the right length that does not read has the number 8 SUM
pub full-number : (block : List ℕ) → length block ≡ count_of (get_or block 0 0) + 3 → (read_no block ≡ 0 → ⊥) → read_no block ≡ 8
unfolding read_no
full-number block l n = by (ℕ_discrete (checksum (take (length block - 1) block)) (get_or block (length block - 1) 0))
  where
    by : Dec (checksum (take (length block - 1) block) ≡ get_or block (length block - 1) 0) → read_no block ≡ 8
    by (yes s) = absurd (n (whole-reads block (record { sized = l; summed = s })))
    by (no s) = simp (le-ltb (length block) 3 (omega arith), eq-eqb _ _ l, ne_eqb _ _ s)

-- the number stands in the fields, whatever it is
pub fields-number : (block : List ℕ) → (read_fields block).no ≡ read_no block
unfolding read_fields
fields-number block = by (ℕ_discrete (read_no block) 0)
  where
    by : Dec (read_no block ≡ 0) → (read_fields block).no ≡ read_no block
    by (yes e) = rw e
    by (no e) = rw (ne_eqb _ _ e)

module _ (block : List ℕ) (e : read_no block ≡ 0) where
  pub length-read : length block ≡ count_of (get_or block 0 0) + 3
  length-read = (whole block e).sized

  pub fields_read : read_fields block
      ≡ record { no = 0; group = group_of (get_or block 0 0); command = get_or block 1 0; count = count_of (get_or block 0 0) }
  unfolding read_fields
  fields_read = rw e

  pub data-read : read_data block ≡ take (length block - 3) (drop 2 block)
  unfolding read_data
  data-read = rw e

  pub length-data : length (read_data block) ≡ count_of (get_or block 0 0)
  length-data =
      let n : length block - 3 ≤ length (drop 2 block) = omega (arith, length-drop 2 block) in
      rw (data-read, length-take-le) (omega (arith, length-read))

pub ruleset reading = (length-read, fields_read, data-read)
