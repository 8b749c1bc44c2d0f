-- Document 01, "Numbers that calls return": the reader, for any bytes.
use Rattle.std.specs.Prelude.{ℕ, ◌+◌, ◌-◌, Bool, cond, not, ◌||◌, List, [], length, take, drop, ◌==◌, nat_lt, slice_index, Result, Ok, Err}
use Rattle.refusal.specs.declared.Refusal.{Refusal}
use Rattle.refusal.specs.Numbers.{number_of}
use Rattle.block.specs.Block.{group_of, count_of, checksum}
use Rattle.block.specs.declared.Header.{Header}

-- 7 LENGTH: "block under 3 bytes, or not count+3 long"
abbrev pub length_wrong : List ℕ → Bool
length_wrong block = nat_lt (length block) 3 || not (length block == count_of (slice_index block 0) + 3)

-- 8 SUM: "checksum wrong"; the last byte is the checksum, the others are the earlier ones
abbrev pub sum_wrong : List ℕ → Bool
sum_wrong block = not (checksum (take (length block - 1) block) == slice_index block (length block - 1))

-- "Tests run in the order .. reader: 7, 8"
unfoldable pub read_no : List ℕ → ℕ
read_no block = cond (length_wrong block) 7 (cond (sum_wrong block) 8 0)

-- the fields of a block, or the number of a refusal and zeros
pub record Fields : Type 0 where
  pub no : ℕ
  pub group : ℕ
  pub command : ℕ
  pub count : ℕ

-- an answer as number and fields: a refusal has none
abbrev pub fields_by : Result Header Refusal → Fields
fields_by (Ok h) = record { no = 0; group = h.group; command = h.command; count = h.count }
fields_by (Err e) = record { no = number_of e; group = 0; command = 0; count = 0 }

-- the fields; "All of these but 0 return no other content (zeros, and from the reader an empty part)"
unfoldable pub read_fields : List ℕ → Fields
read_fields block =
    cond (read_no block == 0)
    (record {
      no = 0;
      group = group_of (slice_index block 0);
      command = slice_index block 1;
      count = count_of (slice_index block 0);
    })
    (record { no = read_no block; group = 0; command = 0; count = 0 })

-- "The reader hands back the data as that part of the lent block": between the command byte and the checksum
unfoldable pub read_data : List ℕ → List ℕ
read_data block = cond (read_no block == 0) (take (length block - 3) (drop 2 block)) []
