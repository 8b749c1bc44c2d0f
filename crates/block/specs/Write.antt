-- Document 01, "Numbers that calls return": the writer, for any fields and any output.
use Rattle.std.specs.Prelude.{ℕ, ◌+◌, Bool, cond, ◌||◌, List, ◌++◌, length, drop, ◌==◌, nat_lt}
use Rattle.refusal.specs.Written.{Written}
use Rattle.block.specs.Block.{block_of}

-- 9 FIELD: "group over 15, over 15 data bytes"
abbrev pub field_wrong : ℕ → List ℕ → Bool
field_wrong group bytes = nat_lt 15 group || nat_lt 15 (length bytes)

-- 1 ROOM: "lent output too short: .. under count+3 for the writer"
abbrev pub room_short : List ℕ → List ℕ → Bool
room_short bytes out = nat_lt (length out) (length bytes + 3)

-- "writer: 9, 1"
unfoldable pub write_no : ℕ → List ℕ → List ℕ → ℕ
write_no group bytes out = cond (field_wrong group bytes) 9 (cond (room_short bytes out) 1 0)

-- the number and the block's length, 0 for a refusal
unfoldable pub written : ℕ → List ℕ → List ℕ → Written
written group bytes out =
    record { no = write_no group bytes out; len = cond (write_no group bytes out == 0) (length bytes + 3) 0 }

-- what the output holds afterwards: the block at its front, the rest untouched; refusals "change nothing"
unfoldable pub written_out : ℕ → ℕ → List ℕ → List ℕ → List ℕ
written_out group command bytes out =
    cond (write_no group bytes out == 0) (block_of group command bytes ++ drop (length bytes + 3) out) out
