-- Document 01, "Line record and turns": entries as bytes, and the calls that read and write them.
use Rattle.std.specs.Prelude.{ℕ, zero, suc, ◌/◌, ◌%◌, ◌<◌, ◌^◌, Bool, cond, Result, Ok, Err, ◌&&◌, List, [], ◌∷◌, ◌++◌, eqb, leb, ltb, length, take, drop, get_or}
use Rattle.packed.specs.Numbers.{low_first, low_bytes}
use Rattle.refusal.specs.declared.Refusal.{Refusal}
use Rattle.refusal.specs.Numbers.{number_of}
use Rattle.refusal.specs.Written.{Written}
use Rattle.record.specs.declared.Entry.{Entry}
use Rattle.record.specs.Entries.{entry}

-- ---- "Entries are 12 bytes, no header: kind .., flags .., content in four bytes, time in six"

-- the entry of the first 12 bytes; missing ones count as 0
unfoldable pub entry_of : List ℕ → Entry
entry_of b = entry (get_or b 0 0) (get_or b 1 0) (low_first (take 4 (drop 2 b))) (low_first (take 6 (drop 6 b)))

unfoldable pub bytes_of : Entry → List ℕ
bytes_of e = e.kind ∷ e.flags ∷ low_bytes 4 e.content ++ low_bytes 6 e.time

-- an entry whose fields fit their bytes; of a larger one, content or time would be cut off
pub record InBytes (e : Entry) : Type 0 where
  pub kind : e.kind < 256
  pub flags : e.flags < 256
  pub content : e.content < 2 ^ 32
  pub time : e.time < 2 ^ 48

-- the first n entries
unfoldable pub first_entries : ℕ → List ℕ → List Entry
first_entries zero b = []
first_entries (suc n) b = entry_of b ∷ first_entries n (drop 12 b)

-- the entries of a record
unfoldable pub entries_of : List ℕ → List Entry
entries_of b = first_entries (length b / 12) b

-- the bytes of a record: those of its entries, one after the other
unfoldable pub record_of : List Entry → List ℕ
record_of [] = []
record_of (e ∷ es) = bytes_of e ++ record_of es

-- 10 RECORD, where this fails: "record not a multiple of 12 bytes, or over 65,532"
unfoldable pub is_record : ℕ → Bool
is_record size = eqb (size % 12) 0 && leb size 65532

-- what is read where a record has no entry
abbrev pub no_entry : Entry
no_entry = entry 0 0 0 0

-- ---- the reader

-- the entry that was read, or the number that says that there is none
pub record Fetched : Type 0 where
  pub no : ℕ
  pub entry : Entry

-- an answer, as number and entry: zeros where there is none
abbrev pub fetched_by : Result Entry Refusal → Fetched
fetched_by (Ok e) = record { no = 0; entry = e }
fetched_by (Err r) = record { no = number_of r; entry = no_entry }

-- the entry with number i; 10 RECORD and zeros where the bytes have no such whole entry
abbrev pub read_at : List ℕ → ℕ → Fetched
read_at bytes i = record { no = cond (ltb i (length (entries_of bytes))) 0 10; entry = get_or (entries_of bytes) i no_entry }

-- ---- the writer

-- 1 ROOM: "lent output too short"; 2 LATE: "time over 281,474,976,710,655"
unfoldable pub write_no : Entry → List ℕ → ℕ
write_no e out = cond (ltb (length out) 12) 1 (cond (ltb 281_474_976_710_655 e.time) 2 0)

-- the number and how many bytes were written, 0 for a refusal
unfoldable pub written : Entry → List ℕ → Written
written e out = record { no = write_no e out; len = cond (eqb (write_no e out) 0) 12 0 }

-- what the output holds afterwards: the entry at its front, the rest untouched; a refusal changes nothing
unfoldable pub written_out : Entry → List ℕ → List ℕ
written_out e out = cond (eqb (write_no e out) 0) (bytes_of e ++ drop 12 out) out
