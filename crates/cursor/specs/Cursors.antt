-- Document 01, "Line record and turns": "The marker reads the record through a cursor that knows where it stands." The cursor
-- stands at an entry, or at the end.
use Rattle.std.specs.Prelude.{ℕ, ◌+◌, ◌≡◌, cond, List, Option, Result, Ok, Err, ok_or, ltb, length, drop}
use Rattle.std.specs.Borrow.{Bor}
use Rattle.refusal.specs.declared.Refusal.{Refusal}
use Rattle.refusal.specs.declared.Refusal.TheVariants.{Record}
use Rattle.refusal.specs.Numbers.{number_of}
use Rattle.record.specs.declared.Entry.{Entry}
use Rattle.record.specs.Bytes.{entries_of, no_entry, fetched_by, read_at}
use Rattle.cursor.specs.declared.Cursor.{Cursor}
use Rattle.cursor.specs.declared.Taken.{Taken as Got}

-- the place after i: one on where the record has an entry at i, else the same
unfoldable pub next_place : List ℕ → ℕ → ℕ
next_place bytes i = cond (ltb i (length (entries_of bytes))) (i + 1) i

-- on this record, at i
abbrev pub standing : Bor (List ℕ) → ℕ → Cursor
standing bytes i = record { bytes = bytes; place = i }

-- on the same record, at the place after
abbrev pub onward : Cursor → Cursor
onward c = standing c.bytes (next_place c.bytes.now c.place)

-- the entries from the cursor on
abbrev pub entries_left : Cursor → List Entry
entries_left c = drop c.place (entries_of c.bytes.now)

-- a call gives the entry where the cursor stood, or none at the end, and moves the cursor on
pub record Moves (c : Cursor) (r : Option Entry) (after : Cursor) : Type 0 where
  pub gives : fetched_by (ok_or r Record) ≡ read_at c.bytes.now c.place
  pub moves : after ≡ onward c

-- the entry that was taken and the place after it, or the number that says that there is none
pub record Taken : Type 0 where
  pub no : ℕ
  pub entry : Entry
  pub place : ℕ

-- the answer at i, as number, entry and place: zeros and the same place where there is none
abbrev pub taken_by : ℕ → Result Got Refusal → Taken
taken_by i (Ok t) = record { no = 0; entry = t.entry; place = t.place }
taken_by i (Err e) = record { no = number_of e; entry = no_entry; place = i }

-- what is read at i, and the place after it
abbrev pub taken_at : List ℕ → ℕ → Taken
taken_at bytes i = record { no = (read_at bytes i).no; entry = (read_at bytes i).entry; place = next_place bytes i }
