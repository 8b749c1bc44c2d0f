-- Document 01, "Numbers that calls return".
use Rattle.std.specs.Prelude.{ℕ, Result, Ok, Err}
use Rattle.refusal.specs.declared.Refusal.{Refusal}
use Rattle.refusal.specs.declared.Refusal.TheVariants.{Room, Late, Back, Flags, Place, Word, Length, Sum, Field, Record}

abbrev pub number_of : Refusal → ℕ
-- 1 ROOM: "lent output too short"
number_of Room = 1
-- 2 LATE: "time over 281,474,976,710,655"
number_of Late = 2
-- 3 BACK: "time below the latest one taken"
number_of Back = 3
-- 4 FLAGS: "flags hold a bit outside 70"
number_of Flags = 4
-- 5 PLACE: "position over 2,159,999"
number_of Place = 5
-- 6 WORD: "word over 7FF, or start bit 1"
number_of Word = 6
-- 7 LENGTH: "block under 3 bytes, or not count+3 long"
number_of Length = 7
-- 8 SUM: "checksum wrong"
number_of Sum = 8
-- 9 FIELD: "group over 15, over 15 data bytes, a time that is not four BCD bytes in range"
number_of Field = 9
-- 10 RECORD: "record not a multiple of 12 bytes, or over 65,532"
number_of Record = 10

-- 0 TAKEN: "none below applies"
abbrev pub no_of : {A : Type 0} → Result A Refusal → ℕ
no_of (Ok a) = 0
no_of (Err e) = number_of e
