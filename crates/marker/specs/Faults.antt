-- Document 01, "Line record and turns": the numbers of the faults.
use Rattle.std.specs.Prelude.{ℕ, Option, Some, None, Result, Ok, Err}
use Rattle.marker.specs.declared.faults.Fault.{Fault}
use Rattle.marker.specs.declared.faults.Fault.TheVariants.{Malformed, Falls, Unawaited, Differs, Overdue, Interrupts, Stops}

abbrev pub fault_number : Fault → ℕ
-- "20 entry malformed"
fault_number Malformed = 20
-- "21 time falls"
fault_number Falls = 21
-- "22 deck byte with no reply awaited"
fault_number Unawaited = 22
-- "23 deck byte differs from the reply"
fault_number Differs = 23
-- "24 an awaited deck byte is overdue at this entry's time"
fault_number Overdue = 24
-- "25 controller entry while a reply is awaited and not in quiet"
fault_number Interrupts = 25
-- "26: record stops inside a turn, place = number of entries."
fault_number Stops = 26

-- 0 where there is none
abbrev pub fault_or_0 : Option Fault → ℕ
fault_or_0 None = 0
fault_or_0 (Some f) = fault_number f

-- and where a fault stands in the place of an answer
abbrev pub fault_in : {A : Type 0} → Result A Fault → ℕ
fault_in (Ok a) = 0
fault_in (Err f) = fault_number f
