-- Document 01, "Line record and turns" and "Numbers that calls return": what the marker hands out.
use Rattle.std.specs.Prelude.{ℕ, ◌/◌, ◌≤◌, ◌≡◌, true, false, cond, List, Result, Ok, Err, ltb, length, take, drop}
use Rattle.refusal.specs.declared.Refusal.{Refusal}
use Rattle.refusal.specs.Numbers.{number_of}
use Rattle.record.specs.Bytes.{entries_of, is_record}
use Rattle.record.specs.Marks.{Demand3}
use Rattle.record.specs.Machine.{Verdict, judge_from, judge}
use Rattle.marker.specs.declared.Marker.{Marker}
use Rattle.marker.specs.declared.Findings.{Findings}
use Rattle.marker.specs.declared.Marked.{Marked}
use Rattle.marker.specs.declared.reading.Reading.{Reading}
use Rattle.marker.specs.declared.reading.Ahead.{Ahead}
use Rattle.marker.specs.declared.reading.Ahead.TheVariants.{Fills, Heavy, End}
use Rattle.cursor.specs.Cursors.{taken_by, taken_at}
use Rattle.marker.specs.Faults.{fault_or_0}
use Rattle.marker.specs.Steps.{state, fills_block}

-- 10 RECORD: "record not a multiple of 12 bytes, or over 65,532"; 1 ROOM: "fewer places than entries"; "marker: 10, 1"
unfoldable pub refusal : (size room : ℕ) → ℕ
refusal size room = cond (is_record size) (cond (ltb room (size / 12)) 1 0) 10

-- "All of these but 0 return no other content (zeros ..)"
abbrev pub nothing : ℕ → Marked
nothing n = record { no = n; fault = 0; place = 0; count = 0 }

-- what `mark` answers, in these numbers
abbrev pub marked_by : Result Findings Refusal → Marked
marked_by (Ok f) = record { no = 0; fault = fault_or_0 f.fault; place = f.place; count = f.count }
marked_by (Err e) = nothing (number_of e)

-- "verdict, place and count": the automaton's, with the starts at the front of the table
abbrev pub verdict_of : Marked → List ℕ → Verdict
verdict_of r table = record { fault = r.fault; place = r.place; starts = take r.count table }

-- a record of no more bytes than one may have, and a table with a place for each of its entries
pub record Roomy (bytes table : List ℕ) : Type 0 where
  pub short : length bytes ≤ 65532
  pub room : length bytes / 12 ≤ length table

-- after i entries, with `count` turn starts at the front of the table, which held `before`: what is left of the record leads to
-- the verdict on the whole
pub record Leads (bytes before table : List ℕ) (m : Marker) (count i : ℕ) : Type 0 where
  pub within : i ≤ length bytes / 12
  pub few : count ≤ i
  pub size : length table ≡ length before
  pub leads : judge_from (drop i (entries_of bytes)) (state i (take count table) m) ≡ judge (entries_of bytes)
  pub rest : drop count table ≡ drop count before

-- what is ahead: the cursor takes an entry, and it is known whether it fills the block; or there is none
abbrev pub Faces : List ℕ → Reading → Ahead → Type 0
Faces bytes r (Fills t) = (taken_by r.place (Ok t) ≡ taken_at bytes r.place) × (fills_block r.marker t.entry ≡ true)
Faces bytes r (Heavy t) = (taken_by r.place (Ok t) ≡ taken_at bytes r.place) × (fills_block r.marker t.entry ≡ false)
Faces bytes r End = length bytes / 12 ≤ r.place

-- from one reading to a later one: so far the entries lead to the verdict on the whole
pub record Passes (bytes before : List ℕ) (from : Reading) (r : Reading × Ahead) (after : List ℕ) : Type 0 where
  pub leads : Leads bytes before after r.0.marker r.0.count r.0.place
  pub more : from.count ≤ r.0.count
  pub onward : from.place ≤ r.0.place
  pub ahead : Faces bytes r.0 r.1

-- the entries one after the other; `before` and `after` are what the table holds
pub record Runs (bytes before : List ℕ) (r : Marked) (after : List ℕ) : Type 0 where
  pub no : r.no ≡ 0
  pub verdict : verdict_of r after ≡ judge (entries_of bytes)
  pub few : r.count ≤ length (entries_of bytes)
  -- "the rest is untouched"
  pub rest : drop r.count after ≡ drop r.count before

-- the contract of `mark`
pub record Marks (bytes before : List ℕ) (r : Marked) (after : List ℕ) : Type 0 where
  pub number : r.no ≡ refusal (length bytes) (length before)
  -- a refused call changes nothing
  pub refused : (r.no ≡ 0 → ⊥) → (r ≡ nothing r.no) × (after ≡ before)
  -- demand 3: "sound" exactly when the record is, or else the first place that no sound record can get past and its fault;
  -- and the turn starts begun before the place
  pub demand : r.no ≡ 0 → Demand3 (entries_of bytes) r.fault r.place (take r.count after)
  pub few : r.no ≡ 0 → r.count ≤ length (entries_of bytes)
  pub rest : r.no ≡ 0 → drop r.count after ≡ drop r.count before
