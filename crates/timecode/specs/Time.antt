-- Document 01, "Times" and "Positions".
use Rattle.std.specs.Prelude.{Bool, cond, ◌&&◌, List, [], ◌∷◌, ◌≡◌, ℕ, ◌+◌, ◌-◌, ◌*◌, ◌/◌, ◌%◌, ◌<◌, eqb, ltb, length, get_or, Result, Ok, Err}
use Rattle.refusal.specs.declared.Refusal.{Refusal}
use Rattle.refusal.specs.Numbers.{number_of}
use Rattle.timecode.specs.Bcd.{bcd, bcd_value, bcd_below}

-- "at 25 frames: 0 to 24, 59, 59, 23"
abbrev pub frames : ℕ
frames = 25

-- the positions of a day: "Positions are 0 to 2,159,999"
abbrev pub day : ℕ
day = 24 * 60 * 60 * frames

-- "Times are frames, seconds, minutes, hours, one BCD byte each"
pub record Legal (bytes : List ℕ) : Type 0 where
  pub f : ℕ
  pub s : ℕ
  pub m : ℕ
  pub h : ℕ
  pub frame : f < frames
  pub second : s < 60
  pub minute : m < 60
  pub hour : h < 24
  pub are : bytes ≡ bcd f ∷ bcd s ∷ bcd m ∷ bcd h ∷ []

-- the position of a time
abbrev pub position_of : ℕ → ℕ → ℕ → ℕ → ℕ
position_of f s m h = ((h * 60 + m) * 60 + s) * frames + f

-- the time of a position
abbrev pub time_of : ℕ → List ℕ
time_of p = bcd (p % frames) ∷ bcd (p / frames % 60) ∷ bcd (p / frames / 60 % 60) ∷ bcd (p / frames / 60 / 60) ∷ []

-- four BCD bytes in range, frames first
abbrev pub is_time : List ℕ → Bool
is_time bytes =
    eqb (length bytes) 4
    && bcd_below frames (get_or bytes 0 0)
    && bcd_below 60 (get_or bytes 1 0)
    && bcd_below 60 (get_or bytes 2 0)
    && bcd_below 24 (get_or bytes 3 0)

-- a position, or the number of a refusal and 0
pub record Placed : Type 0 where
  pub no : ℕ
  pub position : ℕ

abbrev pub placed : ℕ → ℕ → Placed
placed n p = record { no = n; position = p }

-- an answer as number and position: a refusal has none
abbrev pub placed_by : Result ℕ Refusal → Placed
placed_by (Ok p) = placed 0 p
placed_by (Err e) = placed (number_of e) 0

-- time bytes, or the number of a refusal and zeros
pub record Timed : Type 0 where
  pub no : ℕ
  pub bytes : List ℕ

-- an answer as number and bytes: a refusal has none
abbrev pub timed_by : Result (List ℕ) Refusal → Timed
timed_by (Ok b) = record { no = 0; bytes = b }
timed_by (Err e) = record { no = number_of e; bytes = 0 ∷ 0 ∷ 0 ∷ 0 ∷ [] }

-- from time bytes; 9 FIELD: "a time that is not four BCD bytes in range"
unfoldable pub read_time : List ℕ → Placed
read_time bytes =
    cond (is_time bytes)
    (placed 0
    (position_of (bcd_value (get_or bytes 0 0)) (bcd_value (get_or bytes 1 0)) (bcd_value (get_or bytes 2 0)) (bcd_value (get_or bytes 3 0))))
    (placed 9 0)

-- to time bytes; 5 PLACE: "position over 2,159,999"
unfoldable pub write_time : ℕ → Timed
write_time p = cond (ltb p day) (record { no = 0; bytes = time_of p }) (record { no = 5; bytes = 0 ∷ 0 ∷ 0 ∷ 0 ∷ [] })

-- one frame on and one back; "steps and shifts go round at midnight"
unfoldable pub frame_on : ℕ → Placed
frame_on p = cond (ltb p day) (placed 0 ((p + 1) % day)) (placed 5 0)

unfoldable pub frame_back : ℕ → Placed
frame_back p = cond (ltb p day) (placed 0 ((p + (day - 1)) % day)) (placed 5 0)
