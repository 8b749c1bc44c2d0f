-- Texts and lines by computation.
use Prim.Native.Nat.{ℕ}
use mathlib.Core.Bool.{true, false}
use mathlib.Core.List.{List, [], ◌∷◌, ◌++◌, map}
use mathlib.Core.Path.{◌≡◌, refl}
use lib.IntN.{negsuc}
use Rattle.settings.specs.declared.Mode.TheVariants.{Variable}
use Rattle.settings.specs.Settings.{settings, point}
use Rattle.settings.specs.Status.{status_bytes}
use Rattle.timecode.specs.Time.{write_time}
use Rattle.marker.specs.declared.Marked.{Marked}
use Rattle.text.specs.Text.{digits_of, hexes, line, at_line, hex_line}
use Rattle.report.specs.Verdict.{turn_lines, verdict_line, text_of}
use Rattle.report.specs.Transcript.{speed_line, time_lines, settings_lines}

-- a verdict, its turn starts and the bytes that are printed
pub record Case : Type 0 where
  pub marked : Marked
  pub starts : List ℕ
  pub bytes : List ℕ

abbrev pub case : (number fault place count : ℕ) (starts bytes : List ℕ) → Case
case number fault place count starts bytes =
    record { marked = record { no = number; fault = fault; place = place; count = count }; starts = starts; bytes = bytes }

abbrev pub cases : List Case
cases =
    -- "sound 0"
    case 0 0 0 0 [] (115 ∷ 111 ∷ 117 ∷ 110 ∷ 100 ∷ 32 ∷ 48 ∷ 10 ∷ []) ∷
    -- "fault 24 at 3"
    case 0 24 3 0 [] (102 ∷ 97 ∷ 117 ∷ 108 ∷ 116 ∷ 32 ∷ 50 ∷ 52 ∷ 32 ∷ 97 ∷ 116 ∷ 32 ∷ 51 ∷ 10 ∷ []) ∷
    -- "refused 10"
    case 10 0 0 0 [] (114 ∷ 101 ∷ 102 ∷ 117 ∷ 115 ∷ 101 ∷ 100 ∷ 32 ∷ 49 ∷ 48 ∷ 10 ∷ []) ∷
    -- "fault 25 at 17", "turn 0", "turn 12"
    case 0 25 17 2 (0 ∷ 12 ∷ [])
    ((102 ∷ 97 ∷ 117 ∷ 108 ∷ 116 ∷ 32 ∷ 50 ∷ 53 ∷ 32 ∷ 97 ∷ 116 ∷ 32 ∷ 49 ∷ 55 ∷ 10 ∷ [])
    ++ (116 ∷ 117 ∷ 114 ∷ 110 ∷ 32 ∷ 48 ∷ 10 ∷ []) ++ (116 ∷ 117 ∷ 114 ∷ 110 ∷ 32 ∷ 49 ∷ 50 ∷ 10 ∷ [])) ∷
    []

pub texts : map (λ (c : Case). text_of c.marked c.starts) cases ≡ map (λ (c : Case). c.bytes) cases
unfolding text_of verdict_line turn_lines line at_line digits_of
texts = refl

-- "speed -2147483648": the least i32
pub least : speed_line (negsuc 2147483647)
    ≡ (115 ∷ 112 ∷ 101 ∷ 101 ∷ 100 ∷ 32 ∷ 45 ∷ [])
    ++ (50 ∷ 49 ∷ 52 ∷ 55 ∷ 52 ∷ 56 ∷ 51 ∷ 54 ∷ 52 ∷ 56 ∷ 10 ∷ [])
unfolding speed_line line digits_of
least = refl

-- variable, in reverse at the play speed, standby on, at the last frame of a day; In is frame 26, Out is no position:
-- "status 00 80 0C 01 00 00 00 00 00 00 00 00 00", "time 24 59 59 23", "in 01 01 00 00", "out 00 00 00 00", "speed -1000"
pub reverse : settings_lines (settings true Variable (negsuc 999) false true false 2159999 (point 26 true) (point 2160000 false))
    ≡ (115 ∷ 116 ∷ 97 ∷ 116 ∷ 117 ∷ 115 ∷ [])
    ++ (32 ∷ 48 ∷ 48 ∷ 32 ∷ 56 ∷ 48 ∷ 32 ∷ 48 ∷ 67 ∷ 32 ∷ 48 ∷ 49 ∷ 32 ∷ 48 ∷ 48 ∷ [])
    ++ (32 ∷ 48 ∷ 48 ∷ 32 ∷ 48 ∷ 48 ∷ 32 ∷ 48 ∷ 48 ∷ 32 ∷ 48 ∷ 48 ∷ [])
    ++ (32 ∷ 48 ∷ 48 ∷ 32 ∷ 48 ∷ 48 ∷ 32 ∷ 48 ∷ 48 ∷ 32 ∷ 48 ∷ 48 ∷ 10 ∷ [])
    ++ (116 ∷ 105 ∷ 109 ∷ 101 ∷ 32 ∷ 50 ∷ 52 ∷ 32 ∷ 53 ∷ 57 ∷ 32 ∷ 53 ∷ 57 ∷ 32 ∷ 50 ∷ 51 ∷ 10 ∷ [])
    ++ (105 ∷ 110 ∷ 32 ∷ 48 ∷ 49 ∷ 32 ∷ 48 ∷ 49 ∷ 32 ∷ 48 ∷ 48 ∷ 32 ∷ 48 ∷ 48 ∷ 10 ∷ [])
    ++ (111 ∷ 117 ∷ 116 ∷ 32 ∷ 48 ∷ 48 ∷ 32 ∷ 48 ∷ 48 ∷ 32 ∷ 48 ∷ 48 ∷ 32 ∷ 48 ∷ 48 ∷ 10 ∷ [])
    ++ (115 ∷ 112 ∷ 101 ∷ 101 ∷ 100 ∷ 32 ∷ 45 ∷ 49 ∷ 48 ∷ 48 ∷ 48 ∷ 10 ∷ [])
unfolding settings_lines time_lines speed_line hex_line hexes line digits_of status_bytes write_time
reverse = refl
