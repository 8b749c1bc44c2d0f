-- Document 01, "Commands": what the acknowledged commands do.
use Rattle.std.specs.Prelude.{Bool, true, false, cond, List, ℕ, eqb, ℤ, pos, get_or}
use Rattle.speed.specs.Speed.{speed_of, signed}
use Rattle.timecode.specs.Time.{read_time, frame_on, frame_back}
use Rattle.command.specs.declared.Direction.{Direction}
use Rattle.command.specs.declared.Direction.TheVariants.{Forward, Reverse}
use Rattle.command.specs.declared.Effect.{Effect}
use Rattle.command.specs.declared.Effect.TheVariants.{Local, Standby, Transport, Take, Preset, Shift, Flag}
use Rattle.settings.specs.declared.Mode.{Mode}
use Rattle.settings.specs.declared.Mode.TheVariants.{NoMode, Stop, Jog}
use Rattle.command.specs.declared.Motion.{Motion}
use Rattle.command.specs.declared.Motion.TheVariants.{Run, Vary, Step, Cue, Eject}
use Rattle.settings.specs.declared.Settings.{Settings}
use Rattle.settings.specs.Settings.{point, point_of, with_local, with_standby, with_cued, with_position, with_motion, with_cassette, with_point}

-- one frame on or back; "steps and shifts go round at midnight"
abbrev pub shifted : Direction → ℕ → ℕ
shifted Reverse p = (frame_back p).position
shifted Forward p = (frame_on p).position

abbrev pub is_reverse : Direction → Bool
is_reverse Forward = false
is_reverse Reverse = true

-- the time given, as a position
abbrev pub given : List ℕ → ℕ
given time = (read_time time).position

-- A public call takes any data. What cannot be honoured, a cue or a preset whose data are no time, changes nothing.
abbrev pub if_time : List ℕ → Settings → Settings → Settings
if_time bytes after s = cond (eqb (read_time bytes).no 0) after s

-- another mode and speed; "Cue-done goes off at every motion command but cue, and at eject."
abbrev pub moving : Mode → ℤ → Settings → Settings
moving m v s = with_cued false (with_motion m v s)

-- the motion commands and eject
unfoldable pub transport : Motion → Settings → List ℕ → Settings
transport (Run m v) s bytes = moving m v s
-- "jog, variable, shuttle .., with speed byte N"
transport (Vary m way) s bytes = moving m (signed (is_reverse way) (speed_of (get_or bytes 0 0))) s
-- "one frame on, one back; mode jog, speed 0"
transport (Step way) s bytes = with_position (shifted way s.position) (moving Jog (pos 0) s)
-- "cue: the position becomes the time given; mode stop; cue-done on"; "Stop has speed 0."
transport Cue s bytes = if_time bytes (with_position (given bytes) (with_cued true (with_motion Stop (pos 0) s))) s
-- "eject: cassette out, no mode, speed 0"
transport Eject s bytes = with_cassette false (moving NoMode (pos 0) s)

unfoldable pub perform : Effect → Settings → List ℕ → Settings
perform (Local b) s bytes = with_local b s
perform (Standby b) s bytes = with_standby b s
-- "With the cassette out they and eject are acknowledged without effect"
perform (Transport m) s bytes = cond s.cassette (transport m s bytes) s
-- "In, Out become the position and their flag goes on"
perform (Take w) s bytes = with_point w (point s.position true) s
-- "the same from a time given"
perform (Preset w) s bytes = if_time bytes (with_point w (point (given bytes) true) s) s
-- "one frame on, back"
perform (Shift w way) s bytes = with_point w (point (shifted way (point_of w s).at) (point_of w s).on) s
-- "flag off; .. on"
perform (Flag w b) s bytes = with_point w (point (point_of w s).at b) s

-- the data test: cue and the presets want a time
abbrev pub wants_time : Effect → Bool
wants_time (Local b) = false
wants_time (Standby b) = false
wants_time (Transport (Run m v)) = false
wants_time (Transport (Vary m way)) = false
wants_time (Transport (Step way)) = false
wants_time (Transport Cue) = true
wants_time (Transport Eject) = false
wants_time (Take w) = false
wants_time (Preset w) = true
wants_time (Shift w way) = false
wants_time (Flag w b) = false

abbrev pub fits : Effect → List ℕ → Bool
fits e bytes = cond (wants_time e) (eqb (read_time bytes).no 0) true
