-- Document 01, "Status". "All else is 0."
use Rattle.std.specs.Prelude.{Bool, true, false, not, ◌&&◌, ◌||◌, List, [], ◌∷◌, ℕ, zero, suc, ◌+◌, ◌*◌, eqb, ℤ, pos, negsuc}
use Rattle.settings.specs.declared.Mode.{Mode}
use Rattle.settings.specs.declared.Mode.TheVariants.{NoMode, Stop, Play, Record, FastForward, Rewind, Jog, Variable, Shuttle}
use Rattle.settings.specs.declared.Settings.{Settings}

abbrev pub bit : Bool → ℕ
bit true = 1
bit false = 0

abbrev pub mode_no : Mode → ℕ
mode_no NoMode = 0
mode_no Stop = 1
mode_no Play = 2
mode_no Record = 3
mode_no FastForward = 4
mode_no Rewind = 5
mode_no Jog = 6
mode_no Variable = 7
mode_no Shuttle = 8

-- "A mode bit is on in its own mode only."
abbrev pub is_mode : Mode → Mode → Bool
is_mode m own = eqb (mode_no m) (mode_no own)

abbrev pub below_zero : ℤ → Bool
below_zero (pos n) = false
below_zero (negsuc n) = true

abbrev pub is_zero : ℤ → Bool
is_zero (pos zero) = true
is_zero (pos (suc n)) = false
is_zero (negsuc n) = false

-- "byte 0, bit 0 local on, bit 5 cassette out."
abbrev pub status0 : Settings → ℕ
status0 s = bit s.local + 32 * bit (not s.cassette)

-- "Byte 1, bits 7 standby, 5 stop, 4 cassette out, 3 rewind, 2 fast forward, 1 record, 0 play."
abbrev pub status1 : Settings → ℕ
status1 s =
    bit (is_mode s.mode Play)
    + 2 * bit (is_mode s.mode Record)
    + 4 * bit (is_mode s.mode FastForward)
    + 8 * bit (is_mode s.mode Rewind)
    + 16 * bit (not s.cassette)
    + 32 * bit (is_mode s.mode Stop)
    + 128 * bit s.standby

-- "still (one of those three modes at speed 0)"
abbrev pub still : Settings → Bool
still s = (is_mode s.mode Shuttle || is_mode s.mode Jog || is_mode s.mode Variable) && is_zero s.speed

-- "Byte 2, bits 5 shuttle, 4 jog, 3 variable, 2 speed below 0, 1 still .., 0 cue-done."
abbrev pub status2 : Settings → ℕ
status2 s =
    bit s.cued
    + 2 * bit (still s)
    + 4 * bit (below_zero s.speed)
    + 8 * bit (is_mode s.mode Variable)
    + 16 * bit (is_mode s.mode Jog)
    + 32 * bit (is_mode s.mode Shuttle)

-- "Byte 3, bits 1 Out flag, 0 In flag."
abbrev pub status3 : Settings → ℕ
status3 s = bit s.inon + 2 * bit s.outon

-- all thirteen
unfoldable pub status_bytes : Settings → List ℕ
status_bytes s = status0 s ∷ status1 s ∷ status2 s ∷ status3 s ∷ 0 ∷ 0 ∷ 0 ∷ 0 ∷ 0 ∷ 0 ∷ 0 ∷ 0 ∷ 0 ∷ []
